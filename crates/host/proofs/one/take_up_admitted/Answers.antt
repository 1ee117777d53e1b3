-- Each way out is the case of the definition that its checks choose, in any table that has the record.
use mathlib.Core.Path.{sym, ◌∙◌, ap}
use Rattle.catalogue.specs.Calls.{admit}
use Rattle.catalogue.specs.Lent.{Memory, view}
use Rattle.catalogue.specs.declared.workers.Place.{Place}
use Rattle.catalogue.specs.declared.workers.Request.{Request}
use Rattle.std.proofs.Common.{◌≡◌}
use Rattle.host.proofs.Starting.{take_unsized, take_worker, take_admitted}
use Rattle.host.proofs.one.take_up_admitted.Goals as goal

-- what is lent of memory is the memory
of_memory : {m n : Memory} → m ≡ n → (place : Place) (q : Request) → admit (view m) place q ≡ admit (view n) place q
of_memory e place q = ap (λ m. admit (view m) place q) e

pub returns-in_default : goal.returns-in_default
returns-in_default c = take_unsized _ _ _ _ _ _ c.in_default.ensures.0 c.refuse.ensures

pub returns-then-not-worker_fits : goal.returns-then-not-worker_fits
returns-then-not-worker_fits c = take_worker _ _ _ _ _ _ c.in-Ok.ensures.0 (sym c.if-not-worker_fits.ensures) c.refuse-then-not-worker_fits.ensures

pub returns : goal.returns
returns c =
    take_admitted _ _ _ _ _ _ c.in-Ok.ensures.0 (sym c.if-not-worker_fits.ensures)
    _ c.from-w.ensures _ (c.admit.ensures ∙ of_memory c.in-Ok.ensures.1 _ c.args.q) c.enter.ensures
