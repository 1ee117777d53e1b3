-- Each way out is the case of the definition that its checks choose, in any table that has the record.
use mathlib.Core.Path.{◌≡◌, sym, ◌∙◌}
use Rattle.std.proofs.Common.{rules}
use Rattle.memory.proofs.Sizes.{size_passes, size_stops, worded_passed}
use Rattle.host.proofs.Stepping.{one_unsized, one_worker, one_idle, one_stepped}
use Rattle.host.proofs.one.step_one.Goals as goal

pub returns-in_default : goal.returns-in_default
returns-in_default c = one_unsized _ _ _ _ _ _ (size_stops _ _ (sym c.in_default.is ∙ c.sized.ensures)) c.refuse.ensures

pub returns-then-not-worker_fits : goal.returns-then-not-worker_fits
returns-then-not-worker_fits c =
    one_worker _ _ _ _ _ _ (size_passes _ _ (sym c.in-Ok.is ∙ c.sized.ensures)) (sym c.if-not-worker_fits.ensures) c.refuse-then-not-worker_fits.ensures

pub returns-then-not-busy_at : goal.returns-then-not-busy_at
returns-then-not-busy_at c =
    one_idle _ _ _ _ _ _ (size_passes _ _ (sym c.in-Ok.is ∙ c.sized.ensures)) (sym c.if-not-worker_fits.ensures)
    _ c.from-w.ensures (sym c.if-not-busy_at.ensures) c.refuse-then-not-busy_at.ensures

pub unwrap-words-requires : goal.unwrap-words-requires
unwrap-words-requires c = c.as_mut_array-2.ensures.variant.1 (worded_passed _ _ _ (sym c.in-Ok.is ∙ c.sized.ensures))

pub returns : goal.returns
returns c =
    let k : c.unwrap-keys.result.now ≡ c.args.keys.now = search rules in
    let w : c.unwrap-words.result.now ≡ c.args.words.now = search rules in
    one_stepped _ _ _ _ _ _ (size_passes _ _ (sym c.in-Ok.is ∙ c.sized.ensures)) (sym c.if-not-worker_fits.ensures)
    _ c.from-w.ensures (sym c.if-not-busy_at.ensures) _ _ _ (rw (k, w) at c.step_record-s.ensures.value) c.settle.ensures (rw (k, w) at c.step_record-s.ensures.hold)
