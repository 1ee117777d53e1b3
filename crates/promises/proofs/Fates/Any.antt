-- What a decision implies, at any place.
use Prim.Native.Nat.{ℕ, ◌≤◌}
use mathlib.Core.Path.{◌≡◌, subst}
use Rattle.catalogue.specs.Catalogue.{Catalogue}
use Rattle.catalogue.specs.Workers.{request_of, ahead}
use Rattle.catalogue.specs.Steps.Places.{key_refused}
use Rattle.catalogue.specs.Steps.Decide.{step_at, decide_at, decide}
use Rattle.catalogue.specs.declared.steps.Decision.{Decision}
use Rattle.catalogue.specs.declared.steps.Decision.TheVariants.{Reply}
use Rattle.catalogue.specs.declared.workers.Ahead.{Ahead}
use Rattle.catalogue.specs.declared.workers.Place.{Place}
use Rattle.catalogue.specs.declared.workers.Place.TheVariants.{Idle, AddV, RemV, ConV, AddEFindU, RemEFindU, ConEFindU, AddEFindV, RemEFindV, ConEFindV, AddE, RemE, ConE, Trial, TrialOpen}
use Rattle.catalogue.specs.declared.workers.Worker.{Worker}
use Rattle.catalogue.specs.declared.writes.Write.{Write}
use Rattle.laws.proofs.Picks.{pick_both}
use Rattle.promises.proofs.Fates.Told.{Fate, told_small}
use Rattle.promises.proofs.Fates.Vertices.{adds_vertex, removes_vertex}
use Rattle.promises.proofs.Fates.Finding.{contains, finds_u, finds_v}
use Rattle.promises.proofs.Fates.Edges.{contains_edge, adds_edge, removes_edge}
use Rattle.promises.proofs.Fates.Trials.{tries_shut, tries_open}

module _ (C : Catalogue) (a : Ahead) where
  abbrev F : Place → Decision → Type 0
  F pl = Fate C a pl

  fates : (pl : Place) → F pl (step_at C pl a)
  fates Idle = tt
  fates (AddV k p c) = adds_vertex C a k p c
  fates (RemV k p c) = removes_vertex C a k p c
  fates (ConV k c) = contains C a k c
  fates (AddEFindU pair c) = finds_u C a (AddEFindU pair c) 4 pair c
  fates (RemEFindU pair c) = finds_u C a (RemEFindU pair c) 5 pair c
  fates (ConEFindU pair c) = finds_u C a (ConEFindU pair c) 6 pair c
  fates (AddEFindV pair u c) = finds_v C a (AddEFindV pair u c) 4 pair u c
  fates (RemEFindV pair u c) = finds_v C a (RemEFindV pair u c) 5 pair u c
  fates (ConEFindV pair u c) = finds_v C a (ConEFindV pair u c) 6 pair u c
  fates (AddE ends p c) = adds_edge C a ends p c
  fates (RemE ends p c) = removes_edge C a ends p c
  fates (ConE ends c) = contains_edge C a ends c
  fates (Trial ends e) = tries_shut C a ends e
  fates (TrialOpen ends e y c) = tries_open C a ends e y c

pub fate : (C : Catalogue) (w : Worker) → Fate C (ahead w.reach) w.place (decide C w)
unfolding decide_at
fate C w =
    let a = ahead w.reach in
    pick_both (Fate C a w.place) (key_refused (request_of w.place)) _ _ (λ e. tt) (λ e. fates C a w.place)

-- a reply has one digit
pub reply_small : (C : Catalogue) (w : Worker) (n : ℕ) (write : Write) → decide C w ≡ Reply n write → n ≤ 9
reply_small C w n write e = told_small (subst (Fate C (ahead w.reach) w.place) e (fate C w))
