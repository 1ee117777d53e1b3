-- What a trial decides: to keep, meet or take a vertex, or a reply, which is 6 where it takes its source.
use Prim.Native.Nat.{ℕ}
use mathlib.Core.Bool.{true}
use mathlib.Core.Path.{◌≡◌, refl}
use borrow.Author.Tests.{eqb-true, eqb-false, leb-false}
use lib.Dec.{eqb, leb}
use Rattle.catalogue.specs.Numbers.{edge_tail, marked, added, some_link}
use Rattle.catalogue.specs.Catalogue.{Catalogue, vertex_link, first_link, edge_link, edge_target, at_mark}
use Rattle.catalogue.specs.Live.{unmarked}
use Rattle.catalogue.specs.Workers.{has}
use Rattle.catalogue.specs.Steps.Both.{at_both}
use Rattle.catalogue.specs.Steps.Trial.{end_trial, cross, pass_edge, step_open, take_front, step_shut, see_trial, trial_shut, trial_open}
use Rattle.std.proofs.Common.{Some, None}
use Rattle.catalogue.specs.declared.steps.BothSeen.{BothSeen}
use Rattle.catalogue.specs.declared.steps.BothSeen.TheVariants as both
use Rattle.catalogue.specs.declared.steps.Decision.{Decision}
use Rattle.catalogue.specs.declared.steps.Decision.TheVariants.{Torn, Keeps}
use Rattle.catalogue.specs.declared.workers.Ahead.{Ahead}
use Rattle.catalogue.specs.declared.workers.Ends.{Ends}
use Rattle.catalogue.specs.declared.workers.Place.{Place}
use Rattle.catalogue.specs.declared.workers.Place.TheVariants.{Trial, TrialOpen}
use Rattle.catalogue.specs.declared.writes.Write.TheVariants.{EdgeLink}
use Rattle.laws.proofs.Picks.{pick_both, link_both, target_both}
use Rattle.promises.proofs.Fates.Told.{Told, Fate, stays, closes, skips, opens, in_row, loops}

module _ (C : Catalogue) (a : Ahead) where
  abbrev F : Place → Decision → Type 0
  F pl = Fate C a pl

  ended : (pl : Place) (e tag r : ℕ) → ((next old : ℕ) → edge_link C e ≡ some_link next old → Told C a pl r (EdgeLink e next tag))
      → F pl (end_trial C e tag r)
  unfolding end_trial
  ended pl e tag r f = link_both (F pl) (edge_link C e) _ _ tt f

  withdrawn : (pl : Place) (e : ℕ) (z : BothSeen) (d : Decision) → F pl d → F pl (at_both z Torn (end_trial C e marked 3) d)
  withdrawn pl e both.Torn d f = tt
  withdrawn pl e both.Dead d f = ended pl e marked 3 (λ next old q. in_row refl tt)
  withdrawn pl e both.Standing d f = f

  -- the mark of a vertex
  mark_both : (P : Decision → Type 0) (y : ℕ) (dead live : Decision) → P Torn → P dead → (unmarked C y ≡ true → P live)
      → P (at_mark (vertex_link C y) Torn dead live)
  mark_both P y dead live t f g =
      by (vertex_link C y) refl
    where
      by : (z : _) → vertex_link C y ≡ z → P (at_mark z Torn dead live)
      by None q = t
      by (Some l) q = pick_both P (eqb l.tag marked) dead live (λ e. f) (λ e. g (rw (q, e)))

  module _ (ends : Ends) (e : ℕ) where
    pub tries_shut : F (Trial ends e) (trial_shut C a ends e)
    unfolding trial_shut step_shut take_front
    tries_shut =
        withdrawn (Trial ends e) e (see_trial C a ends) _
        (pick_both P (eqb a.front a.back) _ _
        (λ b. ended (Trial ends e) e added 1 (λ next old q. in_row refl tt))
        (λ b. let some = eqb-false a.front a.back b in
        pick_both P (eqb a.x ends.u) _ _
        (λ d. ended (Trial ends e) e marked 6 (λ next old q.
        loops refl (record { ends = ends; e = e; next = next; old = old; is = refl; writes = refl; link = q; front_is = eqb-true a.x ends.u d; some = some })))
        (λ d. mark_both P a.x _ _ tt (skips ends e refl refl some)
        (λ m. link_both P (first_link C a.x) _ _ tt (λ c tag q. opens ends e c refl refl some (eqb-false a.x ends.u d))))))
      where
        P : Decision → Type 0
        P = F (Trial ends e)

    pub tries_open : (y c : ℕ) → F (TrialOpen ends e y c) (trial_open C a ends e y c)
    unfolding trial_open step_open pass_edge cross
    tries_open y c =
        withdrawn (TrialOpen ends e y c) e (see_trial C a ends) _
        (mark_both P y _ _ tt shuts (λ source.
        pick_both P (eqb c edge_tail) _ _ (λ d. shuts) (λ d.
        link_both P (edge_link C c) _ _ tt (λ next tag q.
        pick_both P (eqb tag marked) _ _ (λ b. on next) (λ b.
        target_both P (edge_target C c) _ _ tt (λ z g.
        mark_both P z _ _ tt (on next) (λ goal.
        pick_both P (has a.met z) _ _ (λ h. on next) (λ h.
        pick_both P (leb 256 a.back) _ _ (λ i. tt) (λ i.
        record {
          ends = ends;
          e = e;
          x = y;
          c = c;
          d = next;
          tag = tag;
          from = refl;
          to = refl;
          link = q;
          plain = eqb-false tag marked b;
          leads = g;
          source = source;
          goal = goal;
          inner = eqb-false c edge_tail d;
          room = leb-false 256 a.back i;
        })))))))))
      where
        P : Decision → Type 0
        P = F (TrialOpen ends e y c)

        shuts : P (Keeps (Trial ends e))
        shuts = closes ends e y c refl refl

        on : (next : ℕ) → P (Keeps (TrialOpen ends e y next))
        on next = stays ends e y c next refl refl
