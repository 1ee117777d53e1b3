-- An edge made anew or passed over, by the memory after each callee and the result of the test.
use Prim.Native.Nat.{ℕ, ◌+◌, ◌≤◌, ◌<◌}
use mathlib.Core.Bool.{Bool, true, false}
use mathlib.Core.Path.{◌≡◌, refl, sym, ap, ◌∙◌}
use native.Mathlib.Omega.{arith}
use mir.Syntax.{w16}
use mir.Val.{Fits}
use mir.Facts.{to_z-of_z}
use borrow.Author.Rules.{rules}
use lib.IntN.{ℤ}
use Rattle.catalogue.specs.Lent.{Memory}
use Rattle.survey.proofs.Lives.{live_in_pool}
use Rattle.sweep.specs.declared.copies.Tip.{Tip}
use Rattle.sweep.specs.Built.{with_edge, copied, tip_after}

-- an edge, by the result r of its test
module _ (t r : Bool) (q : r ≡ t) (tip : Tip) where
  module _ (h : r ≡ true) where
    pub edge_copied : (m m' : Memory) (key key' read : ℤ) (target number : ℕ) → key' ≡ key → key ≡ read → target ≡ number
        → m' ≡ with_edge tip.n key' target tip.source tip.p m → m' ≡ copied t tip read number m
    unfolding copied
    edge_copied m m' key key' read target number same here to made =
        rw (sym q ∙ h)
        (made
        ∙ ap (λ k. with_edge tip.n k target tip.source tip.p m) (same ∙ here)
        ∙ ap (λ y. with_edge tip.n read y tip.source tip.p m) to)

    pub tip_moved : record { source = tip.source; n = tip.n + 1; p = tip.n + 1 } ≡ tip_after t tip
    unfolding tip_after
    tip_moved = rw (sym q ∙ h) refl

    -- there is room for the edge
    module _ (room : (tip_after t tip).n ≤ 2047) where
      one_more : tip.n + 1 ≤ 2047
      one_more = rw (← ap (λ (k : Tip). k.n) tip_moved) at room

      pub tip_room : tip.n < 2047
      tip_room = omega (arith, one_more)

      pub tip_fits : (n : ℕ) → n ≡ tip.n → Fits w16 (n + 1)
      tip_fits n e = record { fits = omega (arith, one_more) }

  module _ (h : r ≡ false) where
    pub edge_passed : (m : Memory) (key : ℤ) (target : ℕ) → m ≡ copied t tip key target m
    unfolding copied
    edge_passed m key target = rw (sym q ∙ h) refl

    pub tip_kept : tip ≡ tip_after t tip
    unfolding tip_after
    tip_kept = rw (sym q ∙ h) refl

pub ruleset edge_copy = (edge_copied, tip_moved, tip_room, tip_fits, edge_passed, tip_kept, live_in_pool, to_z-of_z, rules)
