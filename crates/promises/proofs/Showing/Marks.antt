-- The tests of tags are those of the world, and so are the marks that a step reads: of one vertex, and of u and v.
use Prim.Native.Nat.{ℕ}
use mathlib.Core.Bool.{Bool, true, false, cond, ◌||◌}
use mathlib.Core.Path.{◌≡◌, refl, ◌∙◌}
use native.Mathlib.Omega.{arith}
use lib.Dec.{eqb}
use Rattle.catalogue.specs.Tests.{pick}
use Rattle.catalogue.specs.Catalogue.{Catalogue, vertex_link, at_mark}
use Rattle.catalogue.specs.Steps.Both.{see_both, at_both}
use Rattle.catalogue.specs.declared.steps.BothSeen.TheVariants as both
use Rattle.row.specs.Lists.Edges.{Tag, marked, transit, added, is_marked}
use Rattle.row.specs.Machine.World.{World}
use Rattle.promises.proofs.Showing.Shows.{Shows, Series, vertex_tag_of, edge_tag_of}
use Rattle.promises.proofs.Showing.Tests.{pick_or}

vertex_is_marked : (b : Bool) → eqb (vertex_tag_of b) 1 ≡ b
vertex_is_marked true = refl
vertex_is_marked false = refl

pub edge_is_marked : (t : Tag) → eqb (edge_tag_of t) 1 ≡ is_marked t
edge_is_marked marked = refl
edge_is_marked transit = refl
edge_is_marked added = refl

module _ (C : Catalogue) (W : World) (s : Shows C W) where
  pub mark_seen : {A : Type 0} (x : ℕ) → Series W.v.used x → (torn dead live : A)
      → at_mark (vertex_link C x) torn dead live ≡ pick (W.v.marked x) dead live
  mark_seen x h torn dead live = rw (s.vlinks x h.high (omega arith), vertex_is_marked (W.v.marked x)) refl

  pub both_seen : (u v : ℕ) → Series W.v.used u → Series W.v.used v
      → see_both C u v ≡ cond (W.v.marked u || W.v.marked v) both.Dead both.Standing
  unfolding see_both
  both_seen u v m n =
      rw (mark_seen v n both.Torn both.Dead both.Standing)
      (mark_seen u m both.Torn both.Dead _ ∙ pick_or (W.v.marked u) (W.v.marked v) both.Dead both.Standing)

-- what follows from them
pub at_both_cond : {A : Type 0} (b : Bool) (torn dead standing : A) → at_both (cond b both.Dead both.Standing) torn dead standing ≡ cond b dead standing
at_both_cond true torn dead standing = refl
at_both_cond false torn dead standing = refl
