-- Numbers that were read, or handed out, lie in their pools.
use Prim.Native.Nat.{ℕ, ◌+◌, ◌<◌, ◌≤◌, ◌/◌, ◌%◌}
use mathlib.Core.Bool.{true, false}
use mathlib.Core.Path.{◌≡◌, refl, sym, ◌∙◌, subst}
use native.Mathlib.Omega.{arith}
use borrow.Author.Tests.{ltb-true}
use mir.Syntax.{w8}
use mir.Val.{Fits}
use lib.Dec.{ltb, eqb}
use Rattle.std.proofs.Common.{Option, Some, None}
use Rattle.catalogue.specs.Numbers.{edge_pool, room, edge_tag}
use Rattle.catalogue.specs.Catalogue.{Catalogue, edge_link_in, edge_link}
use Rattle.catalogue.specs.Live.{is_added, is_live}
use Rattle.catalogue.specs.declared.links.Link.{Link}
use Rattle.catalogue.specs.declared.links.Room.{Room}
use Rattle.catalogue.specs.declared.links.Room.TheVariants as room
use Rattle.laws.proofs.Picks.{clash, both_true, pick_both, link_both}

-- an edge whose link was read whole
abbrev Linked : ℕ → Option (Link ℕ) → Type 0
Linked n (Some l) = n < 2048
Linked n None = Unit {0}

linked : (words : ℕ → ℕ) (n : ℕ) → Linked n (edge_link_in words n)
unfolding edge_link_in
linked words n =
    pick_both (Linked n) (eqb n 0) _ _ (λ e. tt)
    (λ e. pick_both (Linked n) (ltb n 2048) _ _
    (λ e. pick_both (Linked n) (ltb (words n / 4) 2048) _ _
    (λ g. pick_both (Linked n) (edge_tag (words n % 4)) _ _ (λ h. ltb-true n 2048 e) (λ h. tt))
    (λ g. tt))
    (λ e. tt))

pub edge_in_pool : (words : ℕ → ℕ) (n : ℕ) (l : Link ℕ) (r : Option (Link ℕ)) → r ≡ edge_link_in words n → r ≡ Some l → n < 2048
edge_in_pool words n l r e q = subst (Linked n) (sym e ∙ q) (linked words n)

-- an edge that is ADDED, or live
pub added_in : (C : Catalogue) (e : ℕ) → is_added C e ≡ true → e < edge_pool
added_in C e =
    link_both (λ b. b ≡ true → e < edge_pool) (edge_link C e) false _ (λ h. clash (cc))
    (λ next tag q h. edge_in_pool C.edges.link e _ (edge_link C e) refl q)

pub live_added : (C : Catalogue) (e : ℕ) → is_live C e ≡ true → is_added C e ≡ true
live_added C e h = (both_true (is_added C e) _ h).0

-- what a pool hands out lies from its lowest number on, and below the sum of that and the limit
abbrev pub Handed : ℕ → ℕ → Room → Type 0
Handed limit lowest (room.Next n) = (lowest ≤ n) × (n < lowest + limit)
Handed limit lowest room.Full = Unit {0}
Handed limit lowest room.Torn = Unit {0}

pub handed : (limit lowest count : ℕ) → Handed limit lowest (room limit lowest count)
unfolding room
handed limit lowest count =
    pick_both (Handed limit lowest) (ltb count limit) _ _ (λ e. omega (arith, ltb-true count limit e))
    (λ e. pick_both (Handed limit lowest) (eqb count limit) _ _ (λ e. tt) (λ e. tt))

pub handed_out : (limit lowest count n : ℕ) (r : Room) → r ≡ room limit lowest count → r ≡ room.Next n → (lowest ≤ n) × (n < lowest + limit)
handed_out limit lowest count n r e q = subst (Handed limit lowest) (sym e ∙ q) (handed limit lowest count)

-- so a vertex that is handed out has a number of eight bits
pub vertex_in_pool : (count n : ℕ) (r : Room) → r ≡ room 254 2 count → r ≡ room.Next n → Fits w8 n
vertex_in_pool count n r e q = let h = handed_out 254 2 count n r e q in omega arith
