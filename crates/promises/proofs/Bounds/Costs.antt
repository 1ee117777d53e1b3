-- What a trial alone spends on a vertex: two steps, and one for each edge node in its list,
-- whose length falls by one from node to node.
use Prim.Native.Nat.{ℕ, suc, ◌+◌, ◌≤◌, ◌<◌}
use mathlib.Core.List.{List}
use mathlib.Core.Logic.{inl, inr}
use mathlib.Core.Path.{◌≡◌, refl, sym, ap, ◌∙◌}
use native.Mathlib.Omega.{arith}
use lib.ListN.{length}
use lib.Signed.{◌<ℤ◌}
use Rattle.catalogue.specs.Live.{walk}
use Rattle.laws.proofs.Walks.{walk_end, walk_step}
use Rattle.row.specs.Lists.Edges.{at, Mine}
use Rattle.row.specs.Machine.World.{World, Opened, closed, opened}
use Rattle.row.proofs.Graphs.Good.{WGood}
use Rattle.promises.proofs.Lists.Walked.{spare, walk_spare}

-- how long a list is from an edge on
abbrev pub ahead : World → ℕ → ℕ
ahead W c = length (walk W.e.next 0 2048 c)

-- the steps that a vertex costs, and those still to make for the open one
abbrev pub cost : World → ℕ → ℕ
cost W x = 2 + ahead W (W.e.first x)

abbrev pub left : World → Opened → ℕ
left W closed = 0
left W (opened x c) = 1 + ahead W c

pub at_tail : (W : World) → ahead W 0 ≡ 0
at_tail W = ap length (walk_end W.e.next 0 2048 0 refl)

-- an edge on, one less is ahead
module _ (W : World) (g : WGood W) (few_edges : W.e.used ≤ 2048) (x c : ℕ) (m : Mine W.e x (at c)) (d : c ≡ 0 → ⊥) where
  abbrev Own : ℕ → Type 0
  Own e = Mine W.e x (at e)

  rises : (e : ℕ) → Own e → (e ≡ 0 → ⊥) → Own (W.e.next e) × (W.e.key e <ℤ W.e.key (W.e.next e))
  rises e m d = let f = (g.esound.sorted x).follows (at e) m (λ q. d (cc)) in (f.inside, f.above)

  below : (e : ℕ) → Own e → e < 2048
  below e (inl z) = omega arith
  below e (inr j) = omega (arith, j.high)

  pub one_less : ahead W c ≡ suc (ahead W (W.e.next c))
  one_less =
      let short : length (walk W.e.next 0 2048 c) < 2048 = walk_spare W.e.next 0 W.e.key Own rises 2048 c m below (omega arith) in
      let s : suc (length (walk W.e.next 0 2047 (W.e.next c))) < 2048 = rw (walk_step W.e.next 0 2047 c d) at short in
      ap length (walk_step W.e.next 0 2047 c d) ∙ ap (λ (l : List ℕ). suc (length l)) (sym (spare W.e.next 0 2047 (W.e.next c) (omega arith)))
