-- The edge lists of the world after a sweep are sorted, because the numbers of each vertex's edges stand in a row;
-- and every edge has its ends.
use Prim.Native.Nat.{ℕ, ◌+◌, ◌≤◌, ◌<◌}
use mathlib.Core.Bool.{true, false}
use mathlib.Core.Logic.{inl, inr}
use mathlib.Core.Path.{◌≡◌, refl, ap, ◌∙◌}
use native.Mathlib.Omega.{arith}
use borrow.Author.Tests.{leb-true, ltb-true}
use lib.Dec.{leb, ltb}
use lib.IntN.{ℤ}
use lib.Signed.{◌<ℤ◌, lt_z_yes}
use Rattle.catalogue.specs.Tests.{pick, every}
use Rattle.catalogue.specs.Catalogue.{Catalogue, first_link, edge_key, edge_key_in, edge_link, edge_target, at_link, at_target}
use Rattle.catalogue.specs.Numbers.{least, greatest}
use Rattle.catalogue.specs.Live.{first_edge, next_edge, edges_of, live_keys}
use Rattle.catalogue.specs.Soundness.{Asks, tag_fits, target_sound, edge_sound, edges_sound, sound}
use Rattle.catalogue.specs.Sweep.{swept, swept_edges}
use Rattle.std.proofs.Common.{Option}
use Rattle.catalogue.specs.declared.links.Link.{Link}
use Rattle.laws.proofs.Picks.{pick_both, clash}
use Rattle.laws.proofs.Members.{All, every_all}
use Rattle.resting.specs.Kept.{row, In, start, size, stop, share}
use Rattle.resting.proofs.Sound.{edge_rises, whole, lists_sound}
use Rattle.resting.proofs.Shape.{live_row}
use Rattle.resting.proofs.Shares.{row_low, link_row, first_link_row, edges_row, together}
use Rattle.resting.proofs.Blocks.{source_there, only_there}
use Rattle.resting.proofs.Targets.{leads}
use Rattle.resting.proofs.Standing.{source_in}
use Rattle.row.proofs.Base.{lt_or}
use Rattle.row.specs.Lists.Links.{Sorted}
use Rattle.row.specs.Lists.Edges.{Edges, Prev, head, at, Mine, eview, ESound}
use Rattle.row.proofs.Graphs.Good.{Ends}
use Rattle.promises.proofs.Sweeps.InRow.{all_in_row, Place, first, final, inner, Row, row_sorted}
use Rattle.promises.proofs.Sweeps.Vertices.{above_least}
use Rattle.promises.proofs.Sweeps.World.{count, edge_count, swept_world, first_is, fits}

pub edge_tail_key : (C : Catalogue) → edge_key (swept C) 0 ≡ greatest
unfolding edge_key_in
edge_tail_key C = refl

module _ (asks : Asks) (C : Catalogue) (s : sound asks C ≡ true) (again : sound asks (swept C) ≡ true) where
  abbrev lists : Edges
  lists = (swept_world C).e

  abbrev key : ℕ → ℤ
  key = edge_key (swept C)

  abbrev to : Option (Link ℕ) → ℕ
  to l = at_link l 0 (λ next tag. next)

  tail_above : least <ℤ key 0
  tail_above = rw (edge_tail_key C) (lt_z_yes tt)

  above : (e : ℕ) → 1 ≤ e → e ≤ edge_count C → least <ℤ key e
  above e a b = let t = leads (fits asks C s) e a b in rw (← t.keyed) (above_least asks C s again t.to t.low t.high)

  pub edge_ends : (e : ℕ) → 1 ≤ e → e < 1 + edge_count C → Ends (swept_world C) e
  edge_ends e a b =
      let o = source_in (fits asks C s) e a (omega arith) in
      let t = leads (fits asks C s) e a (omega arith) in
      let q : lists.target e ≡ t.to = ap (λ l. at_target l 0 (λ y. y)) t.read in
      record { source_low = o.0; source_high = o.1; target_low = rw q t.low; target_high = rw q t.high; same_key = rw q t.keyed }

  -- ---- the list of a vertex

  module _ (i : ℕ) (r : In (live_keys C) i) where
    abbrev from : ℕ
    from = start (share C) i

    abbrev last : ℕ
    last = stop (share C) i

    few : last ≤ 1 + edge_count C
    few = omega (arith, row_low (fits asks C s) i r)

    first_there : lists.first i ≡ pick (ltb from last) from 0
    first_there = first_is C i r.0 r.1 ∙ ap to (first_link_row (fits asks C s) i r)

    above_there : least <ℤ key (pick (ltb from last) from 0)
    above_there =
        pick_both (λ e. least <ℤ key e) (ltb from last) from 0
        (λ t. above from (omega arith) (omega (arith, ltb-true from last t, few))) (λ t. tail_above)

    abbrev Passes : ℕ → Type 0
    Passes e = edge_sound asks (swept C) e ≡ true

    pass : All Passes (row from (size (share C) i))
    pass =
        let all = rw (live_row (live_keys C) (swept_edges C) (fits asks C s).few) at (lists_sound asks (swept C) again) in
        let l = all_in_row (λ u. edges_sound asks (swept C) u ≡ true) 2 (count C) all i r.0 r.1 in
        let t = whole (every (edge_sound asks (swept C)) (edges_of (swept C) i)) (first_link (swept C) i) l in
        rw (edges_row (fits asks C s) i r) at (every_all (edge_sound asks (swept C)) (edges_of (swept C) i) t)

    rises : (e : ℕ) → Passes e → key e <ℤ key (next_edge (swept C) e)
    rises e h = (edge_rises (key e) key (tag_fits asks) (at_target (edge_target (swept C) e) false (target_sound (swept C) e)) (edge_link (swept C) e) h).0

    edge_row : Row (eview lists i) head at 0 from last
    edge_row =
        record {
          ends = inl refl;
          starts = record { inside = tt; goes = ap at first_there; apart = λ q. clash (cc); rises = rw first_there above_there };
          goes_on = λ e a b. record {
            inside = inr (record { low = omega arith; high = omega (arith, few); own = source_there (together (fits asks C s) i r) e a b });
            goes = ap (λ l. at (to l)) (link_row (fits asks C s) i r e a b);
            apart = λ q. let z : e ≡ 0 = cc in omega arith;
            rises = rises e (all_in_row Passes from (size (share C) i) pass e a b);
          };
          covers = cover;
        }
      where
        cover : (p : Prev) → Mine lists i p → Place (eview lists i) head at 0 from last p
        cover head m = first refl
        cover (at e) (inl z) = final (ap at z)
        cover (at e) (inr o) = let w = only_there (together (fits asks C s) i r) (λ q. omega arith) e o.low o.own in inner e w.0 w.1 refl

    list_sorted : Sorted head (at 0) (eview lists i)
    list_sorted = row_sorted (eview lists i) head at 0 from last edge_row

  -- ---- what is no vertex has no edges

  module _ (u : ℕ) (off : 2 ≤ u → u < 2 + count C → ⊥) where
    no_first : lists.first u ≡ 0
    no_first =
        pick_both (λ e. e ≡ 0) (leb 2 u) _ 0
        (λ a. pick_both (λ e. e ≡ 0) (ltb u (2 + count C)) (first_edge (swept C) u) 0
        (λ b. absurd (off (leb-true 2 u a) (ltb-true u (2 + count C) b))) (λ b. refl))
        (λ a. refl)

    no_row : Row (eview lists u) head at 0 1 1
    no_row =
        record {
          ends = inl refl;
          starts = record { inside = tt; goes = ap at no_first; apart = λ q. clash (cc); rises = rw no_first tail_above };
          goes_on = λ e a b. absurd (omega arith);
          covers = cover;
        }
      where
        cover : (p : Prev) → Mine lists u p → Place (eview lists u) head at 0 1 1 p
        cover head m = first refl
        cover (at e) (inl z) = final (ap at z)
        cover (at e) (inr o) = let w = source_in (fits asks C s) e o.low (omega (arith, o.high)) in absurd (off (rw o.own at w.0) (rw o.own at w.1))

    none_sorted : Sorted head (at 0) (eview lists u)
    none_sorted = row_sorted (eview lists u) head at 0 1 1 no_row

  pub swept_esound : ESound lists
  swept_esound = record { some = omega arith; sorted = each; tail_plain = refl }
    where
      each : (u : ℕ) → Sorted head (at 0) (eview lists u)
      each u =
          elim (lt_or u 2) [
            | inl h ↦ none_sorted u (λ a b. omega arith)
            | inr a ↦ elim (lt_or u (2 + count C)) [
              | inl b ↦ list_sorted u (a, b)
              | inr h ↦ none_sorted u (λ a b. omega arith)
            ]
          ]
