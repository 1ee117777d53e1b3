-- The world that a swept catalogue shows: its lists as they are read, every edge in the list of its source.
use Prim.Native.Nat.{ℕ, ◌+◌, ◌≤◌, ◌<◌}
use mathlib.Core.Bool.{true, false}
use mathlib.Core.Logic.{inl, inr}
use mathlib.Core.Path.{◌≡◌, refl}
use native.Mathlib.Omega.{arith}
use borrow.Author.Tests.{ne_eqb, le-leb, lt-ltb}
use lib.Dec.{eqb, leb, ltb}
use lib.ListN.{length}
use Rattle.catalogue.specs.Tests.{pick}
use Rattle.catalogue.specs.Catalogue.{Catalogue, vertex_key, vertex_link, edge_key, edge_link, edge_target, at_link, at_target}
use Rattle.catalogue.specs.Numbers.{plain, some_link}
use Rattle.catalogue.specs.Live.{next_vertex, first_edge, next_edge, live_keys}
use Rattle.catalogue.specs.Soundness.{Asks, sound}
use Rattle.catalogue.specs.Sweep.{swept, swept_edges, source_at}
use Rattle.std.proofs.Common.{Option, Some}
use Rattle.catalogue.specs.declared.links.Link.{Link}
use Rattle.laws.proofs.Picks.{clash}
use Rattle.resting.proofs.SweptReads.{head_at, vertex_at, handed_out}
use Rattle.resting.proofs.Shares.{link_row, first_link_row, Fits}
use Rattle.resting.proofs.Targets.{leads}
use Rattle.resting.proofs.Standing.{source_in, source_row}
use Rattle.resting.specs.Kept.{share}
use Rattle.resting.proofs.Edges.{swept_fits}
use Rattle.row.proofs.Base.{same?}
use Rattle.row.specs.Lists.Edges.{transit, added}
use Rattle.row.specs.Machine.World.{World, Untried}
use Rattle.promises.proofs.Showing.Shows.{Shows, edge_tag_of}

module _ (C : Catalogue) where
  abbrev pub count : ℕ
  count = length (live_keys C)

  abbrev pub edge_count : ℕ
  edge_count = length (swept_edges C)

  -- the list of what is no vertex is empty
  abbrev pub swept_world : World
  swept_world = record {
    v = record { next = next_vertex (swept C); marked = λ x. false; key = vertex_key (swept C); used = 2 + count };
    e = record {
      first = λ u. pick (leb 2 u) (pick (ltb u (2 + count)) (first_edge (swept C) u) 0) 0;
      next = next_edge (swept C);
      tag = λ e. pick (eqb e 0) transit added;
      key = edge_key (swept C);
      target = λ e. at_target (edge_target (swept C) e) 0 (λ y. y);
      owner = source_at (swept_edges C);
      used = 1 + edge_count;
    };
  }

  tag_is : (e : ℕ) → 1 ≤ e → swept_world.e.tag e ≡ added
  tag_is e a = rw (ne_eqb e 0 (omega arith)) refl

  pub swept_untried : Untried swept_world
  swept_untried e o = clash (cc (tag_is e o.low, o.tried))

  pub first_is : (u : ℕ) → 2 ≤ u → u < 2 + count → swept_world.e.first u ≡ first_edge (swept C) u
  first_is u a b = rw (le-leb 2 u a, lt-ltb u (2 + count) b) refl

-- a link that is whole is what is read of it
link_whole : (end : ℕ) (l : Option (Link ℕ)) (y tag : ℕ) → l ≡ some_link y tag → l ≡ some_link (at_link l end (λ next t. next)) tag
link_whole end l y tag q = rw q refl

target_whole : (l : Option ℕ) (y : ℕ) → l ≡ Some y → l ≡ Some (at_target l 0 (λ z. z))
target_whole l y q = rw q refl

module _ (asks : Asks) (C : Catalogue) (s : sound asks C ≡ true) where
  abbrev pub fits : Fits (live_keys C) (swept_edges C) (share C)
  fits = swept_fits asks C s

  pub swept_shows : Shows (swept C) (swept_world C)
  swept_shows =
      record {
        vertices = omega (arith, handed.0);
        vertices_fit = omega (arith, handed.0, fits.few);
        edges = omega (arith, handed.1);
        edges_fit = omega (arith, handed.1, fits.edges_few);
        vkeys = λ x h. refl;
        vlinks = next_there;
        firsts = λ x a b. rw (first_is C x a b) (link_whole 0 _ _ _ (first_link_row fits x (a, b)));
        ekeys = λ e h. refl;
        elinks = λ e a h. rw (tag_is C e a) (edge_there e a (omega arith));
        targets = λ e a h. target_whole _ _ (leads fits e a (omega arith)).read;
      }
    where
      handed : ((swept C).counts.vertices ≡ count C) × ((swept C).counts.edges ≡ edge_count C)
      handed = handed_out (live_keys C) (swept_edges C)

      next_there : (x : ℕ) → x < 2 + count C → (x ≡ 1 → ⊥) → vertex_link (swept C) x ≡ some_link (next_vertex (swept C) x) plain
      next_there x h d =
          elim (same? x 0) [
            | inl q ↦ rw q (link_whole 1 _ _ _ (head_at (live_keys C) (swept_edges C) fits.few))
            | inr n ↦ link_whole 1 _ _ _ (vertex_at (live_keys C) (swept_edges C) fits.few x (omega arith) h)
          ]

      edge_there : (e : ℕ) → 1 ≤ e → e ≤ edge_count C → edge_link (swept C) e ≡ some_link (next_edge (swept C) e) (edge_tag_of added)
      edge_there e a h = let p = source_row fits e a h in link_whole 0 _ _ _ (link_row fits (source_at (swept_edges C) e) (source_in fits e a h) e p.0 p.1)
