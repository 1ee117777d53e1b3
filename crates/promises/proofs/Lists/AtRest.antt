-- A catalogue that shows a good world is sound: for a listing always, for a sweep where no edge is on trial.
use Prim.Native.Nat.{ℕ, ◌+◌, ◌≤◌, ◌<◌}
use mathlib.Core.Bool.{Bool, true, false, not}
use mathlib.Core.List.{◌∷◌}
use mathlib.Core.Logic.{inl, inr}
use mathlib.Core.Path.{◌≡◌, refl, ap, ◌∙◌}
use native.Mathlib.Omega.{arith}
use borrow.Author.Tests.{le-leb}
use lib.Dec.{eqb}
use lib.ListN.{length}
use Rattle.catalogue.specs.Tests.{pick, every, member}
use Rattle.catalogue.specs.Catalogue.{Catalogue, first_link, at_link}
use Rattle.catalogue.specs.Numbers.{plain, some_link}
use Rattle.std.proofs.Common.{Option}
use Rattle.catalogue.specs.declared.links.Link.{Link}
use Rattle.catalogue.specs.Live.{vertices, edges_of, unmarked, live_vertices, live_edges_of, live_edges, gather, is_live}
use Rattle.catalogue.specs.Soundness.{Asks, listing, sweep, tag_fits, vertex_sound, target_sound, edge_sound, edges_sound, sound}
use Rattle.laws.proofs.Members.{All, all_each, all_every, all_gather}
use Rattle.laws.proofs.Distinct.{Distinct, distinct_keep, distinct_gather, pigeons}
use Rattle.laws.proofs.Gathers.{live_many}
use Rattle.laws.proofs.Keys.{risen}
use Rattle.row.proofs.Tests.{eq_z_yes}
use Rattle.row.specs.Lists.Store.{Stands}
use Rattle.row.specs.Lists.Edges.{Tag, marked, transit, added, at, Mine, InList}
use Rattle.row.specs.Machine.World.{World, Untried}
use Rattle.row.proofs.Graphs.Good.{WGood}
use Rattle.promises.proofs.Showing.Shows.{Shows, Series, vertex_tag_of, edge_tag_of}
use Rattle.promises.proofs.Lists.Meets.{LiveIn, mark_v, met_v, distinct_v, meets_v, live_v, listed_in, distinct_e, live_e}

module _ (C : Catalogue) (W : World) (s : Shows C W) (g : WGood W) where
  head_sound : unmarked C 0 ≡ true
  head_sound = mark_v C W s g 0 (omega (arith, g.good.sound.some)) (λ e. omega arith) ∙ ap not g.good.sound.head_plain

  one_vertex : (x : ℕ) → x < W.v.used → (x ≡ 1 → ⊥) → vertex_sound C x ≡ true
  one_vertex x h d =
      let f = g.good.sound.sorted.follows x h d in
      rw (s.vlinks x h d, s.vkeys x h, s.vkeys (W.v.next x) f.inside) (risen (W.v.key x) (W.v.key (W.v.next x)) f.above)

  on_walk : All (λ x. vertex_sound C x ≡ true) (0 ∷ vertices C)
  on_walk = (
    one_vertex 0 (omega (arith, g.good.sound.some)) (λ e. omega arith),
    all_each (Series W.v.used) (λ x. vertex_sound C x ≡ true) (λ x m. let a = m.low in one_vertex x m.high (λ e. omega arith)) (vertices C) (met_v C W s g),
  )

  target_is : (e : ℕ) → 1 ≤ e → e < W.e.used → target_sound C e (W.e.target e) ≡ true
  target_is e l h =
      let w = g.ends e l h in
      let a = w.target_low in
      let y = W.e.target e in
      rw (s.vkeys y w.target_high, s.ekeys e h, eq_z_yes (W.v.key y) (W.e.key e) w.same_key, s.vlinks y w.target_high (λ q. omega arith))
      (by (W.v.marked y) refl)
    where
      by : (b : Bool) → W.v.marked (W.e.target e) ≡ b → pick (eqb (vertex_tag_of b) 1) true (member (W.e.target e) (vertices C)) ≡ true
      by true q = refl
      by false q =
          let w = g.ends e l h in
          meets_v C W s g (W.e.target e) (record { low = w.target_low; high = w.target_high; plain = q })

  -- ---- the edges of a live vertex

  tag_is : (asks : Asks) (t : Tag) → (asks ≡ sweep → t ≡ transit → ⊥) → tag_fits asks (edge_tag_of t) ≡ true
  tag_is listing t n = refl
  tag_is sweep marked n = refl
  tag_is sweep transit n = absurd (n refl refl)
  tag_is sweep added n = refl

  within : (u e : ℕ) → Mine W.e u (at e) → e < W.e.used
  within u e (inl z) = omega (arith, g.esound.some)
  within u e (inr i) = i.high

  one_edge : (asks : Asks) → (asks ≡ sweep → Untried W) → (u e : ℕ) → InList W.e u e → edge_sound asks C e ≡ true
  one_edge asks n u e i =
      let f = (g.esound.sorted u).follows (at e) (inr i) (λ q. let a = i.low in let z : e ≡ 0 = cc in omega arith) in
      rw (
        s.elinks e i.low i.high,
        tag_is asks (W.e.tag e) (λ q t. n q e (record { low = i.low; high = i.high; tried = t })),
        s.ekeys e i.high,
        s.ekeys (W.e.next e) (within u (W.e.next e) f.inside),
        risen (W.e.key e) (W.e.key (W.e.next e)) f.above,
        s.targets e i.low i.high,
      ) (target_is e i.low i.high)

  whole : (l : Option (Link ℕ)) (next tag : ℕ) (b : Bool) → l ≡ some_link next tag → b ≡ true → at_link l false (λ x t. b) ≡ true
  whole l next tag b q t = rw (q, t)

  its_edges : (asks : Asks) → (asks ≡ sweep → Untried W) → (x : ℕ) → Stands W.v x → edges_sound asks C x ≡ true
  its_edges asks n x l =
      whole (first_link C x) (W.e.first x) plain (every (edge_sound asks C) (edges_of C x)) (s.firsts x l.low l.high)
      (all_every (edge_sound asks C) (edges_of C x) (all_each (InList W.e x) _ (one_edge asks n x) (edges_of C x) (listed_in C W s g x l.low l.high)))

  -- ---- how many live edges

  few : length (live_edges C) ≤ 2047
  few =
      rw (live_many (live_edges_of C) (live_vertices C))
      (pigeons 1 2047 (gather (live_edges_of C) (live_vertices C)) (distinct_gather W.e.owner (live_edges_of C) (live_vertices C) apart (each _ own_apart) (each _ owned))
      (all_gather _ (live_edges_of C) (live_vertices C) (each _ within_pool)))
    where
      -- what holds of the list of every live vertex
      each : (P : ℕ → Type 0) → ((x : ℕ) → Stands W.v x → P x) → All P (live_vertices C)
      each P f = all_each (Stands W.v) P f (live_vertices C) (live_v C W s g)

      apart : Distinct (live_vertices C)
      apart = distinct_keep (unmarked C) (vertices C) (distinct_v C W s g)

      own_apart : (x : ℕ) → Stands W.v x → Distinct (live_edges_of C x)
      own_apart x l = distinct_keep (is_live C) (edges_of C x) (distinct_e C W s g x l.low l.high)

      owned : (x : ℕ) → Stands W.v x → All (λ e. W.e.owner e ≡ x) (live_edges_of C x)
      owned x l = all_each (LiveIn W x) _ (λ e i. i.listed.own) (live_edges_of C x) (live_e C W s g x l)

      within_pool : (x : ℕ) → Stands W.v x → All (λ e. (1 ≤ e) × (e < 1 + 2047)) (live_edges_of C x)
      within_pool x l =
          all_each (LiveIn W x) _ (λ e i. (i.listed.low, omega (arith, i.listed.high, s.edges, s.edges_fit))) (live_edges_of C x) (live_e C W s g x l)

  pub rest_sound : (asks : Asks) → (asks ≡ sweep → Untried W) → sound asks C ≡ true
  unfolding sound
  rest_sound asks n =
      rw (
        head_sound,
        all_every (vertex_sound C) (0 ∷ vertices C) on_walk,
        all_every (edges_sound asks C) (live_vertices C) (all_each (Stands W.v) _ (its_edges asks n) (live_vertices C) (live_v C W s g)),
      ) (le-leb (length (live_edges C)) 2047 few)
