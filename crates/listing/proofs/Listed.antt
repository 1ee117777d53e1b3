-- The lines of what a walk keeps, by the cases of the recursion.
-- A node's line is put first, and the lines of the others follow it.
use Prim.Native.Nat.{ℕ, ◌+◌, ◌*◌, ◌-◌, ◌≤◌}
use mathlib.Core.Bool.{Bool, true, false}
use mathlib.Core.List.{List, [], ◌∷◌, ◌++◌}
use mathlib.Core.Path.{◌≡◌, refl, sym, ap, ◌∙◌}
use native.Mathlib.Omega.{arith}
use mir.Syntax.{w32}
use mir.Val.{SFits, of_z, to_z}
use mir.Facts.{to_z-of_z}
use lib.IntN.{ℤ}
use lib.ListN.{length, take, drop, length-append, length-take, length-drop, take-append-drop}
use borrow.Author.Rules.{rules, sfits_of}
use Rattle.catalogue.specs.Live.{gather}
use Rattle.catalogue.specs.Text.{line}
use Rattle.text.specs.Puts.{put_at}
use Rattle.text.proofs.Runs.{put_then, end_then}
use Rattle.text.proofs.LineLaws.{length_line}
use Rattle.listing.specs.Walks.{kept_from, vertex_line, edge_line}
use Rattle.laws.proofs.Gathers.{gather_none}
use Rattle.survey.proofs.Lives.{live_in_pool}
use Rattle.survey.proofs.WalkLaws.{falls}
use Rattle.listing.proofs.Kept.{none_left, at_end, going_on, gather_on, gather_off}
use Rattle.listing.proofs.Counts.{same_walk}

-- a number as it is passed on
abbrev read : ℤ → ℤ
read n = to_z w32 (of_z w32 n)

put_nothing : (l : List ℕ) (at : ℕ) → put_at l at [] ≡ l
put_nothing l at = let none : at + 0 ≡ at = omega arith in ap (λ n. take at l ++ drop n l) none ∙ take-append-drop at l

-- a run that was put without a change of length had room
pub had_room : (l m : List ℕ) (at room : ℕ) (b : List ℕ) → m ≡ put_at l at b → length m ≡ length l → at + room ≤ length l → at + length b ≤ length l
had_room l m at room b e kept h = omega (arith, simp (length-append, length-take, length-drop) at (sym (ap length e) ∙ kept))

module _ (next : ℕ → ℕ) (end : ℕ) (test : ℕ → Bool) (bytes : ℕ → List ℕ) (fuel x at : ℕ) where
  abbrev kept : ℕ → ℕ → List ℕ
  kept = kept_from next end test

  nothing_put : (l : List ℕ) → kept fuel x ≡ [] → l ≡ put_at l at (gather bytes (kept fuel x))
  nothing_put l e = sym (ap (λ k. put_at l at (gather bytes k)) e ∙ ap (put_at l at) (gather_none bytes) ∙ put_nothing l at)

  nothing_end : kept fuel x ≡ [] → at ≡ at + length (gather bytes (kept fuel x))
  nothing_end e = omega (arith, ap length (ap (gather bytes) e ∙ gather_none bytes))

  pub none_put : (l : List ℕ) → fuel ≡ 0 → l ≡ put_at l at (gather bytes (kept fuel x))
  none_put l e = nothing_put l (none_left next end test fuel x e)

  pub none_end : fuel ≡ 0 → at ≡ at + length (gather bytes (kept fuel x))
  none_end e = nothing_end (none_left next end test fuel x e)

  pub end_put : (l : List ℕ) → x ≡ end → l ≡ put_at l at (gather bytes (kept fuel x))
  end_put l e = nothing_put l (at_end next end test fuel x e)

  pub end_end : x ≡ end → at ≡ at + length (gather bytes (kept fuel x))
  end_end e = nothing_end (at_end next end test fuel x e)

  -- one more node; `others` gives the lines from what is passed on
  module _ (y : ℕ) (r : Bool) (others : ℕ → List ℕ) (same : others ≡ bytes) (some : fuel ≡ 0 → ⊥) (e : x ≡ end → ⊥) (q : r ≡ test x) (on : y ≡ next x) where
    left_text : r ≡ false → gather others (kept (fuel - 1) y) ≡ gather bytes (kept fuel x)
    left_text h = ap (λ f. gather f (kept (fuel - 1) y)) same ∙ sym (gather_off next end test bytes fuel x y r some e q on h)

    pub left_put : (l k : List ℕ) → r ≡ false → k ≡ put_at l at (gather others (kept (fuel - 1) y)) → k ≡ put_at l at (gather bytes (kept fuel x))
    left_put l k h second = second ∙ ap (put_at l at) (left_text h)

    pub left_end : (last : ℕ) → r ≡ false → last ≡ at + length (gather others (kept (fuel - 1) y)) → last ≡ at + length (gather bytes (kept fuel x))
    left_end last h second = second ∙ ap (λ b. at + length b) (left_text h)

    module _ (mid : ℕ) (run : List ℕ) (h : r ≡ true) (here : run ≡ bytes x) (began : mid ≡ at + length run) where
      kept_text : run ++ gather others (kept (fuel - 1) y) ≡ gather bytes (kept fuel x)
      kept_text =
          ap (λ f. run ++ gather f (kept (fuel - 1) y)) same ∙ ap (λ b. b ++ gather bytes (kept (fuel - 1) y)) here
          ∙ sym (gather_on next end test bytes fuel x y r some e q on h)

      pub kept_put : (l m k : List ℕ) (room : ℕ) → m ≡ put_at l at run → k ≡ put_at m mid (gather others (kept (fuel - 1) y)) → length m ≡ length l
          → length k ≡ length m → at + room ≤ length l → k ≡ put_at l at (gather bytes (kept fuel x))
      kept_put l m k room first second long longer h =
          let lead : at + length run ≤ length l = had_room l m at room run first long h in
          let rest : mid + length (gather others (kept (fuel - 1) y)) ≤ length m =
          had_room m k mid 0 (gather others (kept (fuel - 1) y)) second longer (omega arith) in
          put_then at mid run (gather others (kept (fuel - 1) y)) began l m k first second
          (omega (arith, length-append run (gather others (kept (fuel - 1) y))))
          ∙ ap (put_at l at) kept_text

      pub kept_end : (last : ℕ) → last ≡ mid + length (gather others (kept (fuel - 1) y)) → last ≡ at + length (gather bytes (kept fuel x))
      kept_end last second = end_then at mid run (gather others (kept (fuel - 1) y)) began last second ∙ ap (λ b. at + length b) kept_text

-- the line of a node as it was put
pub vertex_here : (keys : ℕ → ℤ) (x : ℕ) (key : ℤ) → SFits w32 key → key ≡ keys x → line (read key ∷ []) ≡ vertex_line keys x
unfolding vertex_line
vertex_here keys x key f e = ap (λ k. line (k ∷ [])) (to_z-of_z f ∙ e)

pub edge_here : (keys : ℕ → ℤ) (source : ℤ) (x : ℕ) (key : ℤ) → SFits w32 source → SFits w32 key → key ≡ keys x → line (read source ∷ (read key ∷ [])) ≡ edge_line keys source x
unfolding edge_line
edge_here keys source x key f g e = ap (λ k. line (k ∷ (read key ∷ []))) (to_z-of_z f) ∙ ap (λ k. line (source ∷ (k ∷ []))) (to_z-of_z g ∙ e)

pub edge_source : (keys : ℕ → ℤ) (source : ℤ) → SFits w32 source → edge_line keys (read source) ≡ edge_line keys source
edge_source keys source f = ap (edge_line keys) (to_z-of_z f)

-- the lines of a vertex's edges as they were put
module _ (next : ℕ → ℕ) (end : ℕ) (test : ℕ → Bool) (fuel first x : ℕ) (e : first ≡ x) where
  pub edges_here : (keys : ℕ → ℤ) (source key : ℤ) → SFits w32 source → source ≡ key
      → gather (edge_line keys (read source)) (kept_from next end test fuel first) ≡ gather (edge_line keys key) (kept_from next end test fuel x)
  edges_here keys source key f q =
      ap (λ k. gather (edge_line keys k) (kept_from next end test fuel first)) (to_z-of_z f ∙ q) ∙ ap (λ n. gather (edge_line keys key) (kept_from next end test fuel n)) e

-- room for the others
pub vertex_room : (fuel at mid : ℕ) (key : ℤ) (l m : List ℕ) → mid ≡ at + length (line (read key ∷ [])) → SFits w32 key → length m ≡ length l
    → (fuel ≡ 0 → ⊥) → at + 12 * fuel ≤ length l → mid + 12 * (fuel - 1) ≤ length m
vertex_room fuel at mid key l m began f long some room = omega (arith, ap (λ k. length (line (k ∷ []))) (to_z-of_z f), length_line key [] (f, tt))

pub vertex_within : (fuel at mid last : ℕ) (key : ℤ) → mid ≡ at + length (line (read key ∷ [])) → SFits w32 key → (fuel ≡ 0 → ⊥) → last ≤ mid + 12 * (fuel - 1)
    → last ≤ at + 12 * fuel
vertex_within fuel at mid last key began f some within = omega (arith, ap (λ k. length (line (k ∷ []))) (to_z-of_z f), length_line key [] (f, tt))

pair_wide : (a b : ℤ) → SFits w32 a → SFits w32 b → length (line (read a ∷ (read b ∷ []))) ≤ 24
pair_wide a b f g = rw (to_z-of_z f, to_z-of_z g) (length_line a (b ∷ []) (f, (g, tt)))

-- one more node, in a walk whose nodes take at most 24 bytes each
module _ (next : ℕ → ℕ) (end : ℕ) (test : ℕ → Bool) (fuel x y at : ℕ) (r : Bool) (some : fuel ≡ 0 → ⊥) (e : x ≡ end → ⊥) (q : r ≡ test x) (on : y ≡ next x) where
  abbrev all : List ℕ
  all = kept_from next end test fuel x

  abbrev rest : List ℕ
  rest = kept_from next end test (fuel - 1) y

  one_more : r ≡ true → length all ≡ 1 + length rest
  one_more h = omega (arith, ap length (going_on next end test fuel x y true r some e q h on))

  no_more : r ≡ false → length all ≡ length rest
  no_more h = ap length (going_on next end test fuel x y false r some e q h on)

  pub kept_within : (mid last : ℕ) (a b : ℤ) → r ≡ true → mid ≡ at + length (line (read a ∷ (read b ∷ []))) → SFits w32 a → SFits w32 b
      → last ≤ mid + 24 * length rest → last ≤ at + 24 * length all
  kept_within mid last a b h began f g within = omega (arith, one_more h, pair_wide a b f g)

  pub left_within : (last : ℕ) → r ≡ false → last ≤ at + 24 * length rest → last ≤ at + 24 * length all
  left_within last h within = omega (arith, no_more h)

  module _ (l : List ℕ) (room : at + 24 * length all ≤ length l) where
    pub pair_room : r ≡ true → at + 24 ≤ length l
    pair_room h = omega (arith, one_more h)

    pub left_room : r ≡ false → at + 24 * length rest ≤ length l
    left_room h = omega (arith, no_more h)

    pub edge_room : (mid : ℕ) (a b : ℤ) (m : List ℕ) → r ≡ true → mid ≡ at + length (line (read a ∷ (read b ∷ []))) → SFits w32 a → SFits w32 b → length m ≡ length l
        → mid + 24 * length rest ≤ length m
    edge_room mid a b m h began f g long = omega (arith, one_more h, pair_wide a b f g)

  -- the same where a node stands for the edges of a vertex
  module _ (edges : ℕ → List ℕ) where
    none : r ≡ false → length (gather edges all) ≡ length (gather edges rest)
    none h = ap length (gather_off next end test edges fuel x y r some e q on h)

    pub edges_left : (l : List ℕ) → at + 24 * length (gather edges all) ≤ length l → r ≡ false → at + 24 * length (gather edges rest) ≤ length l
    edges_left l room h = omega (arith, none h)

    pub edges_left_within : (last : ℕ) → r ≡ false → last ≤ at + 24 * length (gather edges rest) → last ≤ at + 24 * length (gather edges all)
    edges_left_within last h within = omega (arith, none h)

    module _ (here : List ℕ) (h : r ≡ true) (these : here ≡ edges x) where
      both : length (gather edges all) ≡ length here + length (gather edges rest)
      both =
          ap length (gather_on next end test edges fuel x y r some e q on h) ∙ length-append (edges x) (gather edges rest) ∙ ap (λ k. length k + length (gather edges rest)) (sym these)

      pub edges_within : (mid last : ℕ) → mid ≤ at + 24 * length here → last ≤ mid + 24 * length (gather edges rest) → last ≤ at + 24 * length (gather edges all)
      edges_within mid last first second = omega (arith, both)

      module _ (l : List ℕ) (room : at + 24 * length (gather edges all) ≤ length l) where
        pub edges_room : at + 24 * length here ≤ length l
        edges_room = omega (arith, both)

        pub edges_rest : (mid : ℕ) (m : List ℕ) → mid ≤ at + 24 * length here → length m ≡ length l → mid + 24 * length (gather edges rest) ≤ length m
        edges_rest mid m within long = omega (arith, both)

-- a walk that puts nothing
pub none_within : (at n : ℕ) → at ≤ at + n
none_within at n = omega arith

pub ruleset list_cases = (
  refl,
  none_put,
  none_end,
  end_put,
  end_end,
  left_put,
  left_end,
  kept_put,
  kept_end,
  vertex_here,
  edge_here,
  edge_source,
  vertex_room,
  vertex_within,
  none_within,
  kept_within,
  left_within,
  pair_room,
  left_room,
  edge_room,
  live_in_pool,
  falls,
  rules,
)

pub ruleset gather_cases = (edges_here, same_walk, edges_left, edges_left_within, edges_within, edges_room, edges_rest, list_cases)

-- the fewest that put the lines of a vertex's edges
pub ruleset edges_put = (refl, kept_put, kept_end, edges_here, sfits_of)
