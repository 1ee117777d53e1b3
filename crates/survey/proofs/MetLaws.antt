-- The set that the walk makes has exactly the vertices that it met, where all are sound.
use Rattle.std.proofs.Common.{Result, Ok}
use Prim.Native.Nat.{ℕ, ◌+◌, ◌/◌, ◌%◌, ◌^◌, ◌<◌}
use mathlib.Core.Bool.{Bool, true}
use mathlib.Core.List.{List, [], ◌∷◌}
use mathlib.Core.Path.{◌≡◌, refl, sym, ◌∙◌, ap}
use native.Mathlib.Omega.{arith}
use borrow.Author.Tests.{eqb-true, eqb-false}
use lib.Dec.{eqb}
use lib.IntN.{ℤ}
use lib.ListN.{length, get_or, replicate, length-set}
use Rattle.catalogue.specs.Tests.{pick, every, member}
use Rattle.catalogue.specs.Numbers.{head, tail}
use Rattle.catalogue.specs.Catalogue.{Catalogue}
use Rattle.catalogue.specs.Lent.{catalogue_in}
use Rattle.catalogue.specs.Live.{walk, next_vertex, vertices}
use Rattle.catalogue.specs.Soundness.{vertex_sound}
use Rattle.catalogue.specs.Workers.{has, with_met}
use Rattle.laws.proofs.Picks.{both_true, pick_both}
use Rattle.laws.proofs.Leads.{vertex_goes}
use Rattle.laws.proofs.Members.{All, all_each}
use Rattle.laws.proofs.Walks.{walk_within}
use Rattle.laws.proofs.MetLaws.{with_met_same, with_met_other, none_met}
use Rattle.survey.proofs.WalkLaws.{told_ok}
use Rattle.survey.specs.Walks.{also_met, met_of, found, walk_from, Ready}

-- a set of four words has four words after it too
also_length : (met : List ℕ) (n : ℕ) → length met ≡ 4 → length (also_met met n) ≡ 4
unfolding also_met with_met
also_length met n h = pick_both (λ m. length m ≡ 4) (has met n) met (with_met met n) (λ e. h) (λ e. length-set met (n / 64) (get_or met (n / 64) 0 + 2 ^ (n % 64)) ∙ h)

met_length : (test : ℕ → Bool) (l : List ℕ) → length (met_of test l) ≡ 4
unfolding met_of
met_length test [] = refl
met_length test (x ∷ l) = pick_both (λ m. length m ≡ 4) (test x) (also_met (met_of test l) x) (replicate 4 0) (λ e. also_length (met_of test l) x (met_length test l)) (λ e. refl)

-- one number more
also_has : (met : List ℕ) (n y : ℕ) → length met ≡ 4 → n < 256 → has (also_met met n) y ≡ pick (eqb y n) true (has met y)
unfolding also_met
also_has met n y h low =
    pick_both (λ m. has m y ≡ pick (eqb y n) true (has met y)) (has met n) met (with_met met n)
    (λ e. sym (pick_both (λ t. t ≡ has met y) (eqb y n) true (has met y) (λ q. sym e ∙ ap (has met) (sym (eqb-true y n q))) (λ q. refl)))
    (λ e. sym (pick_both (λ t. t ≡ has (with_met met n) y) (eqb y n) true (has met y)
    (λ q. sym (ap (has (with_met met n)) (eqb-true y n q) ∙ with_met_same met n e (omega arith)))
    (λ q. sym (with_met_other met n e (omega arith) y (eqb-false y n q)))))

-- where all pass, the set is that of all members, whatever the test
pub met_whole : (test : ℕ → Bool) (l : List ℕ) → every test l ≡ true → met_of test l ≡ met_of (λ x. true) l
unfolding met_of every
met_whole test [] e = refl
met_whole test (x ∷ l) e =
    let both = both_true (test x) (every test l) e in
    rw both.0 (ap (λ met. also_met met x) (met_whole test l both.1))

pub met_member : (test : ℕ → Bool) (l : List ℕ) (y : ℕ) → every test l ≡ true → All (λ x. x < 256) l → has (met_of test l) y ≡ member y l
unfolding met_of every member
met_member test [] y e h = none_met y
met_member test (x ∷ l) y e h =
    let both = both_true (test x) (every test l) e in
    rw both.0
    (also_has (met_of test l) x y (met_length test l) h.0
    ∙ ap (pick (eqb y x) true) (met_member test l y both.1 h.1))

vertices_low : (C : Catalogue) → All (λ x. x < 256) (vertices C)
vertices_low C =
    all_each (λ x. (x < 256) × (x ≡ tail → ⊥)) (λ x. x < 256) (λ x h. h.0) (vertices C)
    (walk_within (next_vertex C) tail 256 256 (next_vertex C head) (vertex_goes C.vertices.link) (vertex_goes C.vertices.link head))

-- so the set of a sound walk is ready to answer for targets
pub ready : (keys : List ℤ) (words : List ℕ) (y : ℕ) (w : Result (List ℕ) (List ℕ)) (met : List ℕ)
    → y ≡ next_vertex (catalogue_in keys words) head → w ≡ walk_from (catalogue_in keys words) 256 y → w ≡ Ok met
    → Ready keys words met
unfolding walk_from
ready keys words y w met q e h =
    let C = catalogue_in keys words in
    let f : Ok met ≡ found (vertex_sound C) (vertices C) = sym h ∙ e ∙ ap (λ (z : ℕ). found (vertex_sound C) (walk (next_vertex C) tail 256 z)) q in
    record {
      on = λ z low.
          let told = told_ok (every (vertex_sound C) (vertices C)) (met_of (vertex_sound C) (vertices C)) met f in
          ap (λ m. has m z) told.1 ∙ met_member (vertex_sound C) (vertices C) z told.0 (vertices_low C);
    }
