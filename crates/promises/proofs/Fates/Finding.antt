-- What ConV and the looks for u and v decide: a reply in the row, or to look on.
use Prim.Native.Nat.{ℕ}
use mathlib.Core.Path.{refl}
use lib.IntN.{ℤ}
use lib.Dec.{eqb}
use Rattle.catalogue.specs.Numbers.{head}
use Rattle.catalogue.specs.Catalogue.{Catalogue, vertex_link, first_link}
use Rattle.catalogue.specs.Steps.Finding.{look_for, decide_contains, step_contains, not_found, found_u, decide_find_u, step_find_u, found_v, ends_of, decide_find_v, step_find_v}
use Rattle.catalogue.specs.declared.steps.Decision.{Decision}
use Rattle.catalogue.specs.declared.steps.Decision.TheVariants.{Reply}
use Rattle.catalogue.specs.declared.steps.VertexFound.{VertexFound}
use Rattle.catalogue.specs.declared.steps.VertexFound.TheVariants as found
use Rattle.catalogue.specs.declared.workers.Ahead.{Ahead}
use Rattle.catalogue.specs.declared.workers.Pair.{Pair}
use Rattle.catalogue.specs.declared.workers.Place.{Place}
use Rattle.catalogue.specs.declared.workers.Place.TheVariants.{ConV}
use Rattle.catalogue.specs.declared.writes.Write.TheVariants.{Nothing}
use Rattle.laws.proofs.Picks.{pick_both, link_both}
use Rattle.promises.proofs.Fates.Told.{Fate, in_row}
use Rattle.promises.proofs.Fates.Places.{to_u, to_v, to_edges}

module _ (C : Catalogue) (a : Ahead) where
  abbrev F : Place → Decision → Type 0
  F pl = Fate C a pl

  pub contains : (k : ℤ) (c : ℕ) → F (ConV k c) (step_contains C k c)
  unfolding step_contains
  contains k c = by (look_for C k c)
    where
      by : (z : VertexFound) → F (ConV k c) (decide_contains k z)
      by found.Torn = tt
      by (found.Onward next) = refl
      by found.Found = in_row refl tt
      by found.Missing = in_row refl tt

  lost : (pl : Place) (code : ℕ) → F pl (Reply (not_found code) Nothing)
  unfolding not_found
  lost pl code =
      pick_both (λ n. F pl (Reply n Nothing)) (eqb code 6) 8 3 (λ e. in_row refl tt) (λ e. in_row refl tt)

  pub finds_u : (pl : Place) (code : ℕ) (pair : Pair) (c : ℕ) → F pl (step_find_u C code pair c)
  unfolding step_find_u found_u
  finds_u pl code pair c = by (look_for C pair.k c)
    where
      by : (z : VertexFound) → F pl (decide_find_u C code pair c z)
      by found.Torn = tt
      by (found.Onward next) = to_u code pair next
      by found.Found = link_both (F pl) (vertex_link C head) _ _ tt (λ first tag e. to_v code pair c first)
      by found.Missing = lost pl code

  pub finds_v : (pl : Place) (code : ℕ) (pair : Pair) (u c : ℕ) → F pl (step_find_v C code pair u c)
  unfolding step_find_v found_v
  finds_v pl code pair u c = by (look_for C pair.l c)
    where
      by : (z : VertexFound) → F pl (decide_find_v C code pair u c z)
      by found.Torn = tt
      by (found.Onward next) = to_v code pair u next
      by found.Found = link_both (F pl) (first_link C u) _ _ tt (λ first tag e. to_edges code (ends_of pair u c) first)
      by found.Missing = lost pl code
