-- One node's link is written: its next or its tag is another, and every other node's link is as before.
use Prim.Native.Nat.{ℕ}
use mathlib.Core.Path.{◌≡◌, refl, ap}
use mathlib.Core.Logic.{◌⊎◌, inl, inr}
use Rattle.catalogue.specs.Tests.{upd}
use Rattle.row.proofs.Base.{upd_at, upd_other, same?}

module _ {A : Type 0} (next : ℕ → ℕ) (tag : ℕ → A) (x : ℕ) where
  -- n and t are written at x; `to` and `tags` are what is read then
  abbrev pub Turned : ℕ → A → (ℕ → ℕ) → (ℕ → A) → Type 0
  Turned n t to tags = (y : ℕ) → ((y ≡ x) × (to y ≡ n) × (tags y ≡ t)) ⊎ ((y ≡ x → ⊥) × (to y ≡ next y) × (tags y ≡ tag y))

  pub another_tag : (t : A) → Turned (next x) t next (upd tag x t)
  another_tag t y =
      elim (same? y x) [
        | inl q ↦ inl (q, ap next q, upd_at tag x t y q)
        | inr d ↦ inr (d, refl, upd_other tag x t y d)
      ]

  pub another_next : (n : ℕ) → Turned n (tag x) (upd next x n) tag
  another_next n y =
      elim (same? y x) [
        | inl q ↦ inl (q, upd_at next x n y q, ap tag q)
        | inr d ↦ inr (d, upd_other next x n y d, refl)
      ]
