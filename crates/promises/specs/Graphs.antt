-- The live graph by keys: which series there are, and which of them is derived from which.
use Rattle.std.specs.Prelude.{Bool, true, false, List, [], ◌∷◌, ◌≡◌, ℤ}
use Rattle.catalogue.specs.Tests.{pick, eq_z}
use Rattle.catalogue.specs.Catalogue.{Catalogue}
use Rattle.catalogue.specs.Live.{live_keys, live_pairs}

pub record Graph : Type 0 where
  pub series : ℤ → Bool
  pub derived : ℤ → ℤ → Bool

abbrev pub empty : Graph
empty = record { series = λ k. false; derived = λ k l. false }

-- whether a key, or a pair of keys, is in a list
unfoldable pub among : {A : Type 0} → (A → A → Bool) → A → List A → Bool
among same y [] = false
among same y (x ∷ l) = pick (same y x) true (among same y l)

abbrev pub same_pair : ℤ × ℤ → ℤ × ℤ → Bool
same_pair p q = pick (eq_z p.0 q.0) (eq_z p.1 q.1) false

abbrev pub live : Catalogue → Graph
live C = record { series = λ k. among eq_z k (live_keys C); derived = λ k l. among same_pair (k, l) (live_pairs C) }

-- from one series to another over derivations, none or more
pub data Walk (g : Graph) (to : ℤ) : ℤ → Type 0 where
  here : Walk g to to
  over : {from : ℤ} (next : ℤ) → g.derived from next ≡ true → Walk g to next → Walk g to from
