-- A walk by its clauses; and a walk as a list of nodes, each of which leads to the one after it:
-- from the walk to that, and back. Where keys rise from node to node they rise through the list.
use Prim.Native.Nat.{ℕ, zero, suc, ◌+◌, ◌-◌, ◌≤◌, ◌<◌}
use mathlib.Core.Bool.{Bool, true, false}
use mathlib.Core.List.{List, [], ◌∷◌, map}
use mathlib.Core.Logic.{inl, inr}
use mathlib.Core.Path.{◌≡◌, refl, sym, ap, ap₂, ◌∙◌, subst}
use native.Mathlib.Omega.{arith}
use lib.IntN.{ℤ}
use lib.ListN.{length}
use lib.Dec.{eqb}
use lib.Signed.{◌<ℤ◌}
use borrow.Author.Tests.{eqb-true, eqb-false, eq-eqb, ne_eqb}
use Rattle.catalogue.specs.Live.{walk}
use Rattle.laws.proofs.Cases.{same?}
use Rattle.laws.proofs.Members.{All}
use Rattle.laws.proofs.Distinct.{pigeons}
use Rattle.laws.proofs.Keys.{<ℤ-trans, Rising, rising_distinct}

-- A walk by its clauses, from what the code tests.
pub walk_spent : (next : ℕ → ℕ) (end n x : ℕ) → n ≡ 0 → walk next end n x ≡ []
unfolding walk
walk_spent next end n x e = rw e refl

pub walk_end : (next : ℕ → ℕ) (end n x : ℕ) → x ≡ end → walk next end n x ≡ []
unfolding walk
walk_end next end zero x e = refl
walk_end next end (suc n) x e = rw (eq-eqb x end e, walk) refl

pub walk_step : (next : ℕ → ℕ) (end n x : ℕ) → (x ≡ end → ⊥) → walk next end (suc n) x ≡ x ∷ walk next end n (next x)
unfolding walk
walk_step next end n x g = by (eqb x end) (ne_eqb x end g)
  where
    by : (t : Bool) → t ≡ false → elim t [ true ↦ [] | false ↦ x ∷ walk next end n (next x) ] ≡ x ∷ walk next end n (next x)
    by t e = rw e refl

pub walk_on : (next : ℕ → ℕ) (end n x y : ℕ) → (n ≡ 0 → ⊥) → (x ≡ end → ⊥) → y ≡ next x → walk next end n x ≡ x ∷ walk next end (n - 1) y
walk_on next end zero x y h g q = absurd (h refl)
walk_on next end (suc n) x y h g q = walk_step next end n x g ∙ ap₂ (λ (k z : ℕ). x ∷ walk next end k z) (let e : n ≡ suc n - 1 = omega arith in e) (sym q)

-- no more nodes than there is fuel
pub walk_bounded : (next : ℕ → ℕ) (end n x : ℕ) → length (walk next end n x) ≤ n
unfolding walk
walk_bounded next end zero x = omega arith
walk_bounded next end (suc n) x =
    let h : length (walk next end n (next x)) ≤ n = walk_bounded next end n (next x) in
    elim (eqb x end) as (λ t. length {A = ℕ} (elim t [ true ↦ [] | false ↦ x ∷ walk next end n (next x) ]) ≤ suc n) [ true ↦ omega arith | false ↦ omega arith ]

-- ---- a walk as a list

module _ (next : ℕ → ℕ) (end : ℕ) where
  -- from x on stand exactly these nodes, none of them the end; `Last` holds of where the last one leads
  abbrev pub Run : (ℕ → Type 0) → ℕ → List ℕ → Type 0
  Run Last x [] = Last x
  Run Last x (y ∷ l) = (x ≡ y) × (x ≡ end → ⊥) × Run Last (next x) l

  abbrev pub Ends : ℕ → List ℕ → Type 0
  Ends = Run (λ x. x ≡ end)

  -- a walk ends at the end, or has no fuel left
  pub walked : (Last : ℕ → Type 0) → Last end → (fuel x : ℕ) → ((y : ℕ) → length (walk next end fuel x) ≡ fuel → Last y) → Run Last x (walk next end fuel x)
  unfolding walk
  walked Last at_end zero x spent = spent x refl
  walked Last at_end (suc n) x spent = by (walk next end n (next x)) (eqb x end) refl (walked Last at_end n (next x)) spent
    where
      by : (rest : List ℕ) (t : Bool) → eqb x end ≡ t → (((y : ℕ) → length rest ≡ n → Last y) → Run Last (next x) rest)
          → ((y : ℕ) → length {A = ℕ} (elim t [ true ↦ [] | false ↦ x ∷ rest ]) ≡ suc n → Last y) → Run Last x (elim t [ true ↦ [] | false ↦ x ∷ rest ])
      by rest true e on over = subst Last (sym (eqb-true x end e)) at_end
      by rest false e on over = (refl, eqb-false x end e, on (λ y q. over y (ap suc q)))

  pub run_walk : (fuel x : ℕ) (l : List ℕ) → Ends x l → length l ≤ fuel → walk next end fuel x ≡ l
  unfolding walk
  run_walk zero x [] r b = refl
  run_walk zero x (y ∷ l) r b = absurd (omega arith)
  run_walk (suc n) x [] r b = walk_end next end (suc n) x r
  run_walk (suc n) x (y ∷ l) r b = walk_step next end n x r.1 ∙ ap₂ (λ (z : ℕ) (k : List ℕ). z ∷ k) r.0 (run_walk n (next x) l r.2 (omega arith))

  module _ (key : ℕ → ℤ) where
    -- each node leads to one of greater key
    abbrev pub Climbs : List ℕ → Type 0
    Climbs = All (λ x. key x <ℤ key (next x))

    module _ (Last : ℕ → Type 0) where
      pub above : (low : ℤ) (x : ℕ) (l : List ℕ) → Run Last x l → Climbs l → low <ℤ key x → All (λ k. low <ℤ k) (map key l)
      above low x [] r c b = tt
      above low x (y ∷ l) r c b =
          let up : key x <ℤ key (next x) = subst (λ (z : ℕ). key z <ℤ key (next z)) (sym r.0) c.0 in
          (subst (λ (z : ℕ). low <ℤ key z) r.0 b, above low (next x) l r.2 c.1 (<ℤ-trans b up))

      pub rising : (x : ℕ) (l : List ℕ) → Run Last x l → Climbs l → Rising (map key l)
      rising x [] r c = tt
      rising x (y ∷ l) r c =
          let on : Run Last (next y) l = subst (λ (z : ℕ). Run Last (next z) l) r.0 r.2 in
          (above (key y) (next y) l on c.1 c.0, rising (next y) l on c.1)

    below : (low : ℤ) (x : ℕ) (l : List ℕ) → Ends x l → Climbs l → low <ℤ key x → low <ℤ key end
    below low x [] r c b = subst (λ (z : ℕ). low <ℤ key z) r b
    below low x (y ∷ l) r c b =
        let up : key x <ℤ key (next x) = subst (λ (z : ℕ). key z <ℤ key (next z)) (sym r.0) c.0 in
        below low (next x) l r.2 c.1 (<ℤ-trans b up)

    -- where the walk ends, its end has the greatest key
    pub under : (x : ℕ) (l : List ℕ) → Ends x l → Climbs l → All (λ k. k <ℤ key end) (map key l)
    under x [] r c = tt
    under x (y ∷ l) r c =
        let on : Ends (next y) l = subst (λ (z : ℕ). Ends (next z) l) r.0 r.2 in
        (below (key y) (next y) l on c.1 c.0, under (next y) l on c.1)

    -- and back
    pub climbs : (x : ℕ) (l : List ℕ) → Ends x l → Rising (map key l) → All (λ k. k <ℤ key end) (map key l) → Climbs l
    climbs x [] r h b = tt
    climbs x (y ∷ []) r h b = (subst (λ (z : ℕ). key y <ℤ key z) (sym (subst (λ (z : ℕ). next z ≡ end) r.0 r.2)) b.0, tt)
    climbs x (y ∷ (z ∷ l)) r h b =
        let on : Ends (next y) (z ∷ l) = subst (λ (w : ℕ). Ends (next w) (z ∷ l)) r.0 r.2 in
        (subst (λ (w : ℕ). key y <ℤ key w) (sym on.0) h.0.0, climbs (next y) (z ∷ l) on h.1 b.1)

    -- a walk from a node on, that climbs
    module _ (fuel x : ℕ) (c : Climbs (walk next end fuel x)) where
      on : Run (λ y. Unit {0}) x (walk next end fuel x)
      on = walked (λ y. Unit {0}) tt fuel x (λ y e. tt)

      pub walk_above : (low : ℤ) → low <ℤ key x → All (λ k. low <ℤ k) (map key (walk next end fuel x))
      walk_above low b = above (λ y. Unit {0}) low x (walk next end fuel x) on c b

      pub walk_rising : Rising (map key (walk next end fuel x))
      walk_rising = rising (λ y. Unit {0}) x (walk next end fuel x) on c

      -- it cannot use up more fuel than there are nodes, so it comes to the end
      module _ (low size : ℕ) (w : All (λ y. (low ≤ y) × (y < low + size)) (walk next end fuel x)) where
        pub walk_short : length (walk next end fuel x) ≤ size
        walk_short = pigeons low size (walk next end fuel x) (rising_distinct key (walk next end fuel x) walk_rising) w

        pub walk_under : size < fuel → All (λ k. k <ℤ key end) (map key (walk next end fuel x))
        walk_under b = under x (walk next end fuel x) (walked (λ y. y ≡ end) refl fuel x (λ y e. absurd (omega (arith, walk_short)))) c

  -- what holds of the first node, and of the next one wherever it holds, holds of every node
  pub walk_all : (P : ℕ → Type 0) → ((y : ℕ) → P y → (y ≡ end → ⊥) → P (next y)) → (fuel x : ℕ) → P x → All (λ y. P y × (y ≡ end → ⊥)) (walk next end fuel x)
  walk_all P on fuel x p = through x (walk next end fuel x) (walked (λ y. Unit {0}) tt fuel x (λ y e. tt)) p
    where
      through : (x : ℕ) (l : List ℕ) → Run (λ y. Unit {0}) x l → P x → All (λ y. P y × (y ≡ end → ⊥)) l
      through x [] r p = tt
      through x (y ∷ l) r p = ((rw (← r.0) p, rw (← r.0) r.1), through (next x) l r.2 (on x p r.1))

  pub walk_within : (bound fuel x : ℕ) → ((y : ℕ) → next y < bound) → x < bound → All (λ y. (y < bound) × (y ≡ end → ⊥)) (walk next end fuel x)
  walk_within bound fuel x low b = walk_all (λ y. y < bound) (λ y h n. low y) fuel x b

-- another next that is the same wherever the walk comes walks the same
pub walk_same : (next other : ℕ → ℕ) (end : ℕ) (P : ℕ → Type 0) → ((x : ℕ) → P x → (x ≡ end → ⊥) → P (next x) × (next x ≡ other x))
    → (fuel x : ℕ) → P x → walk next end fuel x ≡ walk other end fuel x
walk_same next other end P same zero x p = walk_spent next end zero x refl ∙ sym (walk_spent other end zero x refl)
walk_same next other end P same (suc n) x p =
    elim (same? x end) [
      | inl e ↦ walk_end next end (suc n) x e ∙ sym (walk_end other end (suc n) x e)
      | inr d ↦
          let s = same x p d in
          walk_step next end n x d
          ∙ (ap (λ (l : List ℕ). x ∷ l) (walk_same next other end P same n (next x) s.0 ∙ ap (walk other end n) s.1) ∙ sym (walk_step other end n x d))
    ]
