-- The bits of a number by `/ 2 ^ b % 2`: adding a power whose bit is clear sets that bit and no other,
-- and `ones` counts them.
use Prim.Native.Nat.{ℕ, zero, suc, ◌+◌, ◌*◌, ◌-◌, ◌/◌, ◌%◌, ◌^◌, ◌<◌}
use mathlib.Core.Bool.{Bool}
use mathlib.Core.Logic.{◌⊎◌, inl, inr, ⊎_elim}
use mathlib.Core.Path.{◌≡◌, refl, sym, ap, ap₂, ◌∙◌, subst}
use native.Mathlib.Omega.{arith}
use native.Mathlib.Decide.{dec_lt}
use native.Mathlib.Numerals.{add-one, one-add}
use native.Mathlib.Nat.{add-zero, add-suc, add_assoc, mod-lt, add-mul-div_right}
use lib.Pow.{shl_exact, pow_pos, pow-add, split, shr-shr, mod-pow-add, shr_lt}
use lib.Arith.{digits_lt, digits_div}
use lib.Count.{ones, ones_in, ones_step}
use lib.Dec.{eqb}
use Rattle.catalogue.specs.Tests.{pick}
use Rattle.catalogue.specs.Workers.{count}

-- bit b of w
abbrev pub bit : ℕ → ℕ → ℕ
bit w b = w / 2 ^ b % 2

side : {j b : ℕ} → Dec (j < b) → (j ≡ b → ⊥) → (j < b) ⊎ (b < j)
side (yes h) n = inl h
side (no h) n = inr (omega arith)

apart : (j b : ℕ) → (j ≡ b → ⊥) → (j < b) ⊎ (b < j)
apart j b n = side (dec_lt j b) n

-- the number without its lowest bit
half : (k w : ℕ) → w < 2 ^ suc k → w / 2 < 2 ^ k
half k w h = shr_lt k 1 (subst (λ (x : ℕ). w < 2 ^ x) (sym (add-one k)) h)

-- a bit as a test of it counts it
small : (x : ℕ) → x < 2 → pick (eqb x 1) 1 0 ≡ x
small zero h = refl
small (suc zero) h = refl
small (suc (suc x)) h = absurd (omega arith)

-- the digits below b, with bit b clear
low_clear : (w b : ℕ) → bit w b ≡ 0 → w % 2 ^ (1 + b) ≡ w % 2 ^ b
low_clear w b z = mod-pow-add w 1 b ∙ simp z (omega arith)

-- w is what stands above b, and the digits below b
parts : (w b : ℕ) → bit w b ≡ 0 → w ≡ w / 2 ^ (1 + b) * 2 ^ (1 + b) + w % 2 ^ b
parts w b z = sym (split w (1 + b)) ∙ ap (λ (x : ℕ). w / 2 ^ (1 + b) * 2 ^ (1 + b) + x) (low_clear w b z)

two : (b : ℕ) → 2 ^ (1 + b) ≡ 2 ^ b + 2 ^ b
two b = pow-add 2 1 b ∙ (let e : 2 * 2 ^ b ≡ 2 ^ b + 2 ^ b = omega arith in e)

below : (w b : ℕ) → w % 2 ^ b < 2 ^ b
below w b = mod-lt w (pow_pos b)

-- the sum of a number of k digits and a power whose bit is clear has k digits
pub add_fits : (k w b : ℕ) → w < 2 ^ (k + (1 + b)) → bit w b ≡ 0 → w + 2 ^ b < 2 ^ (k + (1 + b))
add_fits k w b h z =
    let e : w + 2 ^ b ≡ w / 2 ^ (1 + b) * 2 ^ (1 + b) + (w % 2 ^ b + 2 ^ b) = omega (arith, parts w b z) in
    subst (λ (x : ℕ). w + 2 ^ b < x) (sym (pow-add 2 k (1 + b)))
    (subst (λ (x : ℕ). x < 2 ^ k * 2 ^ (1 + b)) (sym e)
    (digits_lt (shr_lt k (1 + b) h) (omega (arith, below w b, two b))))

-- the bit that is set
pub bit_same : (w b : ℕ) → bit w b ≡ 0 → bit (w + 2 ^ b) b ≡ 1
bit_same w b z =
    let e : (w + 1 * 2 ^ b) / 2 ^ b ≡ w / 2 ^ b + 1 = add-mul-div_right w 1 (pow_pos b) in
    let f : w + 1 * 2 ^ b ≡ w + 2 ^ b = omega arith in
    let g : (w + 2 ^ b) / 2 ^ b ≡ w / 2 ^ b + 1 = ap (λ (x : ℕ). x / 2 ^ b) (sym f) ∙ e in
    simp g (omega (arith, z))

-- a bit above it
bit_above : (w b i : ℕ) → bit w b ≡ 0 → bit (w + 2 ^ b) (1 + b + i) ≡ bit w (1 + b + i)
bit_above w b i z =
    let e : w + 2 ^ b ≡ w / 2 ^ (1 + b) * 2 ^ (1 + b) + (w % 2 ^ b + 2 ^ b) = omega (arith, parts w b z) in
    let g : (w + 2 ^ b) / 2 ^ (1 + b) ≡ w / 2 ^ (1 + b) =
    ap (λ (x : ℕ). x / 2 ^ (1 + b)) e ∙ digits_div (w / 2 ^ (1 + b)) (omega (arith, below w b, two b)) in
    ap (λ (x : ℕ). x % 2) (sym (shr-shr (w + 2 ^ b) (1 + b) i) ∙ ap (λ (x : ℕ). x / 2 ^ i) g ∙ shr-shr w (1 + b) i)

-- a bit below it
bit_under : (w j i : ℕ) → bit (w + 2 ^ (1 + i + j)) j ≡ bit w j
bit_under w j i =
    let e : (w + 2 ^ (1 + i) * 2 ^ j) / 2 ^ j ≡ w / 2 ^ j + 2 ^ (1 + i) = add-mul-div_right w (2 ^ (1 + i)) (pow_pos j) in
    let g : (w + 2 ^ (1 + i + j)) / 2 ^ j ≡ w / 2 ^ j + 2 ^ (1 + i) = ap (λ (x : ℕ). (w + x) / 2 ^ j) (pow-add 2 (1 + i) j) ∙ e in
    simp g (omega (arith, two i))

-- any other bit
pub bit_other : (w b j : ℕ) → bit w b ≡ 0 → (j ≡ b → ⊥) → bit (w + 2 ^ b) j ≡ bit w j
bit_other w b j z n =
    ⊎_elim
    (λ h. subst (λ (x : ℕ). bit (w + 2 ^ x) j ≡ bit w j) (let e : 1 + (b - (1 + j)) + j ≡ b = omega arith in e) (bit_under w j (b - (1 + j))))
    (λ h. subst (λ (x : ℕ). bit (w + 2 ^ b) x ≡ bit w x) (let e : 1 + b + (j - (1 + b)) ≡ j = omega arith in e) (bit_above w b (j - (1 + b)) z))
    (apart j b n)

bit_count : (w b : ℕ) → pick (eqb (bit w b) 1) 1 0 ≡ bit w b
bit_count w b = small (bit w b) (omega arith)

-- the count with the first number taken apart
first_apart : (f : ℕ → Bool) (n : ℕ) → count f (suc n) ≡ pick (f 0) 1 0 + count (λ i. f (suc i)) n
unfolding count
first_apart f zero = omega arith
first_apart f (suc n) = ap (λ (x : ℕ). x + pick (f (suc n)) 1 0) (first_apart f n) ∙ add_assoc _ _ _

-- tests that agree below n have one count
pub count_same : (f g : ℕ → Bool) (n : ℕ) → ((i : ℕ) → i < n → f i ≡ g i) → count f n ≡ count g n
unfolding count
count_same f g zero h = refl
count_same f g (suc n) h =
    ap₂ (λ (x : ℕ) (t : Bool). x + pick t 1 0) (count_same f g n (λ i l. h i (omega arith))) (h n (omega arith))

-- the count in two parts
pub count_add : (f : ℕ → Bool) (m n : ℕ) → count f (m + n) ≡ count f m + count (λ i. f (m + i)) n
unfolding count
count_add f m zero = simp add-zero
count_add f m (suc n) = simp add-suc (ap (λ (x : ℕ). x + pick (f (m + n)) 1 0) (count_add f m n) ∙ add_assoc _ _ _)

-- the ones of a number are its bits that are set
pub ones_count : (k w : ℕ) → w < 2 ^ k → ones w ≡ count (λ b. eqb (bit w b) 1) k
unfolding count ones ones_in
ones_count zero w h = subst (λ (x : ℕ). ones x ≡ 0) (let e : 0 ≡ w = omega arith in e) refl
ones_count (suc k) w h =
    ones_step w
    ∙ ap (λ (x : ℕ). w % 2 + x) (ones_count k (w / 2) (half k w h))
    ∙ ap₂ (λ (x y : ℕ). x + y)
    (sym (bit_count w 0 ∙ (let e : w / 1 % 2 ≡ w % 2 = omega arith in e)))
    (count_same _ _ k (λ i l. ap (λ (x : ℕ). eqb (x % 2) 1) (shr-shr w 1 i ∙ ap (λ (x : ℕ). w / 2 ^ x) (one-add i))))
    ∙ sym (first_apart (λ b. eqb (bit w b) 1) k)

-- a one that is shifted within the word
pub one_shl : (b : ℕ) → b < 64 → (1 * 2 ^ b) % 2 ^ 64 ≡ 2 ^ b
one_shl b h = shl_exact 1 b 64 (omega arith) (omega arith) ∙ (let e : 1 * 2 ^ b ≡ 2 ^ b = omega arith in e)
