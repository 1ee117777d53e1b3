-- A line is read word by word: its first word is the next one of the text.
-- What follows a space is read as a line again.
use Prim.Native.Nat.{ℕ, suc, ◌+◌}
use mathlib.Core.Bool.{Bool, true, false}
use mathlib.Core.List.{List, [], ◌∷◌}
use mathlib.Core.Logic.{inl, inr}
use mathlib.Core.Option.{none, some}
use mathlib.Core.Option as maybe
use mathlib.Core.Path.{◌≡◌, refl, ap, ◌∙◌}
use native.Mathlib.Omega.{arith}
use lib.IntN.{ℤ}
use lib.ListN.{length, drop}
use lib.Seq.{drop-drop}
use borrow.Author.Tests.{eq-eqb, ne_eqb}
use Rattle.catalogue.specs.Tests.{pick, given}
use Rattle.catalogue.specs.Script.{next_line, split, grow, natural, signed, key_fits}
use Rattle.laws.proofs.Cases.{same?}
use Rattle.std.specs.Prelude.{Option, None}
use Rattle.digits.specs.Digits.{number_fits, at_some, found}
use Rattle.digits.specs.declared.numbers.Parsed.{Parsed}
use Rattle.script.specs.Words.{Word, next_word, longer, behind, tested, item, item_in, item_at, number_at, key_at}
use Rattle.script.specs.declared.numbers.Item.{Item}
use Rattle.script.specs.Lines.{line_in, words_at}

-- ---- kinds that read alike

pub line_alike : {A : Type 0} (kind kind' : List ℕ → maybe.Option A) → ((l : List ℕ) → kind l ≡ kind' l) → (at : ℕ) (o : maybe.Option (List ℕ × List ℕ))
    → line_in kind at o ≡ line_in kind' at o
line_alike kind kind' same at none = refl
line_alike kind kind' same at (some r) = rw (same r.0)

-- ---- the first word of a line

abbrev by_word : {A : Type 0} → (List (List ℕ) → maybe.Option A) → ℕ → List ℕ → maybe.Option Word → Option (Parsed A)
by_word kind at t none = None
by_word kind at t (some w) =
    pick w.last (given (kind (w.bytes ∷ [])) None (λ a. found a (behind at w.bytes)))
    (line_in (λ l. kind (w.bytes ∷ split l)) (behind at w.bytes) (next_line (drop (suc (length w.bytes)) t)))

split_space : (b : ℕ) (l : List ℕ) → b ≡ 32 → split (b ∷ l) ≡ [] ∷ split l
unfolding split
split_space b l e = rw (split, eq-eqb b 32 e)

split_other : (b : ℕ) (l : List ℕ) → (b ≡ 32 → ⊥) → split (b ∷ l) ≡ grow b (split l)
unfolding split
split_other b l n = rw (split, ne_eqb b 32 n)

-- a byte before a line
abbrev pub before : ℕ → maybe.Option (List ℕ × List ℕ) → maybe.Option (List ℕ × List ℕ)
before b o = given o none (λ r. some (b ∷ r.0, r.1))

module _ {A : Type 0} (at b : ℕ) where
  line_before : (kind : List ℕ → maybe.Option A) (o : maybe.Option (List ℕ × List ℕ)) → line_in kind at (before b o) ≡ line_in (λ l. kind (b ∷ l)) (at + 1) o
  line_before kind none = refl
  line_before kind (some r) = let e : behind (at + 1) r.0 ≡ behind at (b ∷ r.0) = omega arith in rw e

  word_before : (kind : List (List ℕ) → maybe.Option A) (bs : List ℕ) (o : maybe.Option Word)
      → by_word (λ ws. kind (grow b ws)) (at + 1) bs o ≡ by_word kind at (b ∷ bs) (longer b o)
  word_before kind bs none = refl
  word_before kind bs (some w) = let e : behind (at + 1) w.bytes ≡ behind at (b ∷ w.bytes) = omega arith in rw e

first_word : {A : Type 0} (kind : List (List ℕ) → maybe.Option A) (at : ℕ) (t : List ℕ)
    → line_in (λ l. kind (split l)) at (next_line t) ≡ by_word kind at t (next_word t)
unfolding next_line next_word split
first_word kind at [] = refl
first_word kind at (b ∷ bs) =
    elim (same? b 10) [
      | inl e ↦ rw (next_line, next_word, eq-eqb b 10 e)
      | inr n ↦ elim (same? b 32) [
        | inl e ↦ rw (next_line, next_word, ne_eqb b 10 n, eq-eqb b 32 e)
            (line_before at b (λ l. kind (split l)) (next_line bs)
            ∙ line_alike (λ l. kind (split (b ∷ l))) (λ l. kind ([] ∷ split l)) (λ l. ap kind (split_space b l e)) (at + 1) (next_line bs))
        | inr m ↦ rw (next_line, next_word, ne_eqb b 10 n, ne_eqb b 32 m)
            (line_before at b (λ l. kind (split l)) (next_line bs)
            ∙ line_alike (λ l. kind (split (b ∷ l))) (λ l. kind (grow b (split l))) (λ l. ap kind (split_other b l m)) (at + 1) (next_line bs)
            ∙ first_word (λ ws. kind (grow b ws)) (at + 1) bs
            ∙ word_before at b kind bs (next_word bs))
      ]
    ]

-- ---- a kind goes by its first word

module _ {A : Type 0} (text : List ℕ) (at : ℕ) where
  -- what follows a first word, as a kind
  abbrev behind_word : Word → (List (List ℕ) → maybe.Option A) → Option (Parsed A)
  behind_word w rest = pick w.last (given (rest []) None (λ a. found a (behind at w.bytes))) (words_at rest text (behind at w.bytes))

  rest_alike : (w : Word) (rest rest' : List (List ℕ) → maybe.Option A) → ((ws : List (List ℕ)) → rest ws ≡ rest' ws) → behind_word w rest ≡ behind_word w rest'
  rest_alike w rest rest' same =
      rw (same []) (ap (λ o. pick w.last (given (rest' []) None (λ a. found a (behind at w.bytes))) o)
      (line_alike (λ l. rest (split l)) (λ l. rest' (split l)) (λ l. same (split l)) (behind at w.bytes) (next_line (drop (behind at w.bytes) text))))

  rest_none : (w : Word) → behind_word w (λ ws. none) ≡ None
  rest_none w = elim w.last as (λ t. pick t None (words_at (λ ws. none) text (behind at w.bytes)) ≡ None) [
    | true ↦ refl
    | false ↦ lined (next_line (drop (behind at w.bytes) text))
  ]
    where
      lined : (o : maybe.Option (List ℕ × List ℕ)) → line_in {A = A} (λ l. none) (behind at w.bytes) o ≡ None
      lined none = refl
      lined (some r) = refl

  by_first : (kind : List (List ℕ) → maybe.Option A) → words_at kind text at ≡ given (next_word (drop at text)) None (λ w. behind_word w (λ ws. kind (w.bytes ∷ ws)))
  by_first kind = first_word kind at (drop at text) ∙ by (next_word (drop at text))
    where
      by : (o : maybe.Option Word) → by_word kind at (drop at text) o ≡ given o None (λ w. behind_word w (λ ws. kind (w.bytes ∷ ws)))
      by none = refl
      by (some w) = rw (drop-drop (suc (length w.bytes)) at text)

  -- a kind that has no first word
  pub words_none : (kind : List (List ℕ) → maybe.Option A) → ((w : List ℕ) (ws : List (List ℕ)) → kind (w ∷ ws) ≡ none) → words_at kind text at ≡ None
  words_none kind never = by_first kind ∙ by (next_word (drop at text))
    where
      by : (o : maybe.Option Word) → given o None (λ w. behind_word w (λ ws. kind (w.bytes ∷ ws))) ≡ None
      by none = refl
      by (some w) = rest_alike w (λ ws. kind (w.bytes ∷ ws)) (λ ws. none) (never w.bytes) ∙ rest_none w

  pub words_pick : (t : Bool) (kind : List (List ℕ) → maybe.Option A) → words_at (λ ws. pick t (kind ws) none) text at ≡ pick t (words_at kind text at) None
  words_pick true kind = refl
  words_pick false kind = words_none (λ ws. none) (λ w ws. refl)

-- ---- a kind whose first word is read and tested

abbrev pub Goes : {A X : Type 0} → (List ℕ → maybe.Option X) → (X → Bool) → (List (List ℕ) → maybe.Option A) → (X → List (List ℕ) → maybe.Option A) → Type 0
Goes reading fits kind rest = (w : List ℕ) (ws : List (List ℕ)) → kind (w ∷ ws) ≡ given (reading w) none (λ x. pick (fits x) (rest x ws) none)

abbrev pub read_on : {A X : Type 0} → List ℕ → (X → List (List ℕ) → maybe.Option A) → Item X → Option (Parsed A)
read_on text rest i = pick i.last (given (rest i.value []) None (λ a. found a i.next)) (words_at (rest i.value) text i.next)

module _ {A : Type 0} (text : List ℕ) (at : ℕ) (kind : List (List ℕ) → maybe.Option A) where
  module _ {X : Type 0} (reading : List ℕ → maybe.Option X) (fits : X → Bool) (rest : X → List (List ℕ) → maybe.Option A) where
    by_item : Goes reading fits kind rest → words_at kind text at ≡ at_some (item_at reading fits text at) None (read_on text rest)
    by_item goes = by_first text at kind ∙ by (next_word (drop at text))
      where
        tried : (w : Word) (o : maybe.Option X)
            → behind_word text at w (λ ws. given o none (λ x. pick (fits x) (rest x ws) none)) ≡ at_some (tested fits w.last (behind at w.bytes) o) None (read_on text rest)
        tried w none = rest_none text at w
        tried w (some x) =
            elim (fits x) as (λ t. behind_word text at w (λ ws. pick t (rest x ws) none) ≡ at_some (pick t (item x (behind at w.bytes) w.last) None) None (read_on text rest)) [
              | true ↦ refl
              | false ↦ rest_none text at w
            ]

        by : (o : maybe.Option Word) → given o None (λ w. behind_word text at w (λ ws. kind (w.bytes ∷ ws))) ≡ at_some (item_in reading fits at o) None (read_on text rest)
        by none = refl
        by (some w) =
            rest_alike text at w (λ ws. kind (w.bytes ∷ ws)) (λ ws. given (reading w.bytes) none (λ x. pick (fits x) (rest x ws) none)) (goes w.bytes)
            ∙ tried w (reading w.bytes)

  pub by_number : (rest : ℕ → List (List ℕ) → maybe.Option A) → Goes natural number_fits kind rest → words_at kind text at ≡ at_some (number_at text at) None (read_on text rest)
  unfolding number_at
  by_number rest goes = by_item natural number_fits rest goes

  pub by_key : (rest : ℤ → List (List ℕ) → maybe.Option A) → Goes signed key_fits kind rest → words_at kind text at ≡ at_some (key_at text at) None (read_on text rest)
  unfolding key_at
  by_key rest goes = by_item signed key_fits rest goes
