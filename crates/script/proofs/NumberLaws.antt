-- A line's number or key is what the reader of digits finds there, with a space or the line's end after it.
use Prim.Native.Nat.{ℕ, suc, ◌+◌}
use mathlib.Core.Bool.{Bool, true, false}
use mathlib.Core.List.{List, [], ◌∷◌, ◌++◌, append-nil}
use mathlib.Core.Logic.{inl, inr}
use mathlib.Core.Option.{none, some}
use mathlib.Core.Option as maybe
use Rattle.std.specs.Prelude.{Option, None, Some}
use mathlib.Core.Path.{◌≡◌, refl, sym, ap, ◌∙◌}
use native.Mathlib.Omega.{arith}
use mir.Syntax.{w32}
use mir.Val.{SFits, of_z, to_z}
use mir.Facts.{to_z-of_z}
use lib.IntN.{ℤ, pos, negsuc}
use lib.ListN.{length, get_or, drop, drop_of_length-le}
use lib.Seq.{drop-cons, drop-drop}
use lib.Signed.{lt_z}
use borrow.Author.Rules.{sfits_of}
use borrow.Author.Tests.{le-leb, lt-leb, lt-ltb, le-ltb, eq-eqb, ne_eqb}
use Rattle.catalogue.specs.Tests.{pick, given}
use Rattle.catalogue.specs.Numbers.{greatest}
use Rattle.catalogue.specs.Script.{natural, signed, key_fits}
use Rattle.laws.proofs.Ways.{on_true, on_false}
use Rattle.laws.proofs.Cases.{same?, lt_or}
use Rattle.digits.specs.Digits.{digits_of, signed_of, piece_in, most_number, number_fits, signed_fits, at_some, found, digits_at, signed_at}
use Rattle.digits.specs.declared.numbers.Parsed.{Parsed}
use Rattle.digits.proofs.Values.{digit_or}
use Rattle.digits.proofs.Signs.{cut_minus, cut_plain}
use Rattle.digits.proofs.Stops.{number_stops, signed_stops}
use Rattle.script.proofs.Tools.{pick_alike, pick_through, pick_in}
use Rattle.script.proofs.Taken.{some_none, some_taken}
use Rattle.script.specs.Words.{Word, next_word, longer, behind, tested, item, item_in, item_at, number_at, key_at, end_at, ended}
use Rattle.script.specs.declared.numbers.Item.{Item}
use Rattle.script.specs.declared.numbers.End.{End}

-- ---- a word begins with its digits

abbrev led : List ℕ → maybe.Option Word → maybe.Option Word
led w none = none
led w (some v) = some (record { bytes = w ++ v.bytes; last = v.last })

led_none : (o : maybe.Option Word) → led [] o ≡ o
led_none none = refl
led_none (some v) = refl

led_longer : (b : ℕ) (w : List ℕ) (o : maybe.Option Word) → longer b (led w o) ≡ led (b ∷ w) o
led_longer b w none = refl
led_longer b w (some v) = refl

word_longer : (b : ℕ) (bs : List ℕ) → (b ≡ 10 → ⊥) → (b ≡ 32 → ⊥) → next_word (b ∷ bs) ≡ longer b (next_word bs)
unfolding next_word
word_longer b bs n m = rw (next_word, ne_eqb b 10 n, ne_eqb b 32 m)

digits_led : (t : List ℕ) → next_word t ≡ led (digits_of t) (next_word (drop (length (digits_of t)) t))
unfolding digits_of
digits_led [] = sym (led_none (next_word []))
digits_led (b ∷ bs) =
    elim (digit_or b) [
      | inl d ↦ rw (le-leb 48 b d.0, le-leb b 57 d.1, word_longer b bs (omega arith) (omega arith))
          (ap (longer b) (digits_led bs) ∙ led_longer b (digits_of bs) (next_word (drop (length (digits_of bs)) bs)))
      | inr d ↦ rw d (sym (led_none (next_word (b ∷ bs))))
    ]

signed_led : (t : List ℕ) → next_word t ≡ led (signed_of t) (next_word (drop (length (signed_of t)) t))
unfolding signed_of
signed_led [] = sym (led_none (next_word []))
signed_led (b ∷ bs) =
    elim (same? b 45) [
      | inl e ↦ rw (cut_minus b bs e, word_longer b bs (omega arith) (omega arith))
          (ap (longer b) (digits_led bs) ∙ led_longer b (digits_of bs) (next_word (drop (length (digits_of bs)) bs)))
      | inr n ↦ rw (cut_plain b bs n) (digits_led (b ∷ bs))
    ]

-- ---- what follows a piece

end_cases : (text : List ℕ) (at : ℕ) (P : maybe.Option Word → Option End → Type 0) → P none None → ((last : Bool) → P (some (record { bytes = []; last = last })) (Some (record { next = at + 1; last = last })))
    → ((b : ℕ) (bs : List ℕ) → drop at text ≡ b ∷ bs → P (longer b (next_word bs)) None) → P (next_word (drop at text)) (end_at text at)
unfolding next_word end_at
end_cases text at P missing ended other =
    elim (lt_or at (length text)) [
      | inl h ↦ rw (drop-cons text at 0 h, next_word, lt-leb (length text) at h)
          (elim (same? (get_or text at 0) 10) [
            | inl e ↦ rw (eq-eqb (get_or text at 0) 10 e) (ended true)
            | inr n ↦ elim (same? (get_or text at 0) 32) [
              | inl e ↦ rw (ne_eqb (get_or text at 0) 10 n, eq-eqb (get_or text at 0) 32 e) (ended false)
              | inr m ↦ rw (ne_eqb (get_or text at 0) 10 n, ne_eqb (get_or text at 0) 32 m) (other (get_or text at 0) (drop (suc at) text) (drop-cons text at 0 h))
            ]
          ])
      | inr h ↦ rw (drop_of_length-le text {i = at} h, le-leb (length text) at h) missing
    ]

-- ---- by any reading of pieces

module _ {X : Type 0} (reading : List ℕ → maybe.Option X) (whole more fits : X → Bool) (both : (x : X) → fits x ≡ pick (whole x) (more x) false)
    (cut : List ℕ → List ℕ) (leads : (t : List ℕ) → next_word t ≡ led (cut t) (next_word (drop (length (cut t)) t)))
    (stops : (b : ℕ) (bs v t : List ℕ) → drop (length (cut t)) t ≡ b ∷ bs → reading (cut t ++ (b ∷ v)) ≡ none) (text : List ℕ) (at : ℕ) where
  abbrev piece : List ℕ
  piece = cut (drop at text)

  abbrev kept : Item X → Option (Item X)
  kept i = pick (more i.value) (Some i) None

  abbrev ending : Option End → X → Option (Item X)
  ending e x = at_some (at_some e None (λ e. item x e.next e.last)) None kept

  nothing : (o : maybe.Option X) → None ≡ given o None (λ x. pick (whole x) (ending None x) None)
  nothing none = refl
  nothing (some x) = sym (pick_alike (whole x) None)

  judged : (last : Bool) (o : maybe.Option X)
      → tested fits last (at + length piece + 1) o ≡ given o None (λ x. pick (whole x) (ending (Some (record { next = at + length piece + 1; last = last })) x) None)
  judged last none = refl
  judged last (some x) = rw (both x) (pick_in (whole x) (more x) (item x (at + length piece + 1) last) None)

  followed : (b : ℕ) (bs : List ℕ) → drop (length piece) (drop at text) ≡ b ∷ bs → (o : maybe.Option Word)
      → item_in reading fits at (led piece (longer b o)) ≡ None
  followed b bs e none = refl
  followed b bs e (some v) = rw (stops b bs v.bytes (drop at text) e)

  pieced : (end : ℕ) (o : maybe.Option X)
      → given o None (λ x. pick (whole x) (ending (end_at text end) x) None)
      ≡ at_some (given o None (λ x. pick (whole x) (found x end) None)) None (λ p. at_some (ended text p) None kept)
  pieced end none = refl
  pieced end (some x) = sym (pick_through (λ o. at_some o None (λ p. at_some (ended text p) None kept)) (whole x) (found x end) None)

  item_ended : item_at reading fits text at ≡ at_some (piece_in reading whole at piece) None (λ p. at_some (ended text p) None kept)
  item_ended =
      rw (leads (drop at text), drop-drop (length piece) at text)
      (end_cases text (at + length piece) (λ o e. item_in reading fits at (led piece o) ≡ given (reading piece) None (λ x. pick (whole x) (ending e x) None))
      (nothing (reading piece))
      (λ last. let e : behind at piece ≡ at + length piece + 1 = omega arith in rw (append-nil, e) (judged last (reading piece)))
      (λ b bs e. followed b bs (drop-drop (length piece) at text ∙ e) (next_word bs) ∙ nothing (reading piece)))
      ∙ pieced (at + length piece) (reading piece)

-- ---- numbers, and keys that are not reserved

module _ (text : List ℕ) (at : ℕ) where
  pub number_is : (r : Option (Item ℕ)) → r ≡ at_some (digits_at text at) None (ended text) → r ≡ number_at text at
  unfolding number_at digits_at
  number_is r e =
      e ∙ by (piece_in natural number_fits at (digits_of (drop at text)))
      ∙ sym (item_ended natural number_fits (λ n. true) number_fits same digits_of digits_led number_stops text at)
    where
      same : (n : ℕ) → number_fits n ≡ pick (number_fits n) true false
      same n = elim (number_fits n) as (λ t. t ≡ pick t true false) [ true ↦ refl | false ↦ refl ]

      all : (o : Option (Item ℕ)) → o ≡ at_some o None (λ i. Some i)
      all None = refl
      all (Some i) = refl

      by : (o : Option (Parsed ℕ)) → at_some o None (ended text) ≡ at_some o None (λ p. at_some (ended text p) None (λ i. Some i))
      by None = refl
      by (Some p) = all (ended text p)

  pub key_is : (r : Option (Item ℤ))
      → r ≡ at_some (signed_at text at) None (λ p. at_some (ended text p) None (λ i. pick (lt_z i.value greatest) (Some i) None)) → r ≡ key_at text at
  unfolding key_at signed_at
  key_is r e = e ∙ sym (item_ended signed signed_fits (λ k. lt_z k greatest) key_fits both_fit signed_of signed_led signed_stops text at)
    where
      both_fit : (k : ℤ) → key_fits k ≡ pick (signed_fits k) (lt_z k greatest) false
      both_fit (pos n) =
          elim (lt_or n most_number) [
            | inl l ↦ rw (lt-ltb n most_number l, le-leb n most_number (omega arith))
            | inr l ↦ rw (le-ltb n most_number l) (elim (number_fits n) as (λ t. false ≡ pick t false false) [ true ↦ refl | false ↦ refl ])
          ]
      both_fit (negsuc n) = refl

-- a key is compared and passed on through its bits
module _ (k : ℤ) where
  pub key_below : (x a b : Option (Item ℤ)) → lt_z (to_z w32 (of_z w32 k)) greatest ≡ true → SFits w32 k → x ≡ a → x ≡ pick (lt_z k greatest) a b
  key_below x a b e h q = on_true x (lt_z k greatest) a b (rw (to_z-of_z h) at e) q

  pub key_reserved : (x a b : Option (Item ℤ)) → lt_z (to_z w32 (of_z w32 k)) greatest ≡ false → SFits w32 k → x ≡ b → x ≡ pick (lt_z k greatest) a b
  key_reserved x a b e h q = on_false x (lt_z k greatest) a b (rw (to_z-of_z h) at e) q

pub ruleset number_cases = (refl, tt, some_none, some_taken, number_is)

pub ruleset key_cases = (refl, tt, some_none, some_taken, key_is, key_below, key_reserved, sfits_of)
