-- A request line is a code and, by the code, one key or two. After each word the same is asked of the words left.
use Prim.Native.Nat.{ℕ, ◌<◌}
use mathlib.Core.Bool.{Bool, true, false}
use mathlib.Core.List.{List, [], ◌∷◌}
use mathlib.Core.Option.{none, some}
use mathlib.Core.Option as maybe
use Rattle.std.specs.Prelude.{Option, None, Some}
use mathlib.Core.Path.{◌≡◌, refl, sym, ◌∙◌}
use native.Mathlib.Omega.{arith}
use lib.Dec.{leb}
use lib.IntN.{ℤ, pos}
use lib.ListN.{drop}
use borrow.Author.Tests.{le-leb, lt-leb, leb-false}
use Rattle.catalogue.specs.Tests.{pick, given, every}
use Rattle.catalogue.specs.Workers.{asks}
use Rattle.catalogue.specs.Script.{next_line, split, all_of, natural, signed, key_fits, request_from, request_of_words, read_request}
use Rattle.catalogue.specs.Steps.Places.{code_known}
use Rattle.catalogue.specs.declared.workers.Request.{Request}
use Rattle.digits.specs.Digits.{most_number, number_fits, at_some, found}
use Rattle.digits.specs.declared.numbers.Parsed.{Parsed}
use Rattle.digits.proofs.Values.{none_or}
use Rattle.script.specs.Words.{item, number_at, key_at}
use Rattle.script.specs.Lines.{words_at, request_at, line_of, keyed, keys_at}
use Rattle.script.specs.declared.numbers.Item.{Item}
use Rattle.script.proofs.Tools.{pick_alike, pick_through, pick_in, given_pick, every_pair, all_pair, fitting}
use Rattle.script.proofs.Taken.{taken}
use Rattle.script.proofs.LineLaws.{line_alike, words_none, words_pick, Goes, read_on, by_number, by_key}

-- ---- one key of several

keyed_end : (make : List ℤ → maybe.Option Request) → keyed make [] ≡ make []
unfolding all_of every
keyed_end make = refl

keyed_goes : (make : List ℤ → maybe.Option Request) → Goes signed key_fits (keyed make) (λ k. keyed (λ keys. make (k ∷ keys)))
keyed_goes make w ws = all_pair signed w ws (λ keys. pick (every key_fits keys) (make keys) none) ∙ by (signed w) (all_of signed ws)
  where
    by : (o : maybe.Option ℤ) (os : maybe.Option (List ℤ)) → given o none (λ k. given os none (λ ks. pick (every key_fits (k ∷ ks)) (make (k ∷ ks)) none))
        ≡ given o none (λ k. pick (key_fits k) (given os none (λ ks. pick (every key_fits ks) (make (k ∷ ks)) none)) none)
    by none os = refl
    by (some k) none = sym (pick_alike (key_fits k) none)
    by (some k) (some ks) = rw (every_pair key_fits k ks) (pick_in (key_fits k) (every key_fits ks) (make (k ∷ ks)) none)

-- where a key more is too many
keyed_never : (make : List ℤ → maybe.Option Request) → ((k : ℤ) (ks : List ℤ) → make (k ∷ ks) ≡ none) → (w : List ℕ) (ws : List (List ℕ)) → keyed make (w ∷ ws) ≡ none
keyed_never make never w ws = all_pair signed w ws (λ keys. pick (every key_fits keys) (make keys) none) ∙ by (signed w) (all_of signed ws)
  where
    by : (o : maybe.Option ℤ) (os : maybe.Option (List ℤ)) → given o none (λ k. given os none (λ ks. pick (every key_fits (k ∷ ks)) (make (k ∷ ks)) none)) ≡ none
    by none os = refl
    by (some k) none = refl
    by (some k) (some ks) = none_or (every key_fits (k ∷ ks)) (make (k ∷ ks)) (never k ks)

-- ---- the keys after a code

module _ (code : ℕ) (text : List ℕ) where
  abbrev by_second : ℤ → Option (Item ℤ) → Option (Parsed Request)
  by_second k r = at_some r None (λ l. pick l.last (pick (leb code 3) None (line_of code k l.value l.next)) None)

  abbrev by_first : Option (Item ℤ) → Option (Parsed Request)
  by_first r = at_some r None (λ k. pick k.last (pick (leb code 3) (line_of code k.value (pos 0) k.next) None) (by_second k.value (key_at text k.next)))

  -- a key more of those that were read
  abbrev more : (List ℤ → maybe.Option Request) → Option (Item ℤ) → Option (Parsed Request)
  more make r = at_some r None (read_on text (λ k. keyed (λ keys. make (k ∷ keys))))

  keyed_line : (make : List ℤ → maybe.Option Request) (at : ℕ) → words_at (keyed make) text at ≡ more make (key_at text at)
  keyed_line make at = by_key text at (keyed make) (λ k. keyed (λ keys. make (k ∷ keys))) (keyed_goes make)

  ended_by : (t : Bool) (a b : maybe.Option Request) (next : ℕ)
      → given (pick t a b) None (λ a. found a next) ≡ pick t (given a None (λ a. found a next)) (given b None (λ a. found a next))
  ended_by t a b next = pick_through (λ o. given {B = Option (Parsed Request)} o None (λ a. found a next)) t a b

  second_is : (k : ℤ) (at : ℕ) → words_at (keyed (λ keys. request_from code (k ∷ keys))) text at ≡ by_second k (key_at text at)
  second_is k at = keyed_line (λ keys. request_from code (k ∷ keys)) at ∙ by (key_at text at)
    where
      item_is : (l : ℤ) (next : ℕ) (last : Bool) → more (λ keys. request_from code (k ∷ keys)) (item l next last) ≡ by_second k (item l next last)
      item_is l next true = rw (keyed_end (λ keys. request_from code (k ∷ (l ∷ keys)))) (ended_by (leb code 3) none (some (asks code k l)) next)
      item_is l next false =
          words_none text next (keyed (λ keys. request_from code (k ∷ (l ∷ keys)))) (keyed_never (λ keys. request_from code (k ∷ (l ∷ keys))) (λ m ms. refl))

      by : (r : Option (Item ℤ)) → more (λ keys. request_from code (k ∷ keys)) r ≡ by_second k r
      by None = refl
      by (Some l) = item_is l.value l.next l.last

  pub keys_is : (at : ℕ) (s : Option (Parsed Request)) → s ≡ by_first (key_at text at) → s ≡ keys_at code text at
  unfolding keys_at
  keys_is at s e = e ∙ sym (keyed_line (request_from code) at ∙ by (key_at text at))
    where
      item_is : (k : ℤ) (next : ℕ) (last : Bool) → more (request_from code) (item k next last) ≡ by_first (item k next last)
      item_is k next true = rw (keyed_end (λ keys. request_from code (k ∷ keys))) (ended_by (leb code 3) (some (asks code k (pos 0))) none next)
      item_is k next false = second_is k next

      by : (r : Option (Item ℤ)) → more (request_from code) r ≡ by_first r
      by None = refl
      by (Some k) = item_is k.value k.next k.last

-- ---- the code

-- an empty line has one empty word, which is no number
words_or_none : (l : List ℕ) → read_request l ≡ request_of_words (split l)
unfolding split
words_or_none [] = refl
words_or_none (b ∷ bs) = refl

abbrev coded : ℕ → List (List ℕ) → maybe.Option Request
coded code ws = pick (code_known code) (keyed (request_from code) ws) none

request_goes : Goes natural number_fits request_of_words coded
request_goes w ws = by (natural w) ∙ fitting (natural w) (λ code. coded code ws) large
  where
    by : (o : maybe.Option ℕ) → given o none (λ code. given (all_of signed ws) none (λ keys. pick (code_known code) (pick (every key_fits keys) (request_from code keys) none) none)) ≡ given o none (λ code. coded code ws)
    by none = refl
    by (some code) = given_pick (code_known code) (all_of signed ws) (λ keys. pick (every key_fits keys) (request_from code keys) none)

    large : (n : ℕ) → number_fits n ≡ false → coded n ws ≡ none
    large n t = let g : 6 < n = omega (arith, leb-false n most_number t) in rw (le-leb 1 n (omega arith), lt-leb n 6 g)

module _ (text : List ℕ) (at : ℕ) where
  abbrev by_code : Option (Item ℕ) → Option (Parsed Request)
  by_code r = at_some r None (λ n. pick n.last None (pick (leb 1 n.value) (pick (leb n.value 6) (keys_at n.value text n.next) None) None))

  pub request_is : (s : Option (Parsed Request)) → s ≡ by_code (number_at text at) → s ≡ request_at text at
  unfolding request_at keys_at
  request_is s e =
      e ∙ sym (line_alike read_request (λ l. request_of_words (split l)) words_or_none at (next_line (drop at text))
      ∙ by_number text at request_of_words coded request_goes
      ∙ by (number_at text at))
    where
      item_is : (code next : ℕ) (last : Bool) → at_some (item code next last) None (read_on text coded) ≡ by_code (item code next last)
      item_is code next true = rw (keyed_end (request_from code), pick_alike {A = maybe.Option Request} (code_known code) none)
      item_is code next false =
          words_pick text next (code_known code) (keyed (request_from code)) ∙ pick_in (leb 1 code) (leb code 6) (words_at (keyed (request_from code)) text next) None

      by : (r : Option (Item ℕ)) → at_some r None (read_on text coded) ≡ by_code r
      by None = refl
      by (Some n) = item_is n.value n.next n.last

-- a key reaches a callee through its bits, and means the same there
pub line_arg : (code : ℕ) (s : Option (Parsed Request)) (k k' l l' : ℤ) (next : ℕ) → k' ≡ k → l' ≡ l → s ≡ line_of code k' l' next → s ≡ line_of code k l next
line_arg code s k k' l l' next e d q = q ∙ rw (e, d)

pub ruleset request_cases = (taken, keys_is, request_is, line_arg)
