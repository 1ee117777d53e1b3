-- Document 01, "Sweep and listing", the paragraph on scripts:
-- how a script is written, and how it is read, with the first bad line.
use Rattle.std.specs.Prelude.{ℕ, zero, suc, ◌+◌, ◌*◌, ◌-◌, Bool, false, List, [], ◌∷◌, ◌++◌, map, ℤ, pos, negsuc, length, eqb, leb, ltb}
use Rattle.std.proofs.Math.Option.{Option, none, some}
use Rattle.std.specs.Int.Signed.{lt_z}
use Rattle.catalogue.specs.Tests.{pick, one_to, given, every}
use Rattle.catalogue.specs.Numbers.{least, greatest, most_workers}
use Rattle.catalogue.specs.Text.{line_end, space, minus, zero_digit, lines}
use Rattle.catalogue.specs.Workers.{asks}
use Rattle.catalogue.specs.Steps.Places.{code_known, one_key}
use Rattle.catalogue.specs.declared.workers.Request.{Request}

-- A script: how many requests each worker has, all requests, worker 0's first, and the schedule.
pub record Script : Type 0 where
  pub counts : List ℕ
  pub requests : List Request
  pub schedule : List ℕ

abbrev pub script_limit : ℕ
script_limit = 49152

abbrev pub most_requests : ℕ
most_requests = 1024

abbrev pub most_turns : ℕ
most_turns = 8192

-- ---- how it is written

abbrev pub request_line : Request → List ℤ
request_line r = pos r.code ∷ pick (one_key r.code) (r.pair.k ∷ []) (r.pair.k ∷ r.pair.l ∷ [])

unfoldable pub script_text : Script → List ℕ
script_text s =
    lines (((pos (length s.counts) ∷ map pos s.counts) ++ (pos (length s.schedule) ∷ []))
    ∷ (map request_line s.requests ++ (map pos s.schedule ∷ [])))

-- ---- how a line is read

-- the line up to the next byte 10 and the text after it; none if no line is ended
unfoldable pub next_line : List ℕ → Option (List ℕ × List ℕ)
next_line [] = none
next_line (b ∷ bs) = pick (eqb b line_end) (some ([], bs)) (given (next_line bs) none (λ r. some (b ∷ r.0, r.1)))

-- the words between single spaces; a space too many makes an empty word
abbrev pub grow : ℕ → List (List ℕ) → List (List ℕ)
grow b [] = (b ∷ []) ∷ []
grow b (w ∷ ws) = (b ∷ w) ∷ ws

unfoldable pub split : List ℕ → List (List ℕ)
split [] = [] ∷ []
split (b ∷ bs) = pick (eqb b space) ([] ∷ split bs) (grow b (split bs))

-- an empty line has no words
abbrev pub words : List ℕ → List (List ℕ)
words [] = []
words (b ∷ bs) = split (b ∷ bs)

-- the value of digits, after those read before
unfoldable pub value : ℕ → List ℕ → Option ℕ
value sum [] = some sum
value sum (b ∷ bs) = pick (leb zero_digit b) (pick (leb b (zero_digit + 9)) (value (10 * sum + (b - zero_digit)) bs) none) none

-- a word that is a number: 0, or digits that do not begin with 0
abbrev pub natural : List ℕ → Option ℕ
natural [] = none
natural (b ∷ []) = value 0 (b ∷ [])
natural (b ∷ (c ∷ cs)) = pick (eqb b zero_digit) none (value 0 (b ∷ (c ∷ cs)))

abbrev pub negated : ℕ → Option ℤ
negated zero = none
negated (suc n) = some (negsuc n)

-- a word that is a key: a number, or a minus and a number other than 0
abbrev pub signed : List ℕ → Option ℤ
signed [] = none
signed (b ∷ bs) = pick (eqb b minus) (given (natural bs) none negated) (given (natural (b ∷ bs)) none (λ n. some (pos n)))

-- every word of a line, or none if one of them is none
unfoldable pub all_of : {A : Type 0} → (List ℕ → Option A) → List (List ℕ) → Option (List A)
all_of f [] = some []
all_of f (w ∷ ws) = given (f w) none (λ a. given (all_of f ws) none (λ as'. some (a ∷ as')))

-- ---- the three kinds of line

unfoldable pub sum : List ℕ → ℕ
sum [] = 0
sum (n ∷ ns) = n + sum ns

-- the members before the last, and the last
abbrev pub put_first : ℕ → Option (List ℕ × ℕ) → Option (List ℕ × ℕ)
put_first n none = none
put_first n (some r) = some (n ∷ r.0, r.1)

unfoldable pub unsnoc : List ℕ → Option (List ℕ × ℕ)
unsnoc [] = none
unsnoc (n ∷ ns) = elim ns [ [] ↦ some ([], n) | m ∷ ms ↦ put_first n (unsnoc ns) ]

-- Line 1: the number of workers, a count of requests for each, and the length of the schedule.
pub record Header : Type 0 where
  pub counts : List ℕ
  pub turns : ℕ

abbrev pub header_fits : ℕ → List ℕ → ℕ → Bool
header_fits workers counts turns =
    pick (one_to most_workers workers)
    (pick (eqb (length counts) workers) (pick (leb (sum counts) most_requests) (leb turns most_turns) false) false)
    false

abbrev pub header_of : List ℕ → Option Header
header_of [] = none
header_of (workers ∷ rest) =
    given (unsnoc rest) none (λ r. pick (header_fits workers r.0 r.1) (some (record { counts = r.0; turns = r.1 })) none)

abbrev pub read_header : List ℕ → Option Header
read_header l = given (all_of natural (words l)) none header_of

-- A request: a code, and its keys, of which none is reserved or outside the range of keys.
abbrev pub key_fits : ℤ → Bool
key_fits k = pick (lt_z least k) (lt_z k greatest) false

abbrev pub request_from : ℕ → List ℤ → Option Request
request_from code [] = none
request_from code (k ∷ []) = pick (one_key code) (some (asks code k (pos 0))) none
request_from code (k ∷ (l ∷ [])) = pick (one_key code) none (some (asks code k l))
request_from code (k ∷ (l ∷ (m ∷ ms))) = none

abbrev pub request_of_words : List (List ℕ) → Option Request
request_of_words [] = none
request_of_words (w ∷ ws) =
    given (natural w) none (λ code.
    given (all_of signed ws) none (λ keys.
    pick (code_known code) (pick (every key_fits keys) (request_from code keys) none) none))

abbrev pub read_request : List ℕ → Option Request
read_request l = request_of_words (words l)

-- The schedule: so many worker numbers, all below the number of workers.
abbrev pub read_schedule : ℕ → ℕ → List ℕ → Option (List ℕ)
read_schedule workers turns l =
    given (all_of natural (words l)) none (λ ns.
    pick (eqb (length ns) turns) (pick (every (λ w. ltb w workers) ns) (some ns) none) none)

-- ---- the whole script

-- What is read, or the number of the first bad or missing line.
pub data Read (A : Type 0) : Type 0 where
  bad : ℕ → Read A
  good : A → Read A

abbrev pub and_then : {A B : Type 0} → Read A → (A → Read B) → Read B
and_then (bad n) f = bad n
and_then (good a) f = f a

-- one line of a kind, and the text after it
abbrev pub read_line : {A : Type 0} → (List ℕ → Option A) → ℕ → List ℕ → Read (A × List ℕ)
read_line kind n text = given (next_line text) (bad n) (λ r. given (kind r.0) (bad n) (λ a. good (a, r.1)))

-- so many request lines
unfoldable pub read_requests : ℕ → ℕ → List ℕ → Read (List Request × List ℕ)
read_requests zero n text = good ([], text)
read_requests (suc count) n text =
    and_then (read_line read_request n text) (λ r.
    and_then (read_requests count (suc n) r.1) (λ rs. good (r.0 ∷ rs.0, rs.1)))

-- nothing after the last line: what stands there is a bad line of its own
abbrev pub ended : {A : Type 0} → ℕ → A → List ℕ → Read A
ended n a [] = good a
ended n a (b ∷ bs) = bad n

unfoldable pub read_lines : List ℕ → Read Script
read_lines text =
    and_then (read_line read_header 1 text) (λ h.
    let count = sum h.0.counts in
    and_then (read_requests count 2 h.1) (λ rs.
    and_then (read_line (read_schedule (length h.0.counts) h.0.turns) (2 + count) rs.1) (λ s.
    ended (3 + count) (record { counts = h.0.counts; requests = rs.0; schedule = s.0 }) s.1)))

-- A text that is too long is line 0, before anything is looked at.
unfoldable pub read_script : List ℕ → Read Script
read_script text = pick (leb (length text) script_limit) (read_lines text) (bad 0)
