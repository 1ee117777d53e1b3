-- What is known of a script that was read: at most eight workers, and keys of 32 bits.
use Prim.Native.Nat.{ℕ, zero, suc, ◌≤◌}
use mathlib.Core.Bool.{Bool, true, false}
use mathlib.Core.List.{List, [], ◌∷◌}
use mathlib.Core.Option.{Option, none, some}
use mathlib.Core.Path.{◌≡◌, refl, sym, ap, ◌∙◌}
use native.Mathlib.Omega.{arith}
use borrow.Author.Tests.{leb-true, eqb-true}
use lib.IntN.{ℤ, pos}
use lib.ListN.{length}
use lib.Signed.{lt_z, <ℤ_irrefl}
use lib.Dec.{eqb, leb}
use Rattle.catalogue.specs.Tests.{pick, given, every, one_to}
use Rattle.catalogue.specs.Numbers.{least, greatest, most_workers}
use Rattle.catalogue.specs.Steps.Places.{code_known, one_key}
use Rattle.catalogue.specs.Script.{Script, Read, bad, good, and_then, Header, header_fits, header_of, read_header, key_fits, request_from, request_of_words, read_request, natural, signed, all_of, words, unsnoc, read_line, next_line, read_requests, read_schedule, ended, read_lines, read_script, script_limit, sum}
use Rattle.catalogue.specs.declared.workers.Request.{Request}
use Rattle.laws.proofs.Picks.{both_true, clash, pick_some}
use Rattle.row.proofs.Base.{<ℤ-trans, lt_z_true}
use Rattle.promises.specs.Moments.{All, none, each, Key, Fitting}
use Rattle.promises.specs.Promises.{ScriptsPlayed}
use Rattle.promises.proofs.Runs.Scripts.{script_choices, run_is, run_replies, run_keyed}
use Rattle.catalogue.specs.Workers.{asks}

-- ---- what was given, was found, was read

given_some : {A B : Type 0} (o : Option A) (f : A → Option B) (b : B) → given o none f ≡ some b → (a : A) × (o ≡ some a) × (f a ≡ some b)
given_some none f b e = clash (cc)
given_some (some a) f b e = (a, refl, e)

then_good : {A B : Type 0} (r : Read A) (f : A → Read B) (b : B) → and_then r f ≡ good b → (a : A) × (r ≡ good a) × (f a ≡ good b)
then_good (bad n) f b e = clash (cc)
then_good (good a) f b e = (a, refl, e)

-- ---- keys and requests

-- the order has no way back
one_way : (a b : ℤ) → lt_z a b ≡ true → lt_z b a ≡ false
one_way a b e = by (lt_z b a) refl
  where
    by : (t : Bool) → lt_z b a ≡ t → lt_z b a ≡ false
    by true q = absurd (<ℤ_irrefl (<ℤ-trans (lt_z_true a b e) (lt_z_true b a q)))
    by false q = q

key_of : (k : ℤ) → key_fits k ≡ true → Key k
key_of k e =
    let z = both_true (lt_z least k) (lt_z k greatest) e in
    record { low = one_way least k z.0; high = one_way k greatest z.1 }

no_key : Key (pos 0)
no_key = record { low = refl; high = refl }

fitting_from : (code : ℕ) (keys : List ℤ) (q : Request) → every key_fits keys ≡ true → request_from code keys ≡ some q → Fitting q
unfolding every
fitting_from code [] q e r = clash (cc)
fitting_from code (k ∷ []) q e r =
    let z = pick_some (one_key code) (some (asks code k (pos 0))) q r in
    let same : asks code k (pos 0) ≡ q = (let s = z.1 in cc) in
    let h = both_true (key_fits k) true e in
    rw (sym same) (record { first = key_of k h.0; second = no_key })
fitting_from code (k ∷ (l ∷ [])) q e r =
    let z = un_pick (one_key code) r in
    let same : asks code k l ≡ q = (let s = z.1 in cc) in
    let h = both_true (key_fits k) (pick (key_fits l) true false) e in
    rw (sym same) (record { first = key_of k h.0; second = key_of l (both_true (key_fits l) true h.1).0 })
  where
    un_pick : (t : Bool) → pick t none (some (asks code k l)) ≡ some q → (t ≡ false) × (◌≡◌ {A = Option Request} (some (asks code k l)) (some q))
    un_pick true e = clash (cc)
    un_pick false e = (refl, e)
fitting_from code (k ∷ (l ∷ (m ∷ ms))) q e r = clash (cc)

fitting_words : (ws : List (List ℕ)) (q : Request) → request_of_words ws ≡ some q → Fitting q
fitting_words [] q e = clash (cc)
fitting_words (w ∷ ws) q e =
    let a = given_some (natural w) _ q e in
    let b = given_some (all_of signed ws) _ q a.2 in
    let c = pick_some (code_known a.0) _ q b.2 in
    let d = pick_some (every key_fits b.0) _ q c.1 in
    fitting_from a.0 b.0 q d.0 d.1

-- ---- lines

line_good : {A : Type 0} (kind : List ℕ → Option A) (n : ℕ) (text : List ℕ) (r : A × List ℕ) → read_line kind n text ≡ good r → (l : List ℕ) × (kind l ≡ some r.0)
line_good kind n text r e = by (next_line text) e
  where
    inner : (l rest : List ℕ) (o : Option _) → kind l ≡ o → given o (bad n) (λ a. good (a, rest)) ≡ good r → (l : List ℕ) × (kind l ≡ some r.0)
    inner l rest none q z = clash (cc)
    inner l rest (some a) q z = let s : a ≡ r.0 = (let p : ◌≡◌ {A = _ × List ℕ} (a, rest) r = cc in ap (λ x. x.0) p) in (l, q ∙ ap some s)

    by : (o : Option (List ℕ × List ℕ)) → given o (bad n) (λ x. given (kind x.0) (bad n) (λ a. good (a, x.1))) ≡ good r → (l : List ℕ) × (kind l ≡ some r.0)
    by none z = clash (cc)
    by (some x) z = inner x.0 x.1 (kind x.0) refl z

-- the header's line names at most eight workers
few_workers : (ns : List ℕ) (h : Header) → header_of ns ≡ some h → length h.counts ≤ 8
few_workers [] h e = clash (cc)
few_workers (workers ∷ rest) h e =
    let a = given_some (unsnoc rest) _ h e in
    let c : List ℕ = a.0.0 in
    let b = pick_some (header_fits workers c a.0.1) (some (record { counts = c; turns = a.0.1 })) h a.2 in
    let same : record { counts = c; turns = a.0.1 } ≡ h = (let s = b.1 in cc) in
    let d = both_true (one_to most_workers workers) _ b.0 in
    let f = both_true (eqb (length c) workers) _ d.1 in
    rw (sym same) (omega (arith, eqb-true (length c) workers f.0, leb-true workers 8 (both_true (leb 1 workers) (leb workers 8) d.0).1))

requests_fit : (count n : ℕ) (text : List ℕ) (rs : List Request × List ℕ) → read_requests count n text ≡ good rs → All Fitting rs.0
unfolding read_requests
requests_fit zero n text rs e = let s : ([], text) ≡ rs = cc in rw (sym s) none
requests_fit (suc count) n text rs e =
    let a = then_good (read_line read_request n text) _ rs e in
    let b = then_good (read_requests count (suc n) a.0.1) _ rs a.2 in
    let l = line_good read_request n text a.0 a.1 in
    let s : (a.0.0 ∷ b.0.0, b.0.1) ≡ rs = (let q = b.2 in cc) in
    rw (sym s) (each (fitting_words (words l.0) a.0.0 l.1) (requests_fit count (suc n) a.0.1 b.0 b.1))

-- A script that was read.
pub record Accepted (s : Script) : Type 0 where
  pub few : length s.counts ≤ 8
  pub fitting : All Fitting s.requests

lines_accepted : (text : List ℕ) (s : Script) → read_lines text ≡ good s → Accepted s
unfolding read_lines
lines_accepted text s e =
    let h = then_good (read_line read_header 1 text) _ s e in
    let counts : List ℕ = h.0.0.counts in
    let rs = then_good (read_requests (sum counts) 2 h.0.1) _ s h.2 in
    let t = then_good (read_line (read_schedule (length counts) h.0.0.turns) _ rs.0.1) _ s rs.2 in
    let l = line_good read_header 1 text h.0 h.1 in
    let made : Script = record { counts = counts; requests = rs.0.0; schedule = t.0.0 } in
    let same : made ≡ s = ended_good _ made t.0.1 s t.2 in
    let a = given_some (all_of natural (words l.0)) _ h.0.0 l.1 in
    rw (sym same) (record { few = few_workers a.0 h.0.0 a.2; fitting = requests_fit (sum counts) 2 h.0.1 rs.0 rs.1 })
  where
    ended_good : (n : ℕ) (a : Script) (rest : List ℕ) (b : Script) → ended n a rest ≡ good b → a ≡ b
    ended_good n a [] b e = cc
    ended_good n a (c ∷ cs) b e = clash (cc)

pub accepted : (text : List ℕ) (s : Script) → read_script text ≡ good s → Accepted s
unfolding read_script
accepted text s e = by (leb (length text) script_limit) e
  where
    by : (t : Bool) → pick t (read_lines text) (bad 0) ≡ good s → Accepted s
    by true q = lines_accepted text s q
    by false q = clash (cc)

pub scripts_played : ScriptsPlayed
scripts_played text s e =
    let a = accepted text s e in
    record { choices = script_choices s; given = record { most = a.few; keyed = run_keyed s a.fitting }; same = run_is s; replies = run_replies s }
