-- A header is the number of workers and so many counts, and then one number; each word that is read joins the counts.
use Prim.Native.Nat.{ℕ, suc, ◌+◌, ◌≤◌, ◌<◌}
use mathlib.Core.List.{List, [], ◌∷◌, ◌++◌}
use mathlib.Core.Option.{Option, none, some}
use mathlib.Core.Path.{◌≡◌, refl, sym, ap, ◌∙◌}
use native.Mathlib.Omega.{arith}
use lib.Dec.{leb, eqb}
use lib.ListN.{length, length-append}
use borrow.Author.Tests.{le-leb, eq-eqb, leb-true, eqb-true}
use Rattle.catalogue.specs.Tests.{pick, given, one_to}
use Rattle.catalogue.specs.Numbers.{most_workers}
use Rattle.catalogue.specs.Script.{Header, header_of, header_fits, sum, unsnoc, put_first, most_requests, most_turns}
use Rattle.laws.proofs.Picks.{clash, both_true, pick_some}
use Rattle.script.proofs.Tools.{none_if}

-- ---- the members before the last, and the last

unsnoc_pair : (n m : ℕ) (ms : List ℕ) → unsnoc (n ∷ (m ∷ ms)) ≡ put_first n (unsnoc (m ∷ ms))
unfolding unsnoc
unsnoc_pair n m ms = refl

unsnoc_one : (n : ℕ) → unsnoc (n ∷ []) ≡ some ([], n)
unfolding unsnoc
unsnoc_one n = refl

unsnoc_end : (counts : List ℕ) (turns : ℕ) → unsnoc (counts ++ (turns ∷ [])) ≡ some (counts, turns)
unsnoc_end [] turns = unsnoc_one turns
unsnoc_end (n ∷ []) turns = rw (unsnoc_pair n turns [], unsnoc_one turns)
unsnoc_end (n ∷ (m ∷ ms)) turns = rw (unsnoc_pair n m (ms ++ (turns ∷ [])), unsnoc_end (m ∷ ms) turns)

unsnoc_is : (xs : List ℕ) (r : List ℕ × ℕ) → unsnoc xs ≡ some r → xs ≡ r.0 ++ (r.1 ∷ [])
unfolding unsnoc
unsnoc_is [] r e = clash (cc)
unsnoc_is (n ∷ []) r e = let q : ◌≡◌ {A = List ℕ × ℕ} ([], n) r = cc in ap (λ s. s.0 ++ (s.1 ∷ [])) q
unsnoc_is (n ∷ (m ∷ ms)) r e = by (unsnoc (m ∷ ms)) (unsnoc_is (m ∷ ms)) e
  where
    by : (o : Option (List ℕ × ℕ)) → ((s : List ℕ × ℕ) → o ≡ some s → m ∷ ms ≡ s.0 ++ (s.1 ∷ [])) → put_first n o ≡ some r → n ∷ (m ∷ ms) ≡ r.0 ++ (r.1 ∷ [])
    by none rest e = clash (cc)
    by (some s) rest e =
        let q : ◌≡◌ {A = List ℕ × ℕ} (n ∷ s.0, s.1) r = cc in
        ap (λ l. n ∷ l) (rest s refl) ∙ ap (λ s. s.0 ++ (s.1 ∷ [])) q

last_same : (xs : List ℕ) (x : ℕ) (ys : List ℕ) (y : ℕ) → xs ++ (x ∷ []) ≡ ys ++ (y ∷ []) → x ≡ y
last_same xs x ys y e =
    let q : ◌≡◌ {A = Option (List ℕ × ℕ)} (some (xs, x)) (some (ys, y)) = sym (unsnoc_end xs x) ∙ ap unsnoc e ∙ unsnoc_end ys y in
    let p : ◌≡◌ {A = List ℕ × ℕ} (xs, x) (ys, y) = cc in
    ap (λ r. r.1) p

-- ---- sums

pub sum_none : sum [] ≡ 0
unfolding sum
sum_none = refl

pub sum_pair : (n : ℕ) (ns : List ℕ) → sum (n ∷ ns) ≡ n + sum ns
unfolding sum
sum_pair n ns = refl

pub sum_append : (xs ys : List ℕ) → sum (xs ++ ys) ≡ sum xs + sum ys
unfolding sum
sum_append [] ys = omega arith
sum_append (x ∷ xs) ys = omega (arith, sum_append xs ys)

-- members that stand before the last of a longer list
sum_part : (cs : List ℕ) (c : ℕ) (ns counts : List ℕ) (turns : ℕ) → cs ++ (c ∷ ns) ≡ counts ++ (turns ∷ []) → length cs < length counts → sum cs + c ≤ sum counts
unfolding sum
sum_part [] c ns [] turns e h = absurd (omega arith)
sum_part [] c ns (x ∷ xs) turns e h = let q : c ≡ x = cc in omega arith
sum_part (y ∷ cs) c ns [] turns e h = absurd (omega arith)
sum_part (y ∷ cs) c ns (x ∷ xs) turns e h =
    let q : y ≡ x = cc in
    let r : cs ++ (c ∷ ns) ≡ xs ++ (turns ∷ []) = cc in
    omega (arith, sum_part cs c ns xs turns r (omega arith))

-- ---- what a header's numbers are

pub record Parts (workers : ℕ) (xs : List ℕ) (h : Header) : Type 0 where
  pub joined : xs ≡ h.counts ++ (h.turns ∷ [])
  pub counted : length h.counts ≡ workers
  pub summed : sum h.counts ≤ most_requests
  pub timed : h.turns ≤ most_turns
  pub one : 1 ≤ workers
  pub few : workers ≤ most_workers

pub parts : (workers : ℕ) (xs : List ℕ) (h : Header) → header_of (workers ∷ xs) ≡ some h → Parts workers xs h
parts workers xs h e = by (unsnoc xs) (unsnoc_is xs) e
  where
    by : (o : Option (List ℕ × ℕ)) → ((r : List ℕ × ℕ) → o ≡ some r → xs ≡ r.0 ++ (r.1 ∷ []))
        → given {B = Option Header} o none (λ r. pick (header_fits workers r.0 r.1) (some (record { counts = r.0; turns = r.1 })) none) ≡ some h → Parts workers xs h
    by none joins e = clash (cc)
    by (some r) joins e =
        let made : Header = record { counts = r.0; turns = r.1 } in
        let p = pick_some (header_fits workers r.0 r.1) (some made) h e in
        let m : made ≡ h = cc p.1 in
        let q = both_true (one_to most_workers workers) _ p.0 in
        let w = both_true (leb 1 workers) (leb workers most_workers) q.0 in
        let l = both_true (eqb (length r.0) workers) _ q.1 in
        let t = both_true (leb (sum r.0) most_requests) (leb r.1 most_turns) l.1 in
        let c : r.0 ≡ h.counts = ap (λ g. g.counts) m in
        let n : r.1 ≡ h.turns = ap (λ g. g.turns) m in
        record {
          joined = rw (sym c, sym n) (joins r refl);
          counted = rw (sym c) (eqb-true (length r.0) workers l.0);
          summed = rw (sym c) (leb-true (sum r.0) most_requests t.0);
          timed = rw (sym n) (leb-true r.1 most_turns t.1);
          one = leb-true 1 workers w.0;
          few = leb-true workers most_workers w.1;
        }

module _ (workers : ℕ) (cs : List ℕ) where
  -- the whole of it
  pub header_made : (turns : ℕ) → 1 ≤ workers → workers ≤ most_workers → length cs ≡ workers → sum cs ≤ most_requests → turns ≤ most_turns
      → header_of (workers ∷ (cs ++ (turns ∷ []))) ≡ some (record { counts = cs; turns = turns })
  header_made turns one few l s t =
      rw (unsnoc_end cs turns, le-leb 1 workers one, le-leb workers most_workers few, eq-eqb (length cs) workers l, le-leb (sum cs) most_requests s, le-leb turns most_turns t)

  pub header_late : (turns : ℕ) → most_turns < turns → header_of (workers ∷ (cs ++ (turns ∷ []))) ≡ none
  header_late turns g =
      none_if (header_of (workers ∷ (cs ++ (turns ∷ []))))
      (λ h e. omega (arith, last_same cs turns h.counts h.turns (parts workers (cs ++ (turns ∷ [])) h e).joined, (parts workers (cs ++ (turns ∷ [])) h e).timed))

  module _ (n : ℕ) (ns : List ℕ) where
    lengths : length (cs ++ (n ∷ ns)) ≡ length cs + suc (length ns)
    lengths = length-append cs (n ∷ ns)

    pub header_none : (((h : Header) → Parts workers (cs ++ (n ∷ ns)) h → ⊥)) → header_of (workers ∷ (cs ++ (n ∷ ns))) ≡ none
    header_none never = none_if (header_of (workers ∷ (cs ++ (n ∷ ns)))) (λ h e. never h (parts workers (cs ++ (n ∷ ns)) h e))

    -- too few numbers, or too many
    pub header_off : (length cs + length ns ≡ workers → ⊥) → header_of (workers ∷ (cs ++ (n ∷ ns))) ≡ none
    header_off off = header_none (λ h p. off (omega (arith, ap length p.joined, lengths, length-append h.counts (h.turns ∷ []), p.counted)))

    -- too great a sum of counts, or any number too great
    pub header_sum : length cs < workers → most_requests < sum cs + n → header_of (workers ∷ (cs ++ (n ∷ ns))) ≡ none
    header_sum l g = header_none (λ h p. omega (arith, sum_part cs n ns h.counts h.turns p.joined (omega (arith, p.counted)), p.summed))

    pub header_large : most_requests + most_turns < n → header_of (workers ∷ (cs ++ (n ∷ ns))) ≡ none
    header_large g =
        header_none (λ h p. omega
        (arith, ap sum p.joined, sum_append cs (n ∷ ns), sum_pair n ns, sum_append h.counts (h.turns ∷ []), sum_pair h.turns [], sum_none, p.summed, p.timed))
