-- While no other edge is on trial, no edge is put in: a worker that puts one in has it on trial then. So a trial
-- crosses edges that were live when it began.
use Prim.Native.Nat.{ℕ, zero, suc, ◌≤◌, ◌<◌}
use mathlib.Core.Bool.{true, false}
use mathlib.Core.List.{List}
use mathlib.Core.Logic.{inl, inr}
use mathlib.Core.Path.{◌≡◌, refl, ap, sym, ◌∙◌, subst}
use native.Mathlib.Omega.{arith}
use lib.ListN.{length}
use Rattle.catalogue.specs.Numbers.{some_link}
use Rattle.catalogue.specs.Catalogue.{Catalogue, edge_link_in, edge_link}
use Rattle.catalogue.specs.Live.{unmarked}
use Rattle.catalogue.specs.Choosing.{Choice, Moment}
use Rattle.catalogue.specs.Workers.{worker_at}
use Rattle.laws.proofs.Picks.{clash, same_tag}
use Rattle.row.proofs.Base.{same?, lt_or}
use Rattle.row.proofs.Tests.{not_true}
use Rattle.row.specs.Lists.Edges.{Tag, marked, transit, added, is_marked}
use Rattle.row.specs.Machine.World.{World}
use Rattle.row.specs.Machine.Choices.{Conf}
use Rattle.row.proofs.Graphs.Older.{LiveE}
use Rattle.row.proofs.Steps.Spots.{Own, Pair, Ok, own}
use Rattle.promises.specs.Moments.{Given, moment}
use Rattle.promises.specs.Outside.{Lasts, Crosses, Undisturbed}
use Rattle.promises.proofs.Showing.Shows.{Series, edge_tag_of, at_trial}
use Rattle.promises.proofs.Showing.Pools.{target_series}
use Rattle.promises.proofs.Lists.Meets.{mark_v}
use Rattle.promises.proofs.Runs.Held.{Held}
use Rattle.promises.proofs.Outside.Run.{run, run_next}
use Rattle.promises.proofs.Outside.Spots.{Trying, trying_spot}
use Rattle.promises.proofs.Outside.Crossing.{plain_tag, open_spot}
use Rattle.promises.proofs.Outside.Chains.{known}
use Rattle.promises.proofs.Outside.Tried.{trial_edge, own_tried}
use Rattle.promises.proofs.Outside.Calm.{Calm, calm_same, calm_on, act_calm}
use Rattle.catalogue.specs.declared.workers.Ends.{Ends}

-- the tail has no link
no_link : (C : Catalogue) (e next tag : ℕ) → edge_link C e ≡ some_link next tag → e ≡ 0 → ⊥
unfolding edge_link_in
no_link C e next tag q z = clash (cc (rw z at q))

-- an edge that was added, from x to y
pub record Was (S : World) (f x y : ℕ) : Type 0 where
  pub live : LiveE S f
  pub is : S.e.tag f ≡ added
  pub from_x : S.e.owner f ≡ x
  pub to_y : S.e.target f ≡ y

module _ (workers : ℕ) (choices : List Choice) (g : Given workers choices) (w : ℕ) (low : w < workers) (ends : Ends) (e first : ℕ)
    (o : Lasts workers choices w ends e first (length choices)) (quiet : Undisturbed workers choices e first (length choices)) where
  abbrev last : ℕ
  last = length choices

  abbrev M : ℕ → Moment
  M n = moment workers choices n

  abbrev X : ℕ → Conf
  X n = (run workers choices g n).0

  abbrev W : ℕ → World
  W n = (X n).world

  held : (n : ℕ) → Held workers (M n) (X n)
  held n = (run workers choices g n).1

  -- ---- which worker tries

  module _ (n : ℕ) (a : first ≤ n) (b : n ≤ last) where
    -- w's spot, with what is known of its pair and its own edge
    mine : Trying (W n).v.used (worker_at (M n).table w) ends e ((X n).at w)
    mine = trying_spot workers (M n) (X n) (held n) g.most w low ends e (o.tries n a b)

    pub own_ok : Pair (W n) ends.pair.k ends.pair.l ends.u ends.v × Own (W n).e ends.pair.l ends.u ends.v e
    own_ok = let z : Ok (W n) (at_trial ends e mine.hunt) = rw mine.is at ((held n).fine.ok w) in (z.0, z.1)

    own_is : own ((X n).at w) ≡ e
    own_is = ap own mine.is

    nobody_else : (x : ℕ) → (x ≡ w → ⊥) → 1 ≤ own ((X n).at x) → ⊥
    nobody_else x d h =
        let f = own ((X n).at x) in
        let t = trial_edge workers (M n) (X n) (held n) f (own_tried workers (M n) (X n) (held n) x h) in
        (held n).fine.apart x w d h (quiet n a b ((W n).e.owner f) f t ∙ sym own_is)

  -- ---- no worker puts an edge in

  calm_next : (n : ℕ) → first ≤ n → suc n ≤ last → Calm (W n) (W (suc n))
  calm_next n a b =
      let r = run_next workers choices g n in
      let m = mine n a (omega arith) in
      subst (λ (Y : Conf). Calm (W n) Y.world) (sym r.1) (elim (act_calm (X n) (held n).fine w (λ q. clash (cc m.is)) r.0) [
        | inl c ↦ c
        | inr p ↦
            elim (same? p.0 w) [
              | inl q ↦ absurd (omega (arith, p.1, ap (λ x. own ((X n).at x)) q, own_is n a (omega arith), (own_ok n a (omega arith)).1.low))
              | inr d ↦ absurd (nobody_else (suc n) (omega arith) b p.0 d (subst (λ (Y : Conf). 1 ≤ own (Y.at p.0)) (sym r.1) p.2))
            ]
      ])

  calm_to : (n : ℕ) → first ≤ n → n ≤ last → Calm (W first) (W n)
  calm_to zero a b = absurd (omega (arith, o.begins))
  calm_to (suc n) a b =
      elim (lt_or n first) [
        | inl h ↦ let q : suc n ≡ first = omega arith in rw q (calm_same (W first))
        | inr h ↦ calm_on (calm_to n h (omega arith)) (calm_next n h b)
      ]

  -- ---- what is crossed

  abbrev S : World
  S = W first

  -- an edge that could be crossed when the trial began, and is not its own, is added
  is_added : (f : ℕ) → LiveE S f → (f ≡ e → ⊥) → S.e.tag f ≡ added
  is_added f i d = by (S.e.tag f) refl
    where
      by : (t : Tag) → S.e.tag f ≡ t → S.e.tag f ≡ added
      by marked q = clash (cc (i.plain, ap is_marked q))
      by added q = q
      by transit q =
          absurd (d (quiet first (omega arith) o.started (S.e.owner f) f
          (trial_edge workers (M first) (X first) (held first) f (record { low = i.low; high = i.high; tried = q }))))

  unmarked_is : (n x : ℕ) → Series (W n).v.used x → unmarked (M n).catalogue x ≡ true → (W n).v.marked x ≡ false
  unmarked_is n x a q =
      let b = a.low in
      not_true ((W n).v.marked x) (sym (mark_v (M n).catalogue (W n) (held n).shows (held n).fine.good x a.high (λ z. omega arith)) ∙ q)

  -- so was whatever it crosses
  pub crossed : (n x y : ℕ) → first ≤ n → n < last → (r : Crosses workers choices w ends e n x y) → Was S r.edge x y
  crossed n x y a b r =
      let f = r.edge in
      let s = r.stands in
      let h = held n in
      let p = open_spot workers (M n) (X n) h g.most w low ends e x f r.opened (no_link (M n).catalogue f s.next s.tag s.link) in
      let i = p.listed in
      let to_y : (W n).e.target f ≡ y = (let t = h.shows.targets f i.low i.high in let q = s.leads in cc) in
      let tag : edge_tag_of ((W n).e.tag f) ≡ s.tag = same_tag (sym (h.shows.elinks f i.low i.high) ∙ s.link) in
      let now : LiveE (W n) f = record {
        low = i.low;
        high = i.high;
        plain = plain_tag ((W n).e.tag f) (λ q. s.plain (sym tag ∙ q));
        source = rw i.own (unmarked_is n x p.series s.source);
        target = rw to_y (unmarked_is n y (rw to_y at (target_series (W n) h.fine.good f i.low i.high)) s.goal);
      } in
      let not_u = ((known workers choices g w low ends e first last o n a (omega arith)).standing x f r.opened).1 in
      let not_own : f ≡ e → ⊥ = λ q. not_u (sym i.own ∙ ap (W n).e.owner q ∙ (own_ok n a (omega arith)).1.from_u) in
      let c = calm_to n a (omega arith) in
      let was = c.was_live f now in
      record {
        live = was;
        is = is_added f was not_own;
        from_x = sym (c.owner_same f was.low was.high) ∙ i.own;
        to_y = sym (c.target_same f was.low was.high) ∙ to_y;
      }
