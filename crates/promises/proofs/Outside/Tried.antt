-- The edges on trial are the own edges of the workers that try: the machine's invariant says so of its tags,
-- and a list of the catalogue holds whatever is not marked of its vertex's edges.
use Prim.Native.Nat.{ℕ, ◌≤◌, ◌<◌}
use mathlib.Core.Logic.{inl, inr}
use mathlib.Core.Path.{◌≡◌, refl, ap, sym, ◌∙◌, subst}
use native.Mathlib.Omega.{arith}
use Rattle.catalogue.specs.Numbers.{some_link}
use Rattle.catalogue.specs.Catalogue.{Catalogue}
use Rattle.catalogue.specs.Live.{edges_of}
use Rattle.catalogue.specs.Choosing.{Moment}
use Rattle.laws.proofs.Members.{all_of}
use Rattle.laws.proofs.Picks.{same_tag}
use Rattle.row.proofs.Base.{same?}
use Rattle.row.specs.Lists.Edges.{InList}
use Rattle.row.specs.Machine.World.{World, OnTrial}
use Rattle.row.specs.Machine.Choices.{Conf}
use Rattle.row.proofs.Steps.Spots.{Own, Ok, own}
use Rattle.promises.specs.Moments.{at, place_of}
use Rattle.promises.specs.Outside.{Tries, TrialEdge, Tried}
use Rattle.promises.specs.Promises.{EdgesTried}
use Rattle.promises.proofs.Showing.Shows.{edge_tag_of, at_trial}
use Rattle.promises.proofs.Lists.Meets.{listed_in, meets_e}
use Rattle.promises.proofs.Runs.Held.{Held}
use Rattle.promises.proofs.Runs.Course.{held_at}
use Rattle.promises.proofs.Outside.Spots.{own_trial, trier, trying_spot}
use Rattle.promises.proofs.Outside.Rivals.{tag_is}
use Rattle.catalogue.specs.Steps.Finding.{ends_of}
use Rattle.catalogue.specs.declared.workers.Ends.{Ends}

module _ (workers : ℕ) (m : Moment) (X : Conf) (h : Held workers m X) where
  abbrev C : Catalogue
  C = m.catalogue

  abbrev W : World
  W = X.world

  -- ---- the tag

  pub trial_edge : (e : ℕ) → OnTrial W e → TrialEdge C (W.e.owner e) e
  trial_edge e i =
      let d = h.fine.good.ends e i.low i.high in
      record {
        low = d.source_low;
        high = omega (arith, d.source_high, h.shows.vertices);
        listed =
            meets_e C W h.shows h.fine.good (W.e.owner e) d.source_low d.source_high e
            (record { low = i.low; high = i.high; own = refl }) (rw i.tried refl);
        next = W.e.next e;
        link = h.shows.elinks e i.low i.high ∙ ap (λ t. some_link (W.e.next e) (edge_tag_of t)) i.tried;
      }

  has_tag : (x e : ℕ) → TrialEdge C x e → OnTrial W e × (W.e.owner e ≡ x)
  has_tag x e t =
      let b = h.shows.vertices in
      let c = t.high in
      let i = all_of (InList W.e x) (edges_of C x) (listed_in C W h.shows h.fine.good x t.low (omega arith)) e t.listed in
      let q : edge_tag_of (W.e.tag e) ≡ 2 = same_tag (sym (h.shows.elinks e i.low i.high) ∙ t.link) in
      (record { low = i.low; high = i.high; tried = tag_is (W.e.tag e) q }, i.own)

  -- ---- which worker tries

  pub own_tried : (w : ℕ) → 1 ≤ own (X.at w) → OnTrial W (own (X.at w))
  own_tried w low =
      let i = own_trial (X.at w) (own (X.at w)) low refl in
      let ok : Ok W (at_trial i.ends (own (X.at w)) i.hunt) = rw i.is at (h.fine.ok w) in
      record { low = ok.1.low; high = ok.1.high; tried = ok.1.tried }

  module _ (most : workers ≤ 8) where
    module _ (w : ℕ) (low : w < workers) (ends : Ends) (e : ℕ) (t : Tries ends e (place_of m w)) where
      own_edge : Own W.e ends.pair.l ends.u ends.v e × (own (X.at w) ≡ e)
      own_edge =
          let z = trying_spot workers m X h most w low ends e t in
          let ok : Ok W (at_trial ends e z.hunt) = rw z.is at (h.fine.ok w) in
          (ok.1, ap own z.is)

      tries_edge : TrialEdge C ends.u e
      tries_edge =
          let o = own_edge.0 in
          rw o.from_u at (trial_edge e (record { low = o.low; high = o.high; tried = o.tried }))

    edge_tried : (x e : ℕ) → TrialEdge C x e → Tried workers m x e
    edge_tried x e t =
        let i = has_tag x e t in
        let y = h.fine.tried e i.0 in
        let z = trier workers m X h most y.0 e i.0.low y.1 in
        let s = z.trial in
        let ok : Ok W (at_trial s.ends e s.hunt) = rw s.is at (h.fine.ok y.0) in
        let same : s.ends.u ≡ x = sym ok.1.from_u ∙ i.1 in
        record {
          worker = y.0;
          inside = z.inside;
          pair = s.ends.pair;
          v = s.ends.v;
          tries = subst (λ u. Tries (ends_of s.ends.pair u s.ends.v) e (place_of m y.0)) same z.tries;
          only = λ w low ends r.
              let o = own_edge w low ends e r in
              elim (same? w y.0) [
                | inl q ↦ q
                | inr d ↦ absurd (h.fine.apart w y.0 d (rw o.1 o.0.low) (o.1 ∙ sym y.1))
              ];
        }

pub edges_tried : EdgesTried
edges_tried workers choices g =
    let a = held_at workers choices g in
    (edge_tried workers (at workers choices) a.0 a.1 g.most, tries_edge workers (at workers choices) a.0 a.1 g.most)
