-- What a trial crosses stands: the current edge of the open vertex is in its list.
use Prim.Native.Nat.{ℕ, ◌≤◌, ◌<◌}
use mathlib.Core.Bool.{true, false}
use mathlib.Core.Path.{◌≡◌, refl, sym, ◌∙◌}
use Rattle.catalogue.specs.Numbers.{some_link}
use Rattle.catalogue.specs.Tests.{member}
use Rattle.catalogue.specs.Catalogue.{edge_link}
use Rattle.catalogue.specs.Live.{edges_of}
use Rattle.catalogue.specs.Choosing.{Moment}
use Rattle.catalogue.specs.declared.workers.Place.TheVariants.{TrialOpen}
use Rattle.laws.proofs.Picks.{clash, same_tag}
use Rattle.row.specs.Lists.Edges.{Tag, marked, transit, added, is_marked, InList}
use Rattle.row.specs.Machine.World.{World, Opened, closed, opened}
use Rattle.row.specs.Machine.Choices.{Conf}
use Rattle.row.proofs.Steps.Spots.{Ok}
use Rattle.promises.specs.Moments.{place_of}
use Rattle.promises.specs.Outside.{open_at}
use Rattle.promises.proofs.Showing.Shows.{Series, edge_tag_of, trial_place, at_trial}
use Rattle.promises.proofs.Lists.Meets.{meets_e}
use Rattle.promises.proofs.Runs.Held.{Held}
use Rattle.promises.proofs.Outside.Spots.{trying_spot}
use Rattle.catalogue.specs.declared.workers.Ends.{Ends}
use Rattle.row.proofs.Lists.LinkLaws.{no_tail}

-- a tag that is not MARKED
pub plain_tag : (t : Tag) → (edge_tag_of t ≡ 1 → ⊥) → is_marked t ≡ false
plain_tag marked n = absurd (n refl)
plain_tag transit n = refl
plain_tag added n = refl

stand_is : (ends : Ends) (e x c : ℕ) (o : Opened) → TrialOpen ends e x c ≡ trial_place ends e o → o ≡ opened x c
stand_is ends e x c closed q = clash (cc)
stand_is ends e x c (opened y d) q = cc

-- the open vertex and its current edge
pub record Open (W : World) (x c : ℕ) : Type 0 where
  pub series : Series W.v.used x
  pub listed : InList W.e x c

module _ (workers : ℕ) (m : Moment) (X : Conf) (h : Held workers m X) where
  abbrev W : World
  W = X.world

  pub open_spot : workers ≤ 8 → (w : ℕ) → w < workers → (ends : Ends) (e x c : ℕ) → place_of m w ≡ TrialOpen ends e x c → (c ≡ 0 → ⊥) → Open W x c
  open_spot most w low ends e x c q n =
      let z = trying_spot workers m X h most w low ends e (open_at x c q) in
      let o = stand_is ends e x c z.hunt.stand (sym q ∙ z.stands) in
      let ok : Ok W (at_trial ends e z.hunt) = rw z.is at (h.fine.ok w) in
      record { series = rw o at z.keeps.open_series; listed = no_tail W.e x c (rw o at ok.2.place) n }

  pub in_list : (x c : ℕ) → Open W x c → (next tag : ℕ) → edge_link m.catalogue c ≡ some_link next tag → (tag ≡ 1 → ⊥)
      → member c (edges_of m.catalogue x) ≡ true
  in_list x c o next tag q n =
      let s = o.series in
      let i = o.listed in
      let t : edge_tag_of (W.e.tag c) ≡ tag = same_tag (sym (h.shows.elinks c i.low i.high) ∙ q) in
      meets_e m.catalogue W h.shows h.fine.good x s.low s.high c i (plain_tag (W.e.tag c) (λ z. n (sym t ∙ z)))
