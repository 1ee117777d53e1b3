-- After a sweep the catalogue again shows a good world, without an edge on trial, and the graph is that of before.
use mathlib.Core.Bool.{true}
use mathlib.Core.Path.{◌≡◌, refl, sym, ap, ap₂, ◌∙◌, fun_ext}
use native.Mathlib.Omega.{arith}
use lib.Signed.{≤ℤ_refl}
use Rattle.catalogue.specs.Catalogue.{Catalogue}
use Rattle.catalogue.specs.Numbers.{least}
use Rattle.catalogue.specs.Soundness.{sweep, sound}
use Rattle.catalogue.specs.Sweep.{swept}
use Rattle.catalogue.specs.Tests.{eq_z}
use Rattle.catalogue.specs.Live.{live_keys, live_pairs}
use Rattle.resting.proofs.Keeping.{kept}
use Rattle.row.specs.Machine.Vertices.{live}
use Rattle.row.specs.Machine.World.{World, Untried, graph, edges}
use Rattle.row.proofs.Graphs.Good.{WGood}
use Rattle.promises.proofs.Showing.Shows.{Shows}
use Rattle.promises.proofs.Lists.AtRest.{rest_sound}
use Rattle.promises.proofs.Lists.Live.{series_is, derived_is, no_loop_here}
use Rattle.promises.proofs.Sweeps.World.{swept_world, swept_shows, swept_untried}
use Rattle.promises.proofs.Sweeps.Vertices.{swept_good}
use Rattle.promises.proofs.Sweeps.Lists.{swept_esound, edge_tail_key, edge_ends}
use Rattle.promises.proofs.Sweeps.Safe.{swept_safe}
use Rattle.promises.specs.Graphs.{among, same_pair}

pub record Swept (C : Catalogue) : Type 0 where
  pub world : World
  pub shows : Shows (swept C) world
  pub good : WGood world
  pub untried : Untried world

-- a catalogue with the live graph of another shows the same one
module _ (C D : Catalogue) (W X : World) (s : Shows C W) (g : WGood W) (t : Shows D X) (h : WGood X) where
  same_live : live_keys D ≡ live_keys C → live X.v ≡ live W.v
  same_live e = fun_ext (λ k. sym (series_is D X t h k) ∙ ap (among eq_z k) e ∙ series_is C W s g k)

  same_edge : live_pairs D ≡ live_pairs C → edges X ≡ edges W
  same_edge e = fun_ext (λ k. fun_ext (λ l. sym (derived_is D X t h k l) ∙ ap (among same_pair (k, l)) e ∙ derived_is C W s g k l))

module _ (C : Catalogue) (W : World) (s : Shows C W) (g : WGood W) (u : Untried W) where
  whole : sound sweep C ≡ true
  whole = rest_sound C W s g sweep (λ q. u)

  again : sound sweep (swept C) ≡ true
  again = (kept sweep C whole).swept_sound (rw (s.vkeys 0 (omega (arith, g.good.sound.some)), g.good.key_head) (≤ℤ_refl least)) sweep

  pub sweeps_well : Swept C
  sweeps_well =
      record {
        world = swept_world C;
        shows = swept_shows sweep C whole;
        good = record {
          good = swept_good sweep C whole again;
          esound = swept_esound sweep C whole again;
          tail_key = edge_tail_key C;
          tail_tag = refl;
          ends = edge_ends sweep C whole again;
          safe = swept_safe sweep C whole again (no_loop_here C W s g);
        };
        untried = swept_untried C;
      }

  pub sweeps_same : graph sweeps_well.world ≡ graph W
  sweeps_same =
      let n = sweeps_well in
      ap₂ (λ v e. record { v = v; e = e })
      (same_live C (swept C) W n.world s g n.shows n.good (kept sweep C whole).same_keys)
      (same_edge C (swept C) W n.world s g n.shows n.good (kept sweep C whole).same_pairs)
