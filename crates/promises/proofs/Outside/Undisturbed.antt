-- The edges that a trial crosses while nothing disturbs it were live when it began. So its chain back to the source
-- is a walk of the live graph of that moment.
use Prim.Native.Nat.{ℕ, ◌≤◌, ◌<◌}
use mathlib.Core.Bool.{true}
use mathlib.Core.List.{List}
use mathlib.Core.Path.{◌≡◌, ap, sym, ◌∙◌}
use native.Mathlib.Omega.{arith}
use lib.IntN.{ℤ}
use Rattle.catalogue.specs.Catalogue.{Catalogue}
use Rattle.catalogue.specs.Choosing.{Choice}
use Rattle.std.proofs.Common.{Some}
use Rattle.row.specs.Lists.Store
use Rattle.row.specs.Machine.World.{World}
use Rattle.row.proofs.Graphs.Good.{WGood}
use Rattle.row.proofs.Graphs.Graph.{edge_yes}
use Rattle.promises.specs.Moments.{moment}
use Rattle.promises.specs.Graphs
use Rattle.promises.specs.Graphs.{Walk, here, over}
use Rattle.promises.specs.Outside
use Rattle.promises.specs.Outside.{Lives, Crosses, Crossed, cross}
use Rattle.promises.specs.Promises.{CycleAlone}
use Rattle.promises.proofs.Showing.Shows.{Shows}
use Rattle.promises.proofs.Lists.Meets.{v_live, e_live}
use Rattle.promises.proofs.Lists.Live.{derived_is}
use Rattle.promises.proofs.Rows.Walks.{walk_on}
use Rattle.promises.proofs.Outside.Run.{run}
use Rattle.promises.proofs.Outside.Quiet.{Was, own_ok, crossed}
use Rattle.catalogue.specs.declared.workers.Ends.{Ends}

module _ (C : Catalogue) (S : World) (shows : Shows C S) (good : WGood S) where
  lives : (f x y : ℕ) → Was S f x y → Lives C x f y
  lives f x y z =
      let i = z.live in
      let d = good.ends f i.low i.high in
      let at_x : Store.Stands S.v x = rw (← z.from_x) (record { low = d.source_low; high = d.source_high; plain = i.source }) in
      record {
        source = v_live C S shows good x at_x;
        listed = e_live C S shows good x f at_x (record { listed = record { low = i.low; high = i.high; own = z.from_x }; is = z.is; goal = i.target });
        leads = shows.targets f i.low i.high ∙ ap Some z.to_y;
      }

  -- ---- the walk

  abbrev key : ℕ → ℤ
  key x = S.v.key x

  derived : (f x y : ℕ) → Was S f x y → (Graphs.live C).derived (key x) (key y) ≡ true
  derived f x y z =
      let i = z.live in
      derived_is C S shows good (key x) (key y)
      ∙ edge_yes S (key x) (key y) (record {
        node = f;
        low = i.low;
        high = i.high;
        is = z.is;
        source = i.source;
        goal = i.target;
        leaves = ap key z.from_x;
        comes = sym (good.ends f i.low i.high).same_key ∙ ap key z.to_y;
      })

  -- from l, the key of v, to the key of whatever the chain has come to
  walk : {workers : ℕ} {choices : List Choice} {w : ℕ} {ends : Ends} {e first last : ℕ}
      → ((n x y : ℕ) → first ≤ n → n < last → (r : Crosses workers choices w ends e n x y) → Was S r.edge x y) → key ends.v ≡ ends.pair.l
      → {y : ℕ} → Crossed workers choices w ends e first last y → Walk (Graphs.live C) (key y) ends.pair.l
  walk was q Outside.here = rw q here
  walk was q (cross {x} {y} n a b r c) = walk_on (walk was q c) (over (key y) (derived r.edge x y (was n x y a b r)) here)

pub cycle_alone : CycleAlone
cycle_alone workers choices g w low z quiet =
    let C : Catalogue = (moment workers choices z.first).catalogue in
    let X = run workers choices g z.first in
    let S : World = X.0.world in
    let shows : Shows C S = X.1.shows in
    let good : WGood S = X.1.fine.good in
    let was = crossed workers choices g w low z.ends z.e z.first z.lasts quiet in
    let pair = (own_ok workers choices g w low z.ends z.e z.first z.lasts quiet z.first (omega arith) z.lasts.started).0 in (
      λ n x y a b r. lives C S shows good r.edge x y (was n x y a b r),
      rw pair.source.holds at (walk C S shows good was pair.goal.holds z.chain),
    )
