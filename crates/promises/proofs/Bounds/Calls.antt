-- ConV and ConE: taken up, they have passed the head alone; so they step no oftener than their limits say.
use Prim.Native.Nat.{ℕ, suc, ◌≤◌}
use mathlib.Core.Bool.{true}
use mathlib.Core.Path.{◌≡◌, refl}
use native.Mathlib.Omega.{arith}
use Rattle.catalogue.specs.Calls.{After}
use Rattle.catalogue.specs.Choosing.{Moment}
use Rattle.catalogue.specs.Workers.{bare, asks_pair}
use Rattle.catalogue.specs.Steps.Places.{first_place}
use Rattle.catalogue.specs.declared.workers.Pair.{Pair}
use Rattle.laws.proofs.Picks.{clash}
use Rattle.row.proofs.Base.{upd_at}
use Rattle.row.specs.Machine.Vertices.{addV, remV, conV}
use Rattle.row.specs.Machine.World.{World, Ask, vert, addE, remE, conE, Spot}
use Rattle.row.specs.Machine.Choices.{Conf, starts}
use Rattle.row.proofs.Graphs.Good.{WGood}
use Rattle.promises.specs.Moments.{at}
use Rattle.promises.specs.Histories.{accepted}
use Rattle.promises.specs.Bounds.{QuietMost, CallMost, ConVBound, ConEBound}
use Rattle.promises.proofs.Showing.Shows.{Stands}
use Rattle.promises.proofs.Runs.Held.{Held}
use Rattle.promises.proofs.Runs.Course.{held_at}
use Rattle.promises.proofs.Bounds.Far.{far, limit, EnteredSpot}
use Rattle.promises.proofs.Bounds.Looking.{head_passed}
use Rattle.promises.proofs.Runs.Taking.{taking_both, begins}
use Rattle.promises.proofs.Bounds.Rising.{bounded}

-- where a call with a bound begins
pub record First (W : World) (s : Spot) (most : ℕ) : Type 0 where
  pub limited : limit s ≡ suc most
  pub enters : EnteredSpot s
  pub begun : 1 ≤ far W s

-- a request whose first place has a limit
abbrev Begins : ℕ → ℕ → Type 0
Begins code most = (W : World) → WGood W → (used : ℕ) (pair : Pair) (c : ℕ) (q : Ask)
    → Stands used (bare (first_place (asks_pair code pair) c)) (starts W q) → First W (starts W q) most

con_v_begins : Begins 3 254
unfolding first_place
con_v_begins W g used pair c (vert (addV j)) p = clash (cc)
con_v_begins W g used pair c (vert (remV j)) p = clash (cc)
con_v_begins W g used pair c (vert (conV j)) p = record { limited = refl; enters = tt; begun = head_passed W g }
con_v_begins W g used pair c (addE i j) p = clash (cc)
con_v_begins W g used pair c (remE i j) p = clash (cc)
con_v_begins W g used pair c (conE i j) p = clash (cc)

con_e_begins : Begins 6 2557
unfolding first_place
con_e_begins W g used pair c (vert (addV j)) p = clash (cc)
con_e_begins W g used pair c (vert (remV j)) p = clash (cc)
con_e_begins W g used pair c (vert (conV j)) p = clash (cc)
con_e_begins W g used pair c (addE i j) p = clash (cc)
con_e_begins W g used pair c (remE i j) p = clash (cc)
con_e_begins W g used pair c (conE i j) p = record { limited = refl; enters = tt; begun = head_passed W g }

-- as many steps as its limit allows, from where it begins
pub from_first : (workers w most : ℕ) → workers ≤ 8 → (m : Moment) (X : Conf) → Held workers m X → First X.world (X.at w) most → QuietMost w most m
from_first workers w most eight m X h f cs ks u =
    omega (arith, f.limited, f.begun, bounded workers eight w m X (record { held = h; enters = f.enters; some = omega (arith, f.limited) }) cs ks u)

call_most : (code most : ℕ) → Begins code most → CallMost code most
call_most code most first workers choices g w pair keys =
    let m : Moment = at workers choices in
    let z = held_at workers choices g in
    let X : Conf = z.0 in
    let h : Held workers m X = z.1 in
    taking_both workers m X h g.most w (asks_pair code pair)
    (λ (a : After). accepted a.answer ≡ true → QuietMost w most (record { catalogue = a.catalogue; table = a.table }))
    (λ r t e. clash (cc))
    (λ z e.
    let y = begins workers m X h g.most w (asks_pair code pair) keys z in
    let f = first X.world h.fine.good X.world.v.used pair (X.world.v.next 0) y.ask y.shown.stands in
    from_first workers w most g.most _ _ y.held (rw (upd_at X.at w (starts X.world y.ask) w refl) f))

pub con_v_bound : ConVBound
con_v_bound = call_most 3 254 con_v_begins

pub con_e_bound : ConEBound
con_e_bound = call_most 6 2557 con_e_begins
