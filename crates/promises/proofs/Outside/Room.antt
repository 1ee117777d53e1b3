-- Reply 9 is decided exactly where a node is needed and none is left, and writes nothing.
use Prim.Native.Nat.{ℕ}
use mathlib.Core.Bool.{true}
use mathlib.Core.Path.{◌≡◌, refl, ◌∙◌}
use native.Mathlib.Omega.{arith}
use Rattle.catalogue.specs.Catalogue.{Catalogue}
use Rattle.catalogue.specs.Choosing.{Moment}
use Rattle.catalogue.specs.Workers.{worker_at, busy_at}
use Rattle.catalogue.specs.Steps.Vertices.{settle_add_vertex, settle_vertex, step_vertex}
use Rattle.catalogue.specs.Steps.Edges.{settle_add_edge, settle_edge, step_edge}
use Rattle.catalogue.specs.Steps.Decide.{decide}
use Rattle.catalogue.specs.declared.steps.Decision.TheVariants.{Reply}
use Rattle.catalogue.specs.declared.workers.Ahead.{Ahead}
use Rattle.catalogue.specs.declared.workers.Place.{Place}
use Rattle.catalogue.specs.declared.workers.Place.TheVariants.{AddV, AddE}
use Rattle.catalogue.specs.declared.workers.Worker.{Worker}
use Rattle.catalogue.specs.declared.writes.Write.{Write}
use Rattle.catalogue.specs.declared.writes.Write.TheVariants.{Nothing}
use Rattle.laws.proofs.Picks.{clash}
use Rattle.promises.specs.Moments.{at, place_of}
use Rattle.promises.specs.Outside.{Replies, left, Lacks, a_vertex, an_edge}
use Rattle.promises.specs.Promises.{NoRoom}
use Rattle.promises.proofs.Showing.Shows.{Asked}
use Rattle.promises.proofs.Showing.Pools.{room_full}
use Rattle.promises.proofs.Steps.Deciding.{decides}
use Rattle.promises.proofs.Runs.Course.{held_at}
use Rattle.promises.proofs.Fates.Told.{Told, in_row, lacks, on_trial, loops}
use Rattle.promises.proofs.Fates.Any.{fate}
use Rattle.promises.proofs.Outside.Replies.{replied_by, replies, unwritten, fits_table}
use Rattle.promises.proofs.Outside.Needed.{needed}

-- what is known with 9
nine : {C : Catalogue} {a : Ahead} {pl : Place} {n : ℕ} {write : Write} → n ≡ 9 → Told C a pl n write
    → Lacks C pl × (write ≡ Nothing)
nine q (in_row a b) = clash (cc (rw q at a))
nine q (lacks e f z) = (z, f)
nine q (on_trial e f z) = absurd (omega arith)
nine q (loops e z) = absurd (omega arith)

module _ (C : Catalogue) (w : Worker) (asked : Asked w.place) where
  -- a worker that needs a node that there is not
  needs : (pl : Place) → w.place ≡ pl → Lacks C pl → (busy_at pl ≡ true) × (decide C w ≡ Reply 9 Nothing)
  unfolding step_vertex settle_vertex settle_add_vertex step_edge settle_edge settle_add_edge
  needs (AddV k p c) e (a_vertex next q full) =
      (refl, (decides C w (AddV k p c) e asked).1 ∙ rw (q, room_full 254 2 C.counts.vertices (omega arith) (omega arith)) refl)
  needs (AddE ends p c) e (an_edge at q new full) =
      (refl, (decides C w (AddE ends p c) e asked).1 ∙ rw (q, new, room_full 2047 1 C.counts.edges (omega arith) (omega arith)) refl)
  needs pl e z = elim z [ ]

-- where 9 is replied
given : (m : Moment) (w : ℕ) → Replies m w 9 → Lacks m.catalogue (place_of m w) × (left m w ≡ m.catalogue)
given m w r =
    let z = replied_by m.catalogue m.table w 9 r in
    let y = nine refl (rw z.decides at (fate m.catalogue (worker_at m.table w))) in
    (y.0, z.leaves ∙ unwritten m.catalogue z.write y.1)

pub no_room : NoRoom
no_room workers choices g w low =
    let m : Moment = at workers choices in
    let y = held_at workers choices g in
    let h = y.1 in
    let most = g.most in
    let asked = (h.shown w (omega arith)).asked in
    let fits = fits_table m.table.count workers w h.counted g.most low in (
      λ r. (given m w r).0,
      λ z. (let n = needs m.catalogue (worker_at m.table w) asked (place_of m w) refl z in replies m.catalogue m.table w fits n.0 9 Nothing n.1),
      λ r. needed workers m y.0 h most w low (given m w r).0,
      λ r. (given m w r).1,
    )
