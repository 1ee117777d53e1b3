-- One step of AddV, RemV or ConV is one move of the machine of `row`.
use Prim.Native.Nat.{ℕ, ◌+◌, ◌<◌}
use mathlib.Core.Bool.{Bool, true, false, cond, not, ◌&&◌}
use mathlib.Core.Path.{◌≡◌, refl, ◌∙◌}
use mathlib.Core.Logic.{inl, inr}
use native.Mathlib.Omega.{arith}
use borrow.Author.Tests.{le-leb, lt-leb}
use lib.IntN.{ℤ, pos}
use lib.Dec.{leb}
use lib.Signed.{lt_z}
use Rattle.catalogue.specs.Tests.{eq_z}
use Rattle.catalogue.specs.Numbers.{plain, marked, room}
use Rattle.catalogue.specs.Catalogue.{Catalogue}
use Rattle.catalogue.specs.Workers.{asks}
use Rattle.catalogue.specs.Writes.{commit}
use Rattle.catalogue.specs.Steps.Places.{key_refused, vertex_place}
use Rattle.catalogue.specs.Steps.Vertices.{step_vertex, decide_vertex, start_again, look_at_vertex, settle_vertex, settle_add_vertex, settle_remove_vertex, new_vertex}
use Rattle.catalogue.specs.Steps.Finding.{step_contains, decide_contains, look_for}
use Rattle.catalogue.specs.Steps.Decide.{decide}
use Rattle.catalogue.specs.declared.steps.Decision.{Decision}
use Rattle.catalogue.specs.declared.steps.Decision.TheVariants as decision
use Rattle.catalogue.specs.declared.steps.VertexSeen.{VertexSeen}
use Rattle.catalogue.specs.declared.steps.VertexSeen.TheVariants as seen
use Rattle.catalogue.specs.declared.steps.VertexFound.{VertexFound}
use Rattle.catalogue.specs.declared.steps.VertexFound.TheVariants as finds
use Rattle.catalogue.specs.declared.workers.Place.TheVariants as place
use Rattle.catalogue.specs.declared.workers.Worker.{Worker}
use Rattle.catalogue.specs.declared.writes.Write.{Write}
use Rattle.catalogue.specs.declared.writes.Write.TheVariants.{Nothing, VertexLink, NewVertex}
use Rattle.row.proofs.Base.{lt_or}
use Rattle.row.proofs.Graphs.Good.{WGood}
use Rattle.row.specs.Machine.Vertices.{Place, Idle, AddV, RemV, ConV, Out, going, replies, Seen, again, passes, onward, settle, look, add, rem, step}
use Rattle.row.specs.Lists.Store.{Cat, insert, unlink, mark, Inner}
use Rattle.row.specs.Machine.World.{World, Vert, goes}
use Rattle.row.specs.Machine.Moves.{vmove, VSeen, lower, found, missing, vlook}
use Rattle.promises.proofs.Showing.Shows.{Shows, Follows}
use Rattle.promises.proofs.Steps.Deciding.{FollowsAt, decides, goes_on, says_with, unwritten, walks_on, says_so}
use Rattle.promises.proofs.Steps.VertexLooks.{Looked, sees_again, sees_gone, sees_lower, sees_equal, sees_above, looked}
use Rattle.promises.proofs.Steps.VertexLooks.{head_reads, Sought, seeks_on, seeks_found, seeks_missing, sought}
use Rattle.promises.proofs.Showing.Pools.{room_left, room_full}
use Rattle.promises.proofs.Showing.VertexWrites.{with_v, shows_mark, shows_unlink, shows_insert}

-- AddV's number and place, or RemV's
abbrev vertex_code : Bool → ℕ
vertex_code true = 1
vertex_code false = 2

abbrev place_of : Bool → ℤ → ℕ → ℕ → Place
place_of true = AddV
place_of false = RemV

module _ (C : Catalogue) (W : World) (s : Shows C W) (g : WGood W) (w : Worker) (k : ℤ) where
  abbrev D : Cat
  D = W.v

  abbrev Decides : Decision → Type 0
  Decides d = decide C w ≡ d

  -- the request's key is allowed
  abbrev Allowed : ℕ → Type 0
  Allowed code = key_refused (asks code k (pos 0)) ≡ false

  -- to another look
  looks_on : (b : Bool) → Allowed (vertex_code b) → (X : World) (write : Write) → Shows (commit C write) X → (p c : ℕ)
      → Decides (decision.Going (vertex_place (vertex_code b) k p c) write) → Follows C w (goes X (Vert (place_of b k p c)))
  unfolding vertex_place
  looks_on true a X write t p c d = goes_on C w X write t (place.AddV k p c) (Vert (AddV k p c)) d a refl
  looks_on false a X write t p c d = goes_on C w X write t (place.RemV k p c) (Vert (RemV k p c)) d a refl

  starts_again : (b : Bool) → Allowed (vertex_code b) → Decides (start_again C (vertex_code b) k) → Follows C w (goes W (Vert (place_of b k 0 (D.next 0))))
  unfolding start_again
  starts_again b a d = looks_on b a W Nothing (unwritten C W s) 0 (D.next 0) (d ∙ rw (head_reads C W s g.good))

  module _ (p c : ℕ) where
    passes_over : (b : Bool) → Allowed (vertex_code b) → Inner D p → D.next p ≡ c → c < D.used → (c ≡ 1 → ⊥)
        → Decides (decision.Going (vertex_place (vertex_code b) k p (D.next c)) (VertexLink p (D.next c) plain))
        → Follows C w (goes (with_v W (unlink D p)) (Vert (place_of b k p (D.next c))))
    passes_over b a i e h x d = looks_on b a (with_v W (unlink D p)) (VertexLink p (D.next c) plain) (shows_unlink C W s p c i e h x) p (D.next c) d

    -- The key is not there: the next vertex of the pool, or no room.
    settles_new : Inner D p → D.next p ≡ c → Decides (new_vertex (room 254 2 C.counts.vertices) k p c)
        → Follows C w (vmove W (cond (leb 256 D.used) (replies D 9) (replies (insert D p k) 1)))
    settles_new i e d =
        elim (lt_or C.counts.vertices 254) [
          | inl h ↦
              let free : D.used < 256 = omega (arith, s.vertices) in
              rw (lt-leb 256 D.used free)
              (says_with C w (with_v W (insert D p k)) (NewVertex (2 + C.counts.vertices) k c p) (shows_insert C W s g free p i k c e) 1
              (d ∙ rw (room_left 254 2 C.counts.vertices h)))
          | inr h ↦
              rw (le-leb 256 D.used (omega (arith, s.vertices))) (says_so C W s w 9 (d ∙ rw (room_full 254 2 C.counts.vertices s.vertices_fit h)))
        ]

    add_follows : (z : VertexSeen) (t : Seen) → Looked D k p c z t → Allowed 1 → Decides (decide_vertex C 1 k p c z)
        → Follows C w (vmove W (add D k p c t))
    unfolding settle_vertex settle_add_vertex
    add_follows seen.Again again sees_again a d = starts_again true a d
    add_follows (seen.Unlinks n) passes (sees_gone i e h x) a d = passes_over true a i e h x d
    add_follows (seen.Onward n) onward sees_lower a d = looks_on true a W Nothing (unwritten C W s) c (D.next c) d
    add_follows (seen.Settles n true) settle (sees_equal h x q) a d = rw q (says_so C W s w 2 d)
    add_follows (seen.Settles n false) settle (sees_above m i e q) a d = rw q (settles_new i e d)
    add_follows z t n a d = elim n [ ]

    rem_follows : (z : VertexSeen) (t : Seen) → Looked D k p c z t → Allowed 2 → Decides (decide_vertex C 2 k p c z)
        → Follows C w (vmove W (rem D k p c t))
    unfolding settle_vertex settle_remove_vertex
    rem_follows seen.Again again sees_again a d = starts_again false a d
    rem_follows (seen.Unlinks n) passes (sees_gone i e h x) a d = passes_over false a i e h x d
    rem_follows (seen.Onward n) onward sees_lower a d = looks_on false a W Nothing (unwritten C W s) c (D.next c) d
    rem_follows (seen.Settles n true) settle (sees_equal h x q) a d =
        rw q (says_with C w (with_v W (mark D c)) (VertexLink c (D.next c) marked) (shows_mark C W s c h x) 1 d)
    rem_follows (seen.Settles n false) settle (sees_above m i e q) a d = rw q (says_so C W s w 2 d)
    rem_follows z t n a d = elim n [ ]

  -- ConV sees as a look for u does, and replies at once.
  abbrev contains : ℕ → VSeen → Out
  contains c lower = going D (ConV k (D.next c))
  contains c found = replies D 1
  contains c missing = replies D 2

  contains_is : (c : ℕ) → step D (ConV k c) ≡ contains c (vlook D k c)
  contains_is c = by (lt_z (D.key c) k) (eq_z (D.key c) k && not (D.marked c))
    where
      by : (a b : Bool) → cond a (going D (ConV k (D.next c))) (cond b (replies D 1) (replies D 2)) ≡ contains c (cond a lower (cond b found missing))
      by true b = refl
      by false true = refl
      by false false = refl

  con_follows : (c : ℕ) (z : VertexFound) (t : VSeen) → Sought D k c z t → Allowed 3 → Decides (decide_contains k z)
      → Follows C w (vmove W (contains c t))
  con_follows c (finds.Onward n) lower seeks_on a d = walks_on C W s w (place.ConV k (D.next c)) (Vert (ConV k (D.next c))) d a refl
  con_follows c finds.Found found seeks_found a d = says_so C W s w 1 d
  con_follows c finds.Missing missing seeks_missing a d = says_so C W s w 2 d
  con_follows c z t n a d = elim n [ ]

pub vertex_follows : (pl : Place) → FollowsAt (Vert pl)
unfolding step_vertex step_contains
vertex_follows Idle C W s g w o n = absurd n.stands
vertex_follows (AddV k p c) C W s g w o n =
    let d = decides C w (place.AddV k p c) n.stands n.asked in
    add_follows C W s g w k p c (look_at_vertex C k p c) (look W.v k p c) (looked C W s g.good k o.0 p c o.1) d.0 d.1
vertex_follows (RemV k p c) C W s g w o n =
    let d = decides C w (place.RemV k p c) n.stands n.asked in
    rem_follows C W s g w k p c (look_at_vertex C k p c) (look W.v k p c) (looked C W s g.good k o.0 p c o.1) d.0 d.1
vertex_follows (ConV k c) C W s g w o n =
    let d = decides C w (place.ConV k c) n.stands n.asked in
    rw (contains_is C W s g w k c)
    (con_follows C W s g w k c (look_for C k c) (vlook W.v k c) (sought C W s g.good k o.0 c o.1) d.0 d.1)
