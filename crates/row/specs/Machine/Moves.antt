-- One step of each of the six operations. Nothing is proved here.
use Rattle.std.specs.Prelude.{ℕ, Bool, true, false, cond, not, ◌&&◌, ◌||◌, List, [], ◌∷◌, ℤ, eqb, leb}
use Rattle.std.specs.Int.Signed.{lt_z}
use Rattle.row.specs.Lists.Store.{Cat}
use Rattle.catalogue.specs.Tests.{eq_z}
use Rattle.row.specs.Machine.Vertices.{Place, Idle, AddV, RemV, ConV, Out, step}
use Rattle.row.specs.Lists.Edges.{Tag, marked, transit, added, Prev, head, at, is_marked, link, tag_at, einsert, eunlink, retag}
use Rattle.row.specs.Machine.World.{World, Kind, rems, adds, cons, Opened, closed, opened, Hunt, hunt_from, stands_at, meets, took, Spot, Rest, Vert, FindU, FindV, LookE, ConE, Trial, Next, goes, says, with_e, is_added}

-- ---- vertex operations, as in Vertices

abbrev pub spot_of : Place → Spot
spot_of Idle = Rest
spot_of (AddV k p c) = Vert (AddV k p c)
spot_of (RemV k p c) = Vert (RemV k p c)
spot_of (ConV k c) = Vert (ConV k c)

abbrev pub vmove : World → Out → Next
vmove W o = record { world = record { v = o.cat; e = W.e }; spot = spot_of o.place; answer = o.answer }

-- ---- finding u and v

pub data VSeen : Type 0 where
  lower found missing : VSeen

abbrev pub vlook : Cat → ℤ → ℕ → VSeen
vlook C k c = cond (lt_z (C.key c) k) lower (cond (eq_z (C.key c) k && not (C.marked c)) found missing)

abbrev pub lost : Kind → ℕ
lost adds = 3
lost rems = 3
lost cons = 8

abbrev pub find_u : World → Kind → ℤ → ℤ → ℕ → VSeen → Next
find_u W q k l c lower = goes W (FindU q k l (W.v.next c))
find_u W q k l c found = goes W (FindV q k l c (W.v.next 0))
find_u W q k l c missing = says W (lost q)

abbrev pub look_at : World → Kind → ℤ → ℤ → ℕ → ℕ → Spot
look_at W adds k l u v = LookE true k l u v head (W.e.first u)
look_at W rems k l u v = LookE false k l u v head (W.e.first u)
look_at W cons k l u v = ConE k l u v (W.e.first u)

abbrev pub find_v : World → Kind → ℤ → ℤ → ℕ → ℕ → VSeen → Next
find_v W q k l u c lower = goes W (FindV q k l u (W.v.next c))
find_v W q k l u c found = goes W (look_at W q k l u c)
find_v W q k l u c missing = says W (lost q)

-- ---- ConE

abbrev pub con_e : World → ℤ → ℤ → ℕ → ℕ → ℕ → Next
con_e W k l u v c =
    cond (lt_z (W.e.key c) l) (goes W (ConE k l u v (W.e.next c)))
    (cond (W.v.marked u || W.v.marked v) (says W 8)
    (cond (eq_z (W.e.key c) l && (is_added (W.e.tag c) && eqb (W.e.target c) v)) (says W 1) (says W 8)))

-- ---- AddE, RemE

pub data ESeen : Type 0 where
  e_dead e_again e_passes e_marks e_onward e_settle : ESeen

abbrev pub elook : World → ℤ → ℕ → ℕ → Prev → ℕ → ESeen
elook W l u v p c =
    cond (W.v.marked u || W.v.marked v) e_dead
    (cond (eqb (link W.e u p) c && not (tag_at W.e.tag p))
    (cond (is_marked (W.e.tag c)) e_passes
    (cond (is_added (W.e.tag c) && W.v.marked (W.e.target c)) e_marks
    (cond (lt_z (W.e.key c) l) e_onward e_settle)))
    e_again)

abbrev pub settle_add : World → ℤ → ℤ → ℕ → ℕ → Prev → ℕ → Next
settle_add W k l u v p c =
    cond (eq_z (W.e.key c) l) (cond (is_added (W.e.tag c)) (says W 4) (says W 7))
    (cond (leb 2048 W.e.used) (says W 9) (goes (with_e W (einsert W.e u v l p)) (Trial k l u v W.e.used (hunt_from v))))

abbrev pub settle_rem : World → ℤ → ℕ → Next
settle_rem W l c = cond (eq_z (W.e.key c) l && is_added (W.e.tag c)) (says (with_e W (retag W.e c marked)) 1) (says W 5)

abbrev pub settles : Bool → World → ℤ → ℤ → ℕ → ℕ → Prev → ℕ → Next
settles true W k l u v p c = settle_add W k l u v p c
settles false W k l u v p c = settle_rem W l c

abbrev pub look_e : World → Bool → ℤ → ℤ → ℕ → ℕ → Prev → ℕ → ESeen → Next
look_e W b k l u v p c e_dead = says W 3
look_e W b k l u v p c e_again = goes W (LookE b k l u v head (W.e.first u))
look_e W b k l u v p c e_passes = goes (with_e W (eunlink W.e u p)) (LookE b k l u v p (W.e.next c))
look_e W b k l u v p c e_marks = goes (with_e W (retag W.e c marked)) (LookE b k l u v p c)
look_e W b k l u v p c e_onward = goes W (LookE b k l u v (at c) (W.e.next c))
look_e W b k l u v p c e_settle = settles b W k l u v p c

-- ---- the trial

-- the trial of the edge e may cross an edge c with this tag
abbrev pub may_cross : Tag → ℕ → ℕ → Bool
may_cross marked c e = false
may_cross transit c e = true
may_cross added c e = true

-- it crosses c: to a target that is unmarked and unmet
abbrev pub crosses : World → ℕ → Hunt → ℕ → Bool
crosses W e h c = may_cross (W.e.tag c) c e && (not (W.v.marked (W.e.target c)) && not (h.met (W.e.target c)))

abbrev pub hunt_open : World → ℤ → ℤ → ℕ → ℕ → ℕ → Hunt → ℕ → ℕ → Next
hunt_open W k l u v e h x c =
    cond (W.v.marked x || eqb c 0) (goes W (Trial k l u v e (stands_at h closed)))
    (cond (crosses W e h c)
    (goes W (Trial k l u v e (meets h (W.e.target c) (opened x (W.e.next c)))))
    (goes W (Trial k l u v e (stands_at h (opened x (W.e.next c))))))

abbrev pub hunt_take : World → ℤ → ℤ → ℕ → ℕ → ℕ → Hunt → List ℕ → Next
hunt_take W k l u v e h [] = says (with_e W (retag W.e e added)) 1
hunt_take W k l u v e h (x ∷ xs) =
    cond (eqb x u) (says (with_e W (retag W.e e marked)) 6)
    (cond (W.v.marked x) (goes W (Trial k l u v e (took h x xs closed))) (goes W (Trial k l u v e (took h x xs (opened x (W.e.first x))))))

abbrev pub hunts : World → ℤ → ℤ → ℕ → ℕ → ℕ → Hunt → Opened → Next
hunts W k l u v e h closed = hunt_take W k l u v e h h.todo
hunts W k l u v e h (opened x c) = hunt_open W k l u v e h x c

abbrev pub trial : World → ℤ → ℤ → ℕ → ℕ → ℕ → Hunt → Next
trial W k l u v e h = cond (W.v.marked u || W.v.marked v) (says (with_e W (retag W.e e marked)) 3) (hunts W k l u v e h h.stand)

abbrev pub move : World → Spot → Next
move W Rest = goes W Rest
move W (Vert pl) = vmove W (step W.v pl)
move W (FindU q k l c) = find_u W q k l c (vlook W.v k c)
move W (FindV q k l u c) = find_v W q k l u c (vlook W.v l c)
move W (LookE b k l u v p c) = look_e W b k l u v p c (elook W l u v p c)
move W (ConE k l u v c) = con_e W k l u v c
move W (Trial k l u v e h) = trial W k l u v e h
