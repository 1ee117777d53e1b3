-- What a decision implies of the place at which it was made.
use Prim.Native.Nat.{ℕ, ◌<◌, ◌≤◌}
use mathlib.Core.Bool.{Bool, true, false}
use mathlib.Core.Path.{◌≡◌, refl}
use native.Mathlib.Omega.{arith}
use lib.Dec.{T, eqb, leb, leb→le}
use Rattle.catalogue.specs.Tests.{pick}
use Rattle.catalogue.specs.Numbers.{edge_tail, marked, transit, some_link}
use Rattle.catalogue.specs.Catalogue.{Catalogue, edge_link, edge_target}
use Rattle.catalogue.specs.Live.{unmarked}
use Rattle.catalogue.specs.Steps.Edges.{look_at_edge}
use Rattle.std.proofs.Common.{Some}
use Rattle.catalogue.specs.declared.steps.Decision.{Decision}
use Rattle.catalogue.specs.declared.steps.Decision.TheVariants.{Torn, Code, Going, Begins, Keeps, Meets, Takes, Reply}
use Rattle.catalogue.specs.declared.steps.EdgeSeen.TheVariants as edge_seen
use Rattle.catalogue.specs.declared.steps.Landed.{Landed}
use Rattle.catalogue.specs.declared.workers.Ahead.{Ahead}
use Rattle.catalogue.specs.declared.workers.Ends.{Ends}
use Rattle.catalogue.specs.declared.workers.Place.{Place}
use Rattle.catalogue.specs.declared.workers.Place.TheVariants.{Idle, AddV, RemV, ConV, AddEFindU, RemEFindU, ConEFindU, AddEFindV, RemEFindV, ConEFindV, AddE, RemE, ConE, Trial, TrialOpen}
use Rattle.catalogue.specs.declared.workers.Prev.{Prev}
use Rattle.catalogue.specs.declared.writes.Write.{Write}
use Rattle.catalogue.specs.declared.writes.Write.TheVariants.{Nothing, EdgeLink}
use Rattle.promises.specs.Outside.{Lacks, Tries, shut, open_at}

-- ---- places of a trial

abbrev pub trying : Place → Bool
trying Idle = false
trying (AddV k p c) = false
trying (RemV k p c) = false
trying (ConV k c) = false
trying (AddEFindU pair c) = false
trying (RemEFindU pair c) = false
trying (ConEFindU pair c) = false
trying (AddEFindV pair u c) = false
trying (RemEFindV pair u c) = false
trying (ConEFindV pair u c) = false
trying (AddE ends p c) = false
trying (RemE ends p c) = false
trying (ConE ends c) = false
trying (Trial ends e) = true
trying (TrialOpen ends e x c) = true

pub tries_trying : {ends : Ends} {e : ℕ} {pl : Place} → Tries ends e pl → trying pl ≡ true
tries_trying (shut e) = rw e refl
tries_trying (open_at x c e) = rw e refl

-- ---- what is implied

-- a trial begins where an edge was looked for, with its target met
pub record Begun (pl next : Place) (y : ℕ) : Type 0 where
  pub ends : Ends
  pub p : Prev
  pub c : ℕ
  pub e : ℕ
  pub from : pl ≡ AddE ends p c
  pub to : next ≡ Trial ends e
  pub goal : y ≡ ends.v

-- it keeps the open vertex, or closes it
pub data Kept (pl next : Place) : Type 0 where
  stays : (ends : Ends) (e x c d : ℕ) → pl ≡ TrialOpen ends e x c → next ≡ TrialOpen ends e x d → Kept pl next
  closes : (ends : Ends) (e x c : ℕ) → pl ≡ TrialOpen ends e x c → next ≡ Trial ends e → Kept pl next

-- it meets y over the current edge of the open vertex
pub record Met (C : Catalogue) (back : ℕ) (pl next : Place) (y : ℕ) : Type 0 where
  pub ends : Ends
  pub e : ℕ
  pub x : ℕ
  pub c : ℕ
  pub d : ℕ
  pub tag : ℕ
  pub from : pl ≡ TrialOpen ends e x c
  pub to : next ≡ TrialOpen ends e x d
  pub link : edge_link C c ≡ some_link d tag
  pub plain : tag ≡ marked → ⊥
  pub leads : edge_target C c ≡ Some y
  pub source : unmarked C x ≡ true
  pub goal : unmarked C y ≡ true
  pub inner : c ≡ edge_tail → ⊥
  pub room : back < 256

-- it takes the front x of the queue, and opens it or not
pub data Taken (a : Ahead) (pl next : Place) : Type 0 where
  skips : (ends : Ends) (e : ℕ) → pl ≡ Trial ends e → next ≡ Trial ends e → (a.front ≡ a.back → ⊥) → Taken a pl next
  opens : (ends : Ends) (e c : ℕ) → pl ≡ Trial ends e → next ≡ TrialOpen ends e a.x c → (a.front ≡ a.back → ⊥) → (a.x ≡ ends.u → ⊥)
      → Taken a pl next

-- the replies that stand outside the row
abbrev pub outside : ℕ → Bool
outside n = pick (eqb n 6) true (pick (eqb n 7) true (eqb n 9))

-- with 7: the look settles at an edge on trial with the key asked for
pub record Seven (C : Catalogue) (pl : Place) : Type 0 where
  pub ends : Ends
  pub p : Prev
  pub c : ℕ
  pub at : Landed
  pub is : pl ≡ AddE ends p c
  pub seen : look_at_edge C ends p c ≡ edge_seen.Settles at
  pub tag : at.tag ≡ transit
  pub equal : at.equal ≡ true

-- with 6: the source stands at the front of the queue, and the own edge is marked
pub record Six (C : Catalogue) (a : Ahead) (pl : Place) (write : Write) : Type 0 where
  pub ends : Ends
  pub e : ℕ
  pub next : ℕ
  pub old : ℕ
  pub is : pl ≡ Trial ends e
  pub writes : write ≡ EdgeLink e next marked
  pub link : edge_link C e ≡ some_link next old
  pub front_is : a.x ≡ ends.u
  pub some : a.front ≡ a.back → ⊥

-- a reply in the row, which has one digit as they all have, or one of the three with what it implies
pub data Told (C : Catalogue) (a : Ahead) (pl : Place) (n : ℕ) (write : Write) : Type 0 where
  in_row : outside n ≡ false → T (leb n 9) → Told C a pl n write
  lacks : n ≡ 9 → write ≡ Nothing → Lacks C pl → Told C a pl n write
  on_trial : n ≡ 7 → write ≡ Nothing → Seven C pl → Told C a pl n write
  loops : n ≡ 6 → Six C a pl write → Told C a pl n write

pub told_small : {C : Catalogue} {a : Ahead} {pl : Place} {n : ℕ} {write : Write} → Told C a pl n write → n ≤ 9
told_small {C} {a} {pl} {n} (in_row q b) = leb→le n 9 b
told_small (lacks q a b) = omega (arith, q)
told_small (on_trial q a z) = omega (arith, q)
told_small (loops q z) = omega (arith, q)

abbrev pub Fate : Catalogue → Ahead → Place → Decision → Type 0
Fate C a pl Torn = Unit {0}
Fate C a pl Code = Unit {0}
Fate C a pl (Going next write) = trying next ≡ false
Fate C a pl (Begins next write y) = Begun pl next y
Fate C a pl (Keeps next) = Kept pl next
Fate C a pl (Meets next y) = Met C a.back pl next y
Fate C a pl (Takes next) = Taken a pl next
Fate C a pl (Reply n write) = Told C a pl n write
