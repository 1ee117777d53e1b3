-- Document 01, "The steps": which place a request of a given code goes on to.
-- The calls share their looks, and go by the code number.
use Rattle.std.specs.Prelude.{ℕ, Bool, true, false, ℤ, eqb, leb}
use Rattle.catalogue.specs.Tests.{pick, one_to}
use Rattle.catalogue.specs.Numbers.{head, reserved}
use Rattle.catalogue.specs.declared.workers.Pair.{Pair}
use Rattle.catalogue.specs.declared.workers.Ends.{Ends}
use Rattle.catalogue.specs.declared.workers.Request.{Request}
use Rattle.catalogue.specs.declared.workers.Prev.{Prev}
use Rattle.catalogue.specs.declared.workers.Prev.TheVariants.{First}
use Rattle.catalogue.specs.declared.workers.Place.{Place}
use Rattle.catalogue.specs.declared.workers.Place.TheVariants.{Idle, AddV, RemV, ConV, AddEFindU, RemEFindU, ConEFindU, AddEFindV, RemEFindV, ConEFindV, AddE, RemE, ConE}

-- First paragraph: the six codes, and how many keys each reads.
abbrev pub code_known : ℕ → Bool
code_known code = one_to 6 code

abbrev pub one_key : ℕ → Bool
one_key code = leb code 3

-- "Replies and refusals", 25: a key that the request uses is reserved.
unfoldable pub key_refused : Request → Bool
key_refused q = pick (reserved q.pair.k) true (pick (one_key q.code) false (reserved q.pair.l))

-- AddV's look, or RemV's
unfoldable pub vertex_place : ℕ → ℤ → ℕ → ℕ → Place
vertex_place code k p c = pick (eqb code 1) (AddV k p c) (RemV k p c)

-- finding u, and v
unfoldable pub find_u_place : ℕ → Pair → ℕ → Place
find_u_place code pair c = pick (eqb code 4) (AddEFindU pair c) (pick (eqb code 5) (RemEFindU pair c) (ConEFindU pair c))

unfoldable pub find_v_place : ℕ → Pair → ℕ → ℕ → Place
find_v_place code pair u c = pick (eqb code 4) (AddEFindV pair u c) (pick (eqb code 5) (RemEFindV pair u c) (ConEFindV pair u c))

-- AddE's look, or RemE's
unfoldable pub edge_place : ℕ → Ends → Prev → ℕ → Place
edge_place code ends p c = pick (eqb code 4) (AddE ends p c) (RemE ends p c)

-- the first look at the edges of u, at its first-edge link
unfoldable pub edges_place : ℕ → Ends → ℕ → Place
edges_place code ends c = pick (eqb code 6) (ConE ends c) (edge_place code ends First c)

-- "Taking up" goes by the code: p is the head and c its next.
-- No call has another code, which is refused as CODE before.
unfoldable pub first_place : Request → ℕ → Place
first_place q c =
    pick (eqb q.code 1) (AddV q.pair.k head c)
    (pick (eqb q.code 2) (RemV q.pair.k head c)
    (pick (eqb q.code 3) (ConV q.pair.k c)
    (pick (eqb q.code 4) (AddEFindU q.pair c)
    (pick (eqb q.code 5) (RemEFindU q.pair c)
    (pick (eqb q.code 6) (ConEFindU q.pair c) Idle)))))
