-- The statement "all answered calls stand in one row", for any object: graphs G, requests, replies,
-- and what one call does when it is alone. Nothing is proved here.
use Rattle.std.specs.Prelude.{ℕ, suc, ◌+◌, ◌≤◌, Bool, true, false, cond, ◌≡◌, List, [], ◌∷◌, eqb}
use Rattle.std.proofs.Math.Option.{Option, some}

-- an answered call: the event that took it up, what was asked, what was replied
pub record Call (Req Rep : Type 0) : Type 0 where
  pub first : ℕ
  pub request : Req
  pub reply : Rep

-- Events are numbered from 1. `live t`: the graph after the first t events.
-- `answered b`: the call that event b answers, if any.
pub record History (G Req Rep : Type 0) : Type 0 where
  pub live : ℕ → G
  pub answered : ℕ → Option (Call Req Rep)

-- a row is a list of entries: a call, the event that answered it,
-- and the moment at which it takes its place in the row
pub record Entry (Req Rep : Type 0) : Type 0 where
  pub event : ℕ
  pub place : ℕ
  pub call : Call Req Rep

pub data All {A : Type 0} (P : A → Type 0) : List A → Type 0 where
  nil : All P []
  also : {x : A} {xs : List A} → P x → All P xs → All P (x ∷ xs)

-- `does g q r h`: a call alone, asked q on the graph g, may reply r with h after it. `By f`: what a function f says.
abbrev pub By : {G Req Rep : Type 0} → (G → Req → Rep × G) → G → Req → Rep → G → Type 0
By f g q r h = f g q ≡ (r, h)

-- the calls of a row, one after another, each on the graph after the one before,
-- lead from g to h with their replies
abbrev pub Replays : {G Req Rep : Type 0} → (G → Req → Rep → G → Type 0) → G → List (Entry Req Rep) → G → Type 0
Replays does g [] h = g ≡ h
Replays does g (e ∷ es) h = (k : _) × does g e.call.request e.call.reply k × Replays does k es h

-- how often event b stands in a row
abbrev pub times : {Req Rep : Type 0} → ℕ → List (Entry Req Rep) → ℕ
times b [] = 0
times b (e ∷ es) = cond (eqb e.event b) 1 0 + times b es

abbrev pub InOrder : {Req Rep : Type 0} → List (Entry Req Rep) → Type 0
InOrder [] = Unit {0}
InOrder (e ∷ es) = All (λ f. e.place ≤ f.place) es × InOrder es

-- the entry is one of the first n events' answers, it counts, and its place lies within the call
pub record Genuine {G Req Rep : Type 0} (counts : Call Req Rep → Bool) (H : History G Req Rep) (n : ℕ) (e : Entry Req Rep) : Type 0 where
  pub low : 1 ≤ e.event
  pub high : e.event ≤ n
  pub answer : H.answered e.event ≡ some e.call
  pub belongs : counts e.call ≡ true
  pub not_before : e.call.first ≤ e.place
  pub not_after : e.place ≤ e.event

-- The row explains the first n events: it holds nothing but their answers that count, and each of these once;
-- it respects time; and the calls done one after another in this order, each alone,
-- give the replies that were given and the graph there is.
pub record Explains {G Req Rep : Type 0} (does : G → Req → Rep → G → Type 0) (counts : Call Req Rep → Bool) (H : History G Req Rep) (n : ℕ) (row : List (Entry Req Rep)) : Type 0 where
  pub genuine : All (Genuine counts H n) row
  pub each_once : (b : ℕ) (c : Call Req Rep) → 1 ≤ b → b ≤ n → H.answered b ≡ some c → counts c ≡ true → times b row ≡ 1
  pub in_order : InOrder row
  pub replies : Replays does (H.live 0) row (H.live n)

-- What is asked of the event suc j, between `live j` and `live (suc j)`.
pub data Event {G Req Rep : Type 0} (does : G → Req → Rep → G → Type 0) (counts : Call Req Rep → Bool) (H : History G Req Rep) (j : ℕ) : Type 0 where
  -- it answers nothing that counts, and keeps the graph
  quiet : ((c : Call Req Rep) → H.answered (suc j) ≡ some c → counts c ≡ false)
      → H.live (suc j) ≡ H.live j → Event does counts H j
  -- it does now what its call does alone
  acts : (c : Call Req Rep) → H.answered (suc j) ≡ some c → counts c ≡ true → c.first ≤ j
      → does (H.live j) c.request c.reply (H.live (suc j)) → Event does counts H j
  -- it keeps the graph; its call alone would have given the same reply, and changed nothing, at a moment t within it
  looks : (c : Call Req Rep) → H.answered (suc j) ≡ some c → counts c ≡ true → H.live (suc j) ≡ H.live j
      → (t : ℕ) → c.first ≤ t → t ≤ j
      → does (H.live t) c.request c.reply (H.live t) → Event does counts H j
