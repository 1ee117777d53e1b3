-- How a run reads on from the positions that a check gives: one request or one turn is read, and the others follow.
use Prim.Native.Nat.{ℕ, zero, suc, ◌<◌}
use mathlib.Core.Bool.{Bool}
use mathlib.Core.List.{List, [], ◌∷◌}
use mathlib.Core.Path.{◌≡◌, refl, ap, ◌∙◌}
use native.Mathlib.Omega.{arith}
use lib.ListN.{length, get_or, take}
use lib.Seq.{length-take-le, get_or-take}
use Rattle.catalogue.specs.Run.{shares}
use Rattle.script.specs.Words.{item, number_at}
use Rattle.script.specs.Lines.{request_at}
use Rattle.digits.specs.Digits.{at_some}
use Rattle.script.specs.Shares.{share}
use Rattle.script.specs.Turns.{turn_at}
use Rattle.script.specs.Checks.{requests_at, shares_at, share_of, turns_from, script_in, IsScript}
use Rattle.script.specs.declared.shares.Share.{Share}
use Rattle.script.specs.declared.checks.Checked.{Checked}

module _ (text : List ℕ) where
  pub requests_none : (at : ℕ) → requests_at text 0 at ≡ []
  unfolding requests_at
  requests_none at = refl

  pub requests_one : (count at : ℕ) → requests_at text (suc count) at ≡ at_some (request_at text at) [] (λ r. r.value ∷ requests_at text count r.next)
  unfolding requests_at
  requests_one count at = refl

  pub turns_none : (at : ℕ) → turns_from text 0 at ≡ []
  unfolding turns_from
  turns_none at = refl

  pub turns_one : (turns at w next : ℕ) (last : Bool) → number_at text at ≡ item w next last → turns_from text (suc turns) at ≡ w ∷ turns_from text turns next
  unfolding turns_from turn_at
  turns_one turns at w next last e = rw e

  -- a worker's requests stand from its start on
  own_share : (ss : List Share) (w : ℕ) → w < length ss → get_or (shares_at text ss) w [] ≡ requests_at text (share_of ss w).count (share_of ss w).start
  unfolding shares_at
  own_share [] w h = absurd (omega arith)
  own_share (s ∷ ss) zero h = refl
  own_share (s ∷ ss) (suc w) h = own_share ss w (omega arith)

  pub worker_share : (r : Checked) → IsScript text r → length r.shares ≡ 8 → (w : ℕ) → w < r.workers
      → get_or (shares (script_in text r).counts (script_in text r).requests) w [] ≡ requests_at text (share_of r.shares w).count (share_of r.shares w).start
  worker_share r k l w h =
      let a : length (take r.workers r.shares) ≡ r.workers = length-take-le r.workers r.shares (omega (arith, k.few)) in
      ap (λ l. get_or l w []) k.shared
      ∙ own_share (take r.workers r.shares) w (omega arith)
      ∙ rw (get_or-take r.workers r.shares w (share 0 0) h)
