-- What a trial keeps is so when it begins, and is kept by meeting a vertex and by taking the front of the queue.
use Prim.Native.Nat.{ℕ, ◌+◌, ◌≤◌, ◌<◌}
use mathlib.Core.Bool.{true, false}
use mathlib.Core.List.{List, [], ◌∷◌, ◌++◌}
use mathlib.Core.Path.{◌≡◌, refl, sym, ap, ◌∙◌}
use native.Mathlib.Omega.{arith}
use lib.ListN.{length, take, length-set}
use Rattle.catalogue.specs.Tests.{upd}
use Rattle.catalogue.specs.Workers.{has, with_met, no_reach, meet, take_one, ahead}
use Rattle.catalogue.specs.declared.workers.Reach.{Reach}
use Rattle.laws.proofs.MetLaws.{none_met}
use Rattle.row.specs.Machine.World.{Opened, closed, Hunt, hunt_from, meets, took}
use Rattle.promises.specs.Bounds.{total}
use Rattle.promises.proofs.Showing.Weighing.{weigh_none, weigh_one_more, total_last}
use Rattle.promises.proofs.Showing.Shows.{Series, Open, Hunted}
use Rattle.promises.proofs.Hunts.MetSet.{none_counted, with_met_words, with_met_upd, met_count_up, met_count_room}
use Rattle.promises.proofs.Hunts.Queue.{queue_put, queue_empty, queue_some, queue_first, queue_rest, taken_stay, queue_took}
use Rattle.promises.proofs.Hunts.Searching.{nobody_searched, searched_meets, searched_takes, front_met, front_new}

module _ (used : ℕ) (r : Reach) (h : Hunt) (s : Hunted used r h) where
  module _ (in_pool : used ≤ 256) (y : ℕ) (in_series : Series used y) (unmet : h.met y ≡ false) where
    small : y < 256
    small = omega arith

    not_in_set : has r.met y ≡ false
    not_in_set = s.queued.met_same y small ∙ unmet

    -- as many are queued as are met, and y is not met
    pub room_in_queue : r.back < 256
    room_in_queue = omega (arith, s.queued.counted, met_count_room r.met s.queued.met_words y small not_in_set)

    same' : (x : ℕ) → x < 256 → has (with_met r.met y) x ≡ upd h.met y true x
    unfolding upd
    same' x b = with_met_upd r.met s.queued.met_words y small not_in_set x ∙ rw (s.queued.met_same x b) refl

    pub hunted_meets : (o : Opened) → Open used o → Hunted used (meet r y) (meets h y o)
    hunted_meets o stand = record {
      queued = record {
        met_words = with_met_words r.met s.queued.met_words y;
        queue_length = length-set r.queue r.back y ∙ s.queued.queue_length;
        ordered = omega (arith, s.queued.ordered);
        fits = omega (arith, room_in_queue);
        met_same = same';
        counted = met_count_up r.met s.queued.met_words y small not_in_set ∙ ap (λ (n : ℕ). n + 1) s.queued.counted;
        queue_same =
            queue_put r.queue r.front r.back s.queued.ordered y (rw s.queued.queue_length room_in_queue)
            ∙ ap (λ (l : List ℕ). l ++ (y ∷ [])) s.queued.queue_same;
        weighed = λ f. ap (total f) (taken_stay r.queue r.front r.back s.queued.ordered y) ∙ s.queued.weighed f;
      };
      searched = searched_meets s.searched y in_series unmet;
      open_series = stand;
    }

  fits_length : r.back ≤ length r.queue
  fits_length = rw s.queued.queue_length s.queued.fits

  pub none_left : h.todo ≡ [] → r.front ≡ r.back
  none_left e = queue_empty r.queue r.front r.back s.queued.ordered fits_length (s.queued.queue_same ∙ e)

  module _ (x : ℕ) (xs : List ℕ) (front : h.todo ≡ x ∷ xs) where
    pub some_left : r.front < r.back
    some_left = queue_some r.queue r.front r.back s.queued.ordered fits_length x xs (s.queued.queue_same ∙ front)

    pub front_is : (ahead r).x ≡ x
    front_is = queue_first r.queue r.front r.back s.queued.ordered fits_length x xs (s.queued.queue_same ∙ front)

    pub front_series : Series used x
    front_series = let d = s.searched in d.met_series x (front_met d x xs front)

    pub hunted_takes : used ≤ 256 → (o : Opened) → Open used o → Hunted used (take_one r) (took h x xs o)
    hunted_takes in_pool o stand = record {
      queued = record {
        met_words = s.queued.met_words;
        queue_length = s.queued.queue_length;
        ordered = omega (arith, some_left);
        fits = s.queued.fits;
        met_same = s.queued.met_same;
        counted = s.queued.counted;
        queue_same = queue_rest r.queue r.front r.back s.queued.ordered fits_length x xs (s.queued.queue_same ∙ front);
        weighed = λ f.
            ap (total f) (queue_took r.queue r.front r.back s.queued.ordered fits_length x xs (s.queued.queue_same ∙ front))
            ∙ (total_last f (take r.front r.queue) x
            ∙ (ap (λ (n : ℕ). n + f x) (s.queued.weighed f) ∙ sym (weigh_one_more f h.taken x (front_new s.searched x xs front) 256 (omega (arith, front_series)))));
      };
      searched = searched_takes s.searched x xs front;
      open_series = stand;
    }

-- A trial begins as one that had met no vertex and now meets v.
pub hunted_begun : (used : ℕ) → used ≤ 256 → (v : ℕ) → Series used v → Hunted used (meet no_reach v) (hunt_from v)
unfolding total
hunted_begun used few v o = hunted_meets used no_reach unmet nobody few v o refl closed tt
  where
    unmet : Hunt
    unmet = record { met = λ x. false; todo = []; taken = λ x. false; stand = closed }

    nobody : Hunted used no_reach unmet
    nobody = record {
      queued = record {
        met_words = refl;
        queue_length = refl;
        ordered = omega arith;
        fits = omega arith;
        met_same = λ x h. none_met x;
        counted = none_counted;
        queue_same = refl;
        weighed = λ f. sym (weigh_none f 256);
      };
      searched = nobody_searched used;
      open_series = tt;
    }
