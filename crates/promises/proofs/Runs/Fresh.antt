-- The fresh catalogue shows the machine's empty world, and idle workers show that all rest.
use Prim.Native.Nat.{ℕ, zero, suc, ◌<◌}
use mathlib.Core.Path.{◌≡◌, refl}
use native.Mathlib.Omega.{arith}
use Rattle.catalogue.specs.Numbers.{some_link}
use Rattle.catalogue.specs.Tests.{upd}
use Rattle.catalogue.specs.Catalogue.{fresh, vertex_key, vertex_key_in, vertex_link, vertex_link_in, edge_key, edge_key_in}
use Rattle.catalogue.specs.Choosing.{start}
use Rattle.catalogue.specs.Workers.{idle, worker_at, idle_table}
use Rattle.row.specs.Machine.Choices
use Rattle.row.proofs.Events.Fine.{fresh_fine}
use Rattle.promises.proofs.Showing.Shows.{Shows}
use Rattle.promises.proofs.Steps.Deciding.{rests}
use Rattle.promises.proofs.Runs.Held.{Held}

pub fresh_shows : Shows fresh (Choices.fresh).world
unfolding vertex_key_in vertex_link_in edge_key_in upd
fresh_shows = record {
  vertices = refl;
  vertices_fit = omega arith;
  edges = refl;
  edges_fit = omega arith;
  vkeys = key;
  vlinks = link;
  firsts = λ x l h. absurd (omega arith);
  ekeys = ekey;
  elinks = λ e l h. absurd (omega arith);
  targets = λ e l h. absurd (omega arith);
}
  where
    key : (x : ℕ) → x < 2 → vertex_key fresh x ≡ (Choices.fresh).world.v.key x
    key zero h = refl
    key (suc zero) h = refl
    key (suc (suc x)) h = absurd (omega arith)

    link : (x : ℕ) → x < 2 → (x ≡ 1 → ⊥) → vertex_link fresh x ≡ some_link ((Choices.fresh).world.v.next x) 0
    link zero h n = refl
    link (suc zero) h n = absurd (n refl)
    link (suc (suc x)) h n = absurd (omega arith)

    ekey : (e : ℕ) → e < 1 → edge_key fresh e ≡ (Choices.fresh).world.e.key e
    ekey zero h = refl
    ekey (suc e) h = absurd (omega arith)

module _ (workers : ℕ) where
  idle_at : (w : ℕ) → w < 8 → worker_at (idle_table workers) w ≡ idle
  idle_at zero h = refl
  idle_at (suc zero) h = refl
  idle_at (suc (suc zero)) h = refl
  idle_at (suc (suc (suc zero))) h = refl
  idle_at (suc (suc (suc (suc zero)))) h = refl
  idle_at (suc (suc (suc (suc (suc zero))))) h = refl
  idle_at (suc (suc (suc (suc (suc (suc zero)))))) h = refl
  idle_at (suc (suc (suc (suc (suc (suc (suc zero))))))) h = refl
  idle_at (suc (suc (suc (suc (suc (suc (suc (suc w)))))))) h = absurd (omega arith)

  pub start_held : Held workers (start workers) Choices.fresh
  start_held = record {
    shows = fresh_shows;
    fine = fresh_fine;
    counted = refl;
    eight = refl;
    shown = λ w h. rw (idle_at w h) (rests 2);
    beyond = λ w h. refl;
  }
