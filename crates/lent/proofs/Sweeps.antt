-- A sweep of catalogues that agree writes the same, so a sweep of lent memory is that of its catalogue.
use Prim.Native.Nat.{ℕ}
use mathlib.Core.Bool.{true}
use mathlib.Core.Path.{◌≡◌, refl, ap, ap₂}
use Rattle.catalogue.specs.Catalogue.{Catalogue, vertex_key, at_target}
use Rattle.catalogue.specs.Soundness.{sweep}
use Rattle.catalogue.specs.Sweep.{position, renumbered, swept_edge, held, swept, sweep_into}
use Rattle.catalogue.specs.Lent.{Memory, view, lay, sized, after_sweep, lent_sweep}
use Rattle.catalogue.specs.declared.workers.Table.{Table}
use Rattle.memory.proofs.Agrees.{Agree, agree_laid}
use Rattle.lent.proofs.Agrees.{vertex_key_same, edge_key_same, edge_target_same}
use Rattle.lent.proofs.Lives.{InPool, live_vertices_same, live_edges_mapped, live_mapped}
use Rattle.lent.proofs.Sounds.{sound_same}
use Rattle.lent.proofs.Calls.{sized_lay}

module _ {C D : Catalogue} (a : Agree C D) where
  swept_edge_same : (x e : ℕ) → InPool e → swept_edge C x e ≡ swept_edge D x e
  swept_edge_same x e b = λ i. record {
    source = numbers i x;
    target = at_target (edge_target_same a e b i) 0 (numbers i);
    key = edge_key_same a e b i;
  }
    where
      numbers : renumbered C ≡ renumbered D
      numbers = λ i y. position y (live_vertices_same a i) 2

  pub swept_same : swept C ≡ swept D
  swept_same = ap₂ held (live_mapped a (vertex_key C) (vertex_key D) (vertex_key_same a)) (live_edges_mapped a (swept_edge C) (swept_edge D) (λ x e h b. swept_edge_same x e b))

  pub sweep_same : (E : Catalogue) (t : Table) → sweep_into C E t ≡ sweep_into D E t
  unfolding sweep_into
  sweep_same E t = rw (sound_same a sweep, swept_same) refl

pub lent_sweep_laid : (C : Catalogue) (n : Memory) (t : Table) → sized n ≡ true → lent_sweep (lay C) n t ≡ after_sweep (sweep_into C (view n) t)
unfolding lent_sweep
lent_sweep_laid C n t e = rw (sized_lay C, e) (ap after_sweep (sweep_same (agree_laid C) (view n) t))
