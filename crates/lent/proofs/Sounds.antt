-- Catalogues that agree are sound together: every test of soundness looks at nodes of the pools.
use Prim.Native.Nat.{ℕ}
use mathlib.Core.List.{◌∷◌}
use mathlib.Core.Path.{◌≡◌, refl, ap, ◌∙◌}
use native.Mathlib.Omega.{arith}
use lib.Signed.{lt_z}
use Rattle.catalogue.specs.Tests.{eq_z, every}
use Rattle.catalogue.specs.Numbers.{head}
use Rattle.catalogue.specs.Catalogue.{Catalogue, vertex_key, edge_key}
use Rattle.catalogue.specs.Live.{vertices, edges_of, live_vertices}
use Rattle.catalogue.specs.Soundness.{Asks, tag_fits, vertex_sound, target_sound, edge_sound, edges_sound, sound}
use Rattle.laws.proofs.Members.{all_each, all_any}
use Rattle.lent.proofs.Twins.{twin, Same, pick_twin}
use Rattle.memory.proofs.Agrees.{Agree}
use Rattle.lent.proofs.Agrees.{vertex_key_same, edge_key_same}
use Rattle.lent.proofs.Reading.{vertex_read, mark_read, first_read, edge_read, target_read}
use Rattle.lent.proofs.Ranges.{Near}
use Rattle.lent.proofs.Lists.{every_same}
use Rattle.lent.proofs.Lives.{InPool, vertices_near, live_near, unmarked_twin, vertices_same, live_vertices_same, edges_of_same, live_edges_same}

module _ {C D : Catalogue} (a : Agree C D) where
  vertex_sound_twin : (x : ℕ) → Near x → Same (vertex_sound C x) (vertex_sound D x)
  vertex_sound_twin x h = vertex_read a x h (twin _ tt) (λ next tag b. rw (vertex_key_same a x h, vertex_key_same a next b) (twin _ tt))

  target_sound_twin : (e y : ℕ) → InPool e → Near y → Same (target_sound C e y) (target_sound D e y)
  target_sound_twin e y b h =
      rw (vertex_key_same a y h, edge_key_same a e b, vertices_same a)
      (pick_twin (eq_z (vertex_key D y) (edge_key D e)) (λ q. mark_read a y h (twin _ tt) (twin _ tt) (twin _ tt)) (λ q. twin _ tt))

  module _ (asks : Asks) where
    edge_sound_twin : (e : ℕ) → Same (edge_sound asks C e) (edge_sound asks D e)
    edge_sound_twin e =
        edge_read a e (twin _ tt)
        (λ next tag b n. pick_twin (tag_fits asks tag)
        (λ q. rw (edge_key_same a e b, edge_key_same a next n)
        (pick_twin (lt_z (edge_key D e) (edge_key D next)) (λ q. target_read a e b (twin _ tt) (λ y h. target_sound_twin e y b h)) (λ q. twin _ tt)))
        (λ q. twin _ tt))

    edges_sound_twin : (x : ℕ) → Near x → Same (edges_sound asks C x) (edges_sound asks D x)
    edges_sound_twin x h = first_read a x h (twin _ tt) (λ next tag b. rw all_sound (twin _ tt))
      where
        all_sound : every (edge_sound asks C) (edges_of C x) ≡ every (edge_sound asks D) (edges_of D x)
        all_sound =
            every_same (edge_sound asks C) (edge_sound asks D) (edges_of C x) (all_any _ (λ e. (edge_sound_twin e).same) (edges_of C x))
            ∙ ap (every (edge_sound asks D)) (edges_of_same a x h)

    pub sound_same : sound asks C ≡ sound asks D
    unfolding sound
    sound_same = rw ((unmarked_twin a head (omega arith)).same, vertices_sound, lists_sound, live_edges_same a) refl
      where
        vertices_sound : every (vertex_sound C) (head ∷ vertices C) ≡ every (vertex_sound D) (head ∷ vertices D)
        vertices_sound =
            every_same (vertex_sound C) (vertex_sound D) (head ∷ vertices C)
            (all_each Near _ (λ x h. (vertex_sound_twin x h).same) (head ∷ vertices C) (omega arith, vertices_near C))
            ∙ ap (λ l. every (vertex_sound D) (head ∷ l)) (vertices_same a)

        lists_sound : every (edges_sound asks C) (live_vertices C) ≡ every (edges_sound asks D) (live_vertices D)
        lists_sound =
            every_same (edges_sound asks C) (edges_sound asks D) (live_vertices C)
            (all_each Near _ (λ x h. (edges_sound_twin x h).same) (live_vertices C) (live_near C))
            ∙ ap (every (edges_sound asks D)) (live_vertices_same a)
