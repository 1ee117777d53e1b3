-- A listing of catalogues that agree writes the same, so a listing of lent memory is that of its catalogue.
use Prim.Native.Nat.{ℕ}
use mathlib.Core.Bool.{true}
use mathlib.Core.List.{List, []}
use mathlib.Core.Path.{◌≡◌, refl}
use Rattle.catalogue.specs.Tests.{keep}
use Rattle.catalogue.specs.Catalogue.{Catalogue, vertex_key, edge_key}
use Rattle.catalogue.specs.Live.{edges_of, is_added, live_keys, live_pairs}
use Rattle.catalogue.specs.Soundness.{listing}
use Rattle.catalogue.specs.Listing.{ReplyLine, added_edges, result_text, list_into}
use Rattle.catalogue.specs.Lent.{lay, output_fits, lent_listing}
use Rattle.memory.proofs.Agrees.{Agree, agree_laid}
use Rattle.lent.proofs.Agrees.{vertex_key_same, edge_key_same}
use Rattle.lent.proofs.Lives.{is_added_twin, edges_kept, live_vertices_same, live_edges_mapped, live_mapped, live_gathered}
use Rattle.lent.proofs.Sounds.{sound_same}
use Rattle.lent.proofs.Calls.{sized_lay}

module _ {C D : Catalogue} (a : Agree C D) where
  added_same : added_edges C ≡ added_edges D
  added_same =
      live_gathered a (λ x. keep (is_added C) (edges_of C x)) (λ x. keep (is_added D) (edges_of D x))
      (λ x h. edges_kept a x h (is_added C) (is_added D) (λ e b. (is_added_twin a e).same))

  keys_same : live_keys C ≡ live_keys D
  keys_same = live_mapped a (vertex_key C) (vertex_key D) (vertex_key_same a)

  pairs_same : live_pairs C ≡ live_pairs D
  pairs_same =
      live_edges_mapped a (λ x e. (vertex_key C x, edge_key C e)) (λ x e. (vertex_key D x, edge_key D e))
      (λ x e h b. rw (vertex_key_same a x h, edge_key_same a e b) refl)

  pub text_same : (replies : List ReplyLine) → result_text C replies ≡ result_text D replies
  unfolding result_text
  text_same replies = rw (added_same, keys_same, pairs_same, live_vertices_same a) refl

  pub listing_same : (output : List ℕ) → list_into C output ≡ list_into D output
  unfolding list_into
  listing_same output = rw (sound_same a listing, text_same []) refl

-- where there is room for it
pub lent_listing_laid : (C : Catalogue) (output : List ℕ) → output_fits output ≡ true → lent_listing (lay C) output ≡ list_into C output
unfolding lent_listing
lent_listing_laid C output e = rw (sized_lay C, e) (listing_same (agree_laid C) output)
