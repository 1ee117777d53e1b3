-- Document 01, "Sweep and listing", the paragraph on output; a listing called alone, and its refusal 26.
use Rattle.std.specs.Prelude.{ℕ, List, [], ◌∷◌, ◌++◌, map, ℤ, pos, length, drop, Result, Ok, Err}
use Rattle.catalogue.specs.Tests.{pick, keep}
use Rattle.catalogue.specs.Catalogue.{Catalogue}
use Rattle.catalogue.specs.Live.{live_vertices, live_keys, live_pairs, edges_of, is_added, gather}
use Rattle.catalogue.specs.Soundness.{sound, listing}
use Rattle.catalogue.specs.Text.{lines}
use Rattle.catalogue.specs.declared.answers.Refusal.{Refusal}
use Rattle.catalogue.specs.declared.answers.Refusal.TheVariants as refusal

-- A reply as the output shows it.
pub record ReplyLine : Type 0 where
  pub position : ℕ
  pub worker : ℕ
  pub code : ℕ
  pub reply : ℕ

abbrev pub reply_numbers : ReplyLine → List ℤ
reply_numbers r = pos r.position ∷ pos r.worker ∷ pos r.code ∷ pos r.reply ∷ []

-- the ADDED edges in the lists of live vertices, those to a marked target too
abbrev pub added_edges : Catalogue → List ℕ
added_edges C = gather (λ x. keep (is_added C) (edges_of C x)) (live_vertices C)

-- The contents line: how many replies, live vertices and ADDED edges in the lists of live vertices.
abbrev pub contents : Catalogue → List ReplyLine → List ℤ
contents C replies = pos (length replies) ∷ pos (length (live_vertices C)) ∷ pos (length (added_edges C)) ∷ []

abbrev pub vertex_lines : Catalogue → List (List ℤ)
vertex_lines C = map (λ k. k ∷ []) (live_keys C)

abbrev pub edge_lines : Catalogue → List (List ℤ)
edge_lines C = map (λ p. p.0 ∷ p.1 ∷ []) (live_pairs C)

-- The whole output: contents, replies, live vertices, live edges.
unfoldable pub result_text : Catalogue → List ReplyLine → List ℕ
result_text C replies = lines ((contents C replies ∷ map reply_numbers replies) ++ (vertex_lines C ++ edge_lines C))

-- A text written at the start of the output, which keeps the rest.
abbrev pub written : List ℕ → List ℕ → List ℕ
written text output = text ++ drop (length text) output

pub record AfterListing : Type 0 where
  pub output : List ℕ
  pub answer : Result ℕ Refusal

-- A listing called alone: no replies; 26.
unfoldable pub list_into : Catalogue → List ℕ → AfterListing
list_into C output =
    let text = result_text C [] in
    pick (sound listing C) (record { output = written text output; answer = Ok (length text) })
    (record { output = output; answer = Err refusal.Torn })
