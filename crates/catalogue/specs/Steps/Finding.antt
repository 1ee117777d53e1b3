-- Document 01, "The steps": the paragraph on ConV, and the one on finding u and v by its looks.
use Rattle.std.specs.Prelude.{ℕ, ℤ, eqb}
use Rattle.std.specs.Int.Signed.{lt_z}
use Rattle.catalogue.specs.Tests.{pick, eq_z}
use Rattle.catalogue.specs.Numbers.{head}
use Rattle.catalogue.specs.Catalogue.{Catalogue, vertex_key, vertex_link, first_link, at_link, at_mark}
use Rattle.catalogue.specs.Steps.Places.{find_u_place, find_v_place, edges_place}
use Rattle.catalogue.specs.declared.workers.Pair.{Pair}
use Rattle.catalogue.specs.declared.workers.Ends.{Ends}
use Rattle.catalogue.specs.declared.workers.Place.TheVariants.{ConV}
use Rattle.catalogue.specs.declared.writes.Write.TheVariants.{Nothing}
use Rattle.catalogue.specs.declared.steps.VertexFound.{VertexFound}
use Rattle.catalogue.specs.declared.steps.VertexFound.TheVariants as found
use Rattle.catalogue.specs.declared.steps.Decision.{Decision}
use Rattle.catalogue.specs.declared.steps.Decision.TheVariants.{Torn, Going, Reply}

-- One look for a key at c. A lower key is passed, marked or not;
-- c's link is read only where the key is lower or equal.
unfoldable pub look_for : Catalogue → ℤ → ℕ → VertexFound
look_for C k c =
    pick (lt_z (vertex_key C c) k) (at_link (vertex_link C c) found.Torn (λ next tag. found.Onward next))
    (pick (eq_z (vertex_key C c) k) (at_mark (vertex_link C c) found.Torn found.Missing found.Found) found.Missing)

abbrev pub decide_contains : ℤ → VertexFound → Decision
decide_contains k found.Torn = Torn
decide_contains k (found.Onward next) = Going (ConV k next) Nothing
decide_contains k found.Found = Reply 1 Nothing
decide_contains k found.Missing = Reply 2 Nothing

unfoldable pub step_contains : Catalogue → ℤ → ℕ → Decision
step_contains C k c = decide_contains k (look_for C k c)

-- The reply for a missing vertex: 8 by ConE, 3 by the others.
unfoldable pub not_found : ℕ → ℕ
not_found code = pick (eqb code 6) 8 3

-- The step that finds u goes back to the head's next by itself.
unfoldable pub found_u : Catalogue → ℕ → Pair → ℕ → Decision
found_u C code pair u = at_link (vertex_link C head) Torn (λ first tag. Going (find_v_place code pair u first) Nothing)

abbrev pub decide_find_u : Catalogue → ℕ → Pair → ℕ → VertexFound → Decision
decide_find_u C code pair c found.Torn = Torn
decide_find_u C code pair c (found.Onward next) = Going (find_u_place code pair next) Nothing
decide_find_u C code pair c found.Found = found_u C code pair c
decide_find_u C code pair c found.Missing = Reply (not_found code) Nothing

unfoldable pub step_find_u : Catalogue → ℕ → Pair → ℕ → Decision
step_find_u C code pair c = decide_find_u C code pair c (look_for C pair.k c)

-- The step that finds v reads u's first-edge link, and c is the node that it leads to.
unfoldable pub found_v : Catalogue → ℕ → Ends → Decision
found_v C code ends = at_link (first_link C ends.u) Torn (λ first tag. Going (edges_place code ends first) Nothing)

abbrev pub ends_of : Pair → ℕ → ℕ → Ends
ends_of pair u v = record { pair = pair; u = u; v = v }

abbrev pub decide_find_v : Catalogue → ℕ → Pair → ℕ → ℕ → VertexFound → Decision
decide_find_v C code pair u c found.Torn = Torn
decide_find_v C code pair u c (found.Onward next) = Going (find_v_place code pair u next) Nothing
decide_find_v C code pair u c found.Found = found_v C code (ends_of pair u c)
decide_find_v C code pair u c found.Missing = Reply (not_found code) Nothing

unfoldable pub step_find_v : Catalogue → ℕ → Pair → ℕ → ℕ → Decision
step_find_v C code pair u c = decide_find_v C code pair u c (look_for C pair.l c)
