-- Document 01, "The steps", the paragraph on ConE.
use Rattle.std.specs.Prelude.{ℕ, eqb, ltb}
use Rattle.std.specs.Int.Signed.{lt_z}
use Rattle.catalogue.specs.Tests.{pick, eq_z}
use Rattle.catalogue.specs.Numbers.{edge_pool, added}
use Rattle.catalogue.specs.Catalogue.{Catalogue, edge_key, edge_link, edge_target, at_link, at_target}
use Rattle.catalogue.specs.Steps.Both.{see_both, at_both}
use Rattle.catalogue.specs.declared.workers.Ends.{Ends}
use Rattle.catalogue.specs.declared.workers.Place.TheVariants.{ConE}
use Rattle.catalogue.specs.declared.writes.Write.TheVariants.{Nothing}
use Rattle.catalogue.specs.declared.steps.Decision.{Decision}
use Rattle.catalogue.specs.declared.steps.Decision.TheVariants.{Torn, Going, Reply}

-- At an edge with the key l: 1 if it is ADDED, leads to v, and u and v are unmarked, asked in this order; else 8.
unfoldable pub settle_contains_edge : Catalogue → Ends → ℕ → Decision
settle_contains_edge C ends c =
    at_link (edge_link C c) Torn (λ next tag.
    pick (eqb tag added)
    (at_target (edge_target C c) Torn (λ y.
    pick (eqb y ends.v)
    (at_both (see_both C ends.u ends.v) Torn (Reply 8 Nothing) (Reply 1 Nothing))
    (Reply 8 Nothing)))
    (Reply 8 Nothing))

unfoldable pub step_contains_edge : Catalogue → Ends → ℕ → Decision
step_contains_edge C ends c =
    pick (ltb c edge_pool)
    (pick (lt_z (edge_key C c) ends.pair.l) (at_link (edge_link C c) Torn (λ next tag. Going (ConE ends next) Nothing))
    (pick (eq_z (edge_key C c) ends.pair.l) (settle_contains_edge C ends c) (Reply 8 Nothing)))
    Torn
