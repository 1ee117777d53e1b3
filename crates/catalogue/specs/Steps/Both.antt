-- Document 01, "The steps": the look at the marks of u and v, which ConE, AddE, RemE and the trial share.
use Rattle.std.specs.Prelude.{ℕ}
use Rattle.catalogue.specs.Catalogue.{Catalogue, vertex_link, at_mark}
use Rattle.catalogue.specs.declared.steps.BothSeen.{BothSeen}
use Rattle.catalogue.specs.declared.steps.BothSeen.TheVariants.{Torn, Dead, Standing}

-- The paragraph on TORN: u before v, and v only where u is unmarked.
unfoldable pub see_both : Catalogue → ℕ → ℕ → BothSeen
see_both C u v = at_mark (vertex_link C u) Torn Dead (at_mark (vertex_link C v) Torn Dead Standing)

abbrev pub at_both : {A : Type 0} → BothSeen → A → A → A → A
at_both Torn torn dead standing = torn
at_both Dead torn dead standing = dead
at_both Standing torn dead standing = standing
