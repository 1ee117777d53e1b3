-- Where a link that the code took apart leads, and where a walk goes on, lies in its pool.
use Prim.Native.Nat.{ℕ, ◌<◌}
use mathlib.Core.Path.{◌≡◌, sym, ◌∙◌, subst}
use Rattle.catalogue.specs.Numbers.{edge_tail}
use Rattle.catalogue.specs.Catalogue.{edge_link_in, first_link_in, at_link}
use Rattle.std.proofs.Common.{Option, Some}
use Rattle.catalogue.specs.declared.links.Link.{Link}
use Rattle.laws.proofs.Leads.{edge_next_in, first_next_in, edge_goes}

-- a link that the code took apart
module _ (words : ℕ → ℕ) (n : ℕ) (l : Link ℕ) (r : Option (Link ℕ)) where
  pub edge_to : r ≡ edge_link_in words n → r ≡ Some l → l.next < 2048
  edge_to e q = edge_next_in words n l.next l.tag (sym e ∙ q)

  pub first_to : r ≡ first_link_in words n → r ≡ Some l → l.next < 2048
  first_to e q = first_next_in words n l.next l.tag (sym e ∙ q)

-- where a walk goes on
pub edge_on : (words : ℕ → ℕ) (n y : ℕ) → y ≡ at_link (edge_link_in words n) edge_tail (λ next tag. next) → y < 2048
edge_on words n y q = subst (λ (m : ℕ). m < 2048) (sym q) (edge_goes words n)
