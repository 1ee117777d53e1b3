-- Whether a step refuses the keys of the request that its place belongs to.
use mathlib.Core.Bool.{Bool}
use mathlib.Core.Path.{◌≡◌, refl, sym, ◌∙◌, ap}
use Rattle.catalogue.specs.Workers.{request_of}
use Rattle.catalogue.specs.Steps.Places.{key_refused}
use Rattle.catalogue.specs.declared.workers.Place.{Place}
use Rattle.catalogue.specs.declared.workers.Request.{Request}
use Rattle.laws.proofs.Ways.{on_true, on_false}

pub asked_is : (place : Place) (q : Request) (r t : Bool) → q ≡ request_of place → r ≡ key_refused q → r ≡ t → key_refused (request_of place) ≡ t
asked_is place q r t e f g = ap key_refused (sym e) ∙ sym f ∙ g

pub ruleset asked = (on_true, on_false, refl, asked_is)
