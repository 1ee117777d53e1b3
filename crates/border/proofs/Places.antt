-- What is read back is what was written down.
use mathlib.Core.Path.{◌≡◌, refl, ap}
use Rattle.catalogue.specs.declared.workers.Prev.TheVariants.{First, Edge}
use Rattle.catalogue.specs.declared.workers.Place.{Place}
use Rattle.catalogue.specs.declared.workers.Place.TheVariants.{Idle, AddV, RemV, ConV, AddEFindU, RemEFindU, ConEFindU, AddEFindV, RemEFindV, ConEFindV, AddE, RemE, ConE, Trial, TrialOpen}
use Rattle.catalogue.specs.declared.workers.Worker.{Worker}
use Rattle.border.specs.Kept.{prev_in, edge_place_in, finding_place_in, place_in, at_kind, vertex_spot, edge_spot, spot_of, worker_in, record_of}

pub place_back : (p : Place) → place_in (spot_of p) ≡ p
unfolding prev_in edge_place_in finding_place_in place_in at_kind vertex_spot edge_spot
place_back Idle = refl
place_back (AddV k p c) = refl
place_back (RemV k p c) = refl
place_back (ConV k c) = refl
place_back (AddEFindU pair c) = refl
place_back (RemEFindU pair c) = refl
place_back (ConEFindU pair c) = refl
place_back (AddEFindV pair u c) = refl
place_back (RemEFindV pair u c) = refl
place_back (ConEFindV pair u c) = refl
place_back (AddE ends First c) = refl
place_back (AddE ends (Edge e) c) = refl
place_back (RemE ends First c) = refl
place_back (RemE ends (Edge e) c) = refl
place_back (ConE ends c) = refl
place_back (Trial ends e) = refl
place_back (TrialOpen ends e x c) = refl

pub worker_back : (w : Worker) → worker_in (record_of w) ≡ w
worker_back w = ap (λ (p : Place). record { place = p; reach = w.reach }) (place_back w.place)
