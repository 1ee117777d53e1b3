-- The one test is that of the definition, on the request of the same place.
use Rattle.steps.proofs.Decisions.{asked}
use Rattle.catalogue.specs.Steps.Decide.{decide_at}
use Rattle.steps.proofs.decide.decide_at.Goals as goal

pub returns-then-key_refused : goal.returns-then-key_refused
unfolding decide_at
returns-then-key_refused c = search asked

pub returns : goal.returns
unfolding decide_at
returns c = search asked
