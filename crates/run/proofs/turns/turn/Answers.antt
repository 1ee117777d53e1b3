-- A busy worker steps and its answer is recorded; an idle one takes up its next request.
use Rattle.workers.proofs.CheckLaws.{worker_below}
use Rattle.std.proofs.Common.{rules}
use Rattle.run.proofs.turns.turn.Goals as goal

pub worker_at-w-requires : goal.worker_at-w-requires
worker_at-w-requires c = search (worker_below, rules)
