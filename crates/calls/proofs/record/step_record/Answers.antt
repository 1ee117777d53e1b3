-- What was decided is written, kept in the record and answered.
use Rattle.calls.proofs.Stepping.{record_step, written_is}
use Rattle.calls.proofs.record.step_record.Goals as goal

pub commit-requires : goal.commit-requires
commit-requires c = search record_step

pub record_after-worker-requires : goal.record_after-worker-requires
record_after-worker-requires c = search record_step

pub returns-clause-value : goal.returns-clause-value
returns-clause-value c = search record_step

pub returns-clause-hold : goal.returns-clause-hold
returns-clause-hold c = written_is _ c.args.w _ _ _ _ c.decide-d.ensures c.write_of-write.ensures c.commit.ensures
