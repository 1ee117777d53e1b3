-- The run is the definition's, and its catalogue is sound, so that its result fits the output.
use Rattle.run.proofs.Results.{printable, ran}
use Rattle.run.proofs.TurnLaws.{is_sized}
use Rattle.run.proofs.call.run_script.Goals as goal

pub print-requires : goal.print-requires
print-requires c =
    printable _ _ c.requires.is_script _ _ _ _ c.play-s.ensures.stands c.play-s.ensures.end_bound _ c.requires.output_size_in_bounds

pub returns : goal.returns
returns c =
    ran _ _ c.requires.is_script _ _ _ _ c.play-s.ensures.stands _ (is_sized _ _ c.requires.sized) _ _ c.requires.output_size_in_bounds _ c.print.ensures.value c.print.ensures.output_after
