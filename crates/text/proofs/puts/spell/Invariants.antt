-- The loop keeps that the digits of what is left and those stored are those of the number.
use Rattle.text.proofs.Spelling.{Spelling}
use Rattle.text.proofs.puts.spell.Given as goal

abbrev pub invariant-loop-first : goal.invariant-loop-first
invariant-loop-first l = Spelling l.n l.scratch l.first l.rest
