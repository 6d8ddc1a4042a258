-- What is left of the argument, behind the number read so far, says what the whole says.
use Rattle.teller.proofs.Reading.{Said}
use Rattle.teller.proofs.said.Given as goal

abbrev pub invariant-loop-character : goal.invariant-loop-character
invariant-loop-character l = Said l.argument l.character-index l.number
