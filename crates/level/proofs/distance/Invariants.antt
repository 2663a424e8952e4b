-- `level::distance` meets its contract. Invariant: the slots before this one are in range, and the sum is that of their costs.
use Rattle.word.specs.Words.{word_of}
use Rattle.level.proofs.Measuring.{SoFar}
use Rattle.level.proofs.distance.Given as goal

abbrev pub invariant-loop-slot : goal.invariant-loop-slot
invariant-loop-slot l = SoFar l.levels (word_of l.x) l.slot l.sum
