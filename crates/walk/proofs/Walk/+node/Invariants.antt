-- `Walk::node` calls itself one level down. The measure is the number of levels left; the loop's invariant is `Trying`.
use Rattle.word.specs.Words.{word_of}
use Rattle.walk.proofs.Trying.{Trying}
use Rattle.walk.proofs.Walk.+node.Given as goal

abbrev pub decreases-node : goal.decreases-node
decreases-node l = l.left

abbrev pub invariant-loop-e : goal.invariant-loop-e
invariant-loop-e l = Trying l.rows l.change l.self l.left l.partial (word_of l.w) l.k l.base l.fn.state l.s l.e-index
