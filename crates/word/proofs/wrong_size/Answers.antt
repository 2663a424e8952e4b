-- `word::wrong_size` meets its contract.
use borrow.Author.Tests.{lt-ltb, le-ltb}
use Rattle.word.proofs.wrong_size.Goals as goal

pub returns-then-n-lt1 : goal.returns-then-n-lt1
returns-then-n-lt1 c = simp (lt-ltb _ _ c.if-n-lt1.true)

pub returns-else-n-lt1 : goal.returns-else-n-lt1
returns-else-n-lt1 c = simp (le-ltb c.args.n 1 c.if-n-lt1.false)
