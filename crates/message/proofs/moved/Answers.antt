-- `message::moved` meets its contract: a bit shifted within the word loses nothing.
use native.Mathlib.Omega.{arith}
use lib.Pow.{shl_exact}
use Rattle.message.proofs.moved.Goals as goal

pub returns : goal.returns
returns c = rw c.from.ensures (shl_exact 1 c.args.i 64 c.requires.0 (omega (arith, c.requires.1)))
