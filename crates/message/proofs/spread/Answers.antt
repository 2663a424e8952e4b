-- `message::spread` meets its contract: its turn goes from places to indices.
use Rattle.std.specs.Prelude.{false}
use Rattle.std.proofs.Common.{rules}
use Rattle.message.proofs.spread.Goals as goal

pub returns : goal.returns
returns c = c.turned.ensures false (search rules)
