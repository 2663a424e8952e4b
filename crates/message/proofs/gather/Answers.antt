-- `message::gather` meets its contract: its turn goes from indices to places.
use Rattle.std.specs.Prelude.{true}
use Rattle.std.proofs.Common.{rules}
use Rattle.message.proofs.gather.Goals as goal

pub returns : goal.returns
returns c = c.turned.ensures true (search rules)
