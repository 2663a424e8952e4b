-- `listing::levels::block` keeps the generator's state in range.
use Rattle.std.proofs.Common.{◌<◌}
use Rattle.listing.proofs.levels.block.Given as goal

abbrev pub invariant-loop-level : goal.invariant-loop-level
invariant-loop-level l = l.state < 2147483648
