-- `listing::tally::folded` meets its contract: no more cases differ than there were turns.
use Rattle.std.proofs.Common.{◌≤◌}
use Rattle.listing.proofs.tally.folded.Given as goal

abbrev pub invariant-loop-block : goal.invariant-loop-block
invariant-loop-block g l = l.different ≤ l.block
