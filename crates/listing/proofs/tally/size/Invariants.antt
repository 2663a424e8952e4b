-- `listing::tally::size` meets its contract: each folding adds 2048 cases at the most.
use Rattle.std.proofs.Common.{◌*◌, ◌≤◌}
use Rattle.listing.proofs.tally.size.Given as goal

abbrev pub invariant-loop-folding : goal.invariant-loop-folding
invariant-loop-folding g l = (l.total.compared ≤ 2048 * l.folding) × (l.total.different ≤ 2048 * l.folding)
