-- `listing::tally::size` meets its contract: there are 16 foldings at the most.
use Rattle.std.proofs.Common.{◌^◌, ◌≤◌, arith, pow_mono}
use Rattle.listing.proofs.tally.size.Goals as goal

pub returns : goal.returns
returns g c =
    let size : 2 ^ c.args.n ≤ 16 = pow_mono {i = c.args.n} {j = 4} c.requires.small in
    let end = c.loop-folding.auto.folding-end in
    (omega (arith, c.loop-folding.invariant.0, end), omega (arith, c.loop-folding.invariant.1, end))
