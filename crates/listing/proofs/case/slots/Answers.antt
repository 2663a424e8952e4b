-- `listing::case::slots` meets its contract.
use Rattle.std.proofs.Common.{arith, pow_mono}
use Rattle.listing.proofs.case.slots.Goals as goal

pub returns : goal.returns
returns c = omega (arith, pow_mono {i = c.args.n} {j = 4} c.requires)
