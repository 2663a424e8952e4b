-- Document 01, "Guard": the figure of a mask.
use Rattle.std.specs.Prelude.{ℕ, ◌*◌, ◌^◌}
use Rattle.std.proofs.Math.Option.{Option, none, some}
use Rattle.std.specs.Int.Count.{ones}
use Rattle.rules.specs.Below.{least_below}
use Rattle.rules.specs.Word.{unfrozen}

-- "W the fewest one bits in an unfrozen index"; nothing where no index is unfrozen (K = 0)
abbrev pub fewest_ones : ℕ → ℕ → Option ℕ
fewest_ones n mask = least_below (2 ^ n) (unfrozen mask) ones

-- "For K > 0 the guard is 256 × 2^W"; "For K = 0 there is no guard and the answer says so."
abbrev pub guard_for : Option ℕ → Option ℕ
guard_for none = none
guard_for (some w) = some (256 * 2 ^ w)

-- the guard of a mask
unfoldable pub guard_of : ℕ → ℕ → Option ℕ
guard_of n mask = guard_for (fewest_ones n mask)
