-- A step down in seat order: block k is added to a word that has no ones there or below.
use Rattle.std.specs.Prelude.{ℕ, ◌*◌, ◌^◌, ◌<◌}
use Rattle.std.proofs.Common.{suc-mul, mul-le-mul_right, lt_of_lt_of_le, arith, pow_mono, shl_lt}
use Rattle.std.specs.Int.Count.{ones}
use Rattle.rules.specs.Folding.{groups}
use Rattle.laws.specs.Walk.GroupSizes.{groups_all}

module _ (n F : ℕ) (fits : F < 2 ^ n) where
  -- block k has 2 ^ n bits at most
  pub block_small : (k v : ℕ) → k < groups n F → v < 2 ^ (2 ^ ones F) → v * 2 ^ (k * 2 ^ ones F) < 2 ^ (2 ^ n)
  block_small k v hk hv = lt_of_lt_of_le (shl_lt (2 ^ ones F) (k * 2 ^ ones F) hv)
      (pow_mono (omega (arith, groups_all n F fits, suc-mul k (2 ^ ones F), mul-le-mul_right (2 ^ ones F) hk)))
