-- The sizes of a block: what the test of an assembler says of its n and of the slots counted for it.
use Prim.Native.Nat.{ℕ, ◌^◌, ◌≤◌}
use mathlib.Core.Path.{◌≡◌}
use mathlib.Core.Bool.{false}
use lib.Dec.{ltb}
use lib.Pow.{pow_mono}
use Rattle.rules.specs.Refusals.{is_wrong_size}
use Rattle.laws.specs.Answers.Sizes.{or_left, size-le}
use Rattle.word.specs.Words.{size_of}
use Rattle.word.specs.Sizes.{slots_right}
use Rattle.light.specs.Values.{room}
use Rattle.light.specs.Steps.{is_wrong}

module _ (n filled : ℕ) (right : is_wrong n filled ≡ false) where
  -- the slots counted are N
  pub slots_are : (slots : ℕ) → slots ≡ 2 ^ size_of n → slots ≡ 2 ^ n
  slots_are = slots_right n (or_left (is_wrong_size n) (ltb (2 ^ n) filled) right)

  -- they have room
  pub in_room : 2 ^ n ≤ room
  in_room = pow_mono (size-le n (or_left (is_wrong_size n) (ltb (2 ^ n) filled) right))
