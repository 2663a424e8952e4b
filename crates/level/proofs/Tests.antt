-- What the tests of a level say, of its range and of its sign, and how large the magnitude of a 32-bit number is.
use Prim.Native.Nat.{zero, suc, ◌^◌, ◌≤◌, ◌<◌}
use mathlib.Core.Path.{◌≡◌, refl, sym, ap, ◌∙◌}
use mathlib.Core.Bool.{Bool, not, cond}
use native.Mathlib.Omega.{arith}
use lib.IntN.{ℤ, pos, negsuc, nat_abs}
use lib.Signed.{lt_z, mag}
use mir.Syntax.{w32}
use mir.Val.{SFits, to_z, of_z}
use mir.ValLaws.{to_z-of_z}
use borrow.Author.Rules.{sfits_of}
use borrow.Author.Tests.{lt-ltb, le-ltb}
use Rattle.rules.specs.Level.{in_range}
use Rattle.laws.specs.Distance.Excess.{excess}

-- what a test of a level that was read says of the level
pub tested : (z : ℤ) {r t : Bool} → mag z < 2 ^ 31 → r ≡ in_range (to_z w32 (of_z w32 z)) → not r ≡ t → not (in_range z) ≡ t
tested z small e f = ap not (ap in_range (sym (to_z-of_z w32 z (sfits_of small))) ∙ sym e) ∙ f

-- the magnitude of a 32-bit number
pub magnitude_le : (z : ℤ) → SFits w32 z → nat_abs z ≤ 2 ^ 31
magnitude_le (pos n) f = omega (arith, f.sfits)
magnitude_le (negsuc n) f = omega (arith, f.sfits)

-- what is picked for bit 0: above 0 it is the farther bit
pub picked-zero : (z : ℤ) → cond (lt_z (pos 0) z) (nat_abs z) 0 ≡ excess z 0
unfolding excess
picked-zero (pos zero) = refl
picked-zero (pos (suc m)) = rw (lt-ltb 0 (suc m) (omega arith))
picked-zero (negsuc m) = refl

-- and for bit 1: below 0 it is
pub picked_one : (z : ℤ) → cond (lt_z z (pos 0)) (nat_abs z) 0 ≡ excess z 1
unfolding excess
picked_one (pos m) = rw (le-ltb m 0 (omega arith))
picked_one (negsuc m) = refl
