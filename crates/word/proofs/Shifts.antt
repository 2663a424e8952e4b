-- A one shifted within the word, as the machine shifts it, is a power of two, and what is shifted past the word is lost.
use Prim.Native.Nat.{ℕ, ◌+◌, ◌-◌, ◌*◌, ◌%◌, ◌^◌, ◌≤◌, ◌<◌, min}
use mathlib.Core.Path.{◌≡◌, sym, ◌∙◌, ap}
use native.Mathlib.Nat.{mul_assoc, mul-mod_left, min-le_right}
use native.Mathlib.Omega.{arith}
use lib.Pow.{pow-add, pow_mono}
use Rattle.rules.specs.Refusals.{largest}
use Rattle.laws.specs.Numbers.Bits.{power_shifted}

-- a one within the word
pub one_shifted : (i : ℕ) → i < 64 → 1 * 2 ^ i % 2 ^ 64 ≡ 2 ^ i
one_shifted = power_shifted 64

-- what is moved past the word is a multiple of its size
pub past_word : (b i : ℕ) → 64 ≤ i → b * 2 ^ i % 2 ^ 64 ≡ 0
past_word b i h =
    let e : i ≡ (i - 64) + 64 = omega arith in
    ap (λ (k : ℕ). b * 2 ^ k % 2 ^ 64) e ∙ ap (λ (x : ℕ). b * x % 2 ^ 64) (pow-add 2 (i - 64) 64)
    ∙ ap (λ (x : ℕ). x % 2 ^ 64) (sym (mul_assoc b (2 ^ (i - 64)) (2 ^ 64)))
    ∙ mul-mod_left (b * 2 ^ (i - 64)) (2 ^ 64)

-- no n has more slots than the largest
pub slots_le : (n : ℕ) → 2 ^ min n largest ≤ 2 ^ largest
slots_le n = pow_mono (min-le_right n largest)
