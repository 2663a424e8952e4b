-- A word by halves, as the machine takes it apart and puts it together.
use Rattle.std.specs.Prelude.{ℕ, ◌+◌, ◌*◌, ◌/◌, ◌%◌, ◌^◌, ◌≤◌, ◌<◌, ◌≡◌}
use Rattle.std.proofs.Common.{sym, ap₂, ◌∙◌, add-one, arith, mod-lt, pow_pos, shr_lt}
use Rattle.std.proofs.Math.Nat.{lt_of_lt_of_le, mod-eq_of_lt, two-pow-succ}
use Rattle.std.proofs.Math.Pow.{pow_mono}
use Rattle.std.proofs.lemmas.Nat.{xor_lt}
use Rattle.std.specs.Int.Bits.{bit_xor}
use Rattle.rules.specs.Refusals.{largest}
use Rattle.rules.specs.Word.{codeword}
use Rattle.laws.specs.Code.Matrix.{codeword-halves, codeword-lt}
use Rattle.laws.specs.Numbers.Bits.{power_shifted}

-- halves of 2 ^ n bits
module _ (n : ℕ) (small : n < largest) where
  -- the number of their bits, as the machine shifts it
  pub half_shifted : 1 * 2 ^ n % 2 ^ 32 ≡ 2 ^ n
  half_shifted = power_shifted 32 n (omega (arith, small))

  half_small : 2 ^ n ≤ 32
  half_small = pow_mono {i = n} {j = 5} (omega (arith, small))

  pub shift_small : 1 * 2 ^ n % 2 ^ 32 < 64
  shift_small = omega (arith, half_shifted, half_small)

  -- how many words there are of so many bits
  pub half_words : 1 * 2 ^ (2 ^ n) % 2 ^ 64 ≡ 2 ^ 2 ^ n
  half_words = power_shifted 64 (2 ^ n) (omega (arith, half_small))

  module _ (w : ℕ) (fits : w < 2 ^ 2 ^ (n + 1)) where
    upper_fits : w / 2 ^ 2 ^ n < 2 ^ 2 ^ n
    upper_fits = shr_lt (2 ^ n) (2 ^ n) (rw (add-one, two-pow-succ) at fits)

    -- the halves that the machine makes fit
    pub machine_upper : w / 2 ^ (1 * 2 ^ n % 2 ^ 32) < 2 ^ 2 ^ n
    machine_upper = rw half_shifted upper_fits

    pub machine_sum : bit_xor (w % (1 * 2 ^ (1 * 2 ^ n % 2 ^ 32) % 2 ^ 64)) (w / 2 ^ (1 * 2 ^ n % 2 ^ 32)) < 2 ^ 2 ^ n
    machine_sum = rw (half_shifted, half_words) (xor_lt (2 ^ n) _ _ (mod-lt w (pow_pos (2 ^ n))) upper_fits)

    module _ (upper lower : ℕ) (is_upper : upper ≡ codeword n (w / 2 ^ (1 * 2 ^ n % 2 ^ 32)))
        (is_lower : lower ≡ codeword n (bit_xor (w % (1 * 2 ^ (1 * 2 ^ n % 2 ^ 32) % 2 ^ 64)) (w / 2 ^ (1 * 2 ^ n % 2 ^ 32)))) where
      -- their codewords make the codeword of the word
      joined : upper * 2 ^ 2 ^ n + lower ≡ codeword (n + 1) w
      joined =
          rw add-one
          (ap₂ (λ (x y : ℕ). x * 2 ^ 2 ^ n + y) (rw half_shifted at is_upper) (rw (half_shifted, half_words) at is_lower)
          ∙ sym (codeword-halves n w))

      whole_fits : upper * 2 ^ 2 ^ n + lower < 2 ^ 64
      whole_fits =
          let short : codeword (n + 1) w < 2 ^ 64 =
          lt_of_lt_of_le (codeword-lt (n + 1) w) (pow_mono {i = 2 ^ (n + 1)} {j = 64} (pow_mono {i = n + 1} {j = 6} (omega (arith, small))))
          in
          omega (arith, joined, short)

      -- and the machine shifts the upper one without loss
      upper_shifted : upper * 2 ^ 2 ^ n % 2 ^ 64 ≡ upper * 2 ^ 2 ^ n
      upper_shifted = mod-eq_of_lt (omega (arith, whole_fits))

      pub machine_fits : upper * 2 ^ (1 * 2 ^ n % 2 ^ 32) % 2 ^ 64 + lower < 2 ^ 64
      machine_fits = rw (half_shifted, upper_shifted) whole_fits

      pub machine_joined : upper * 2 ^ (1 * 2 ^ n % 2 ^ 32) % 2 ^ 64 + lower ≡ codeword (n + 1) w
      machine_joined = rw (half_shifted, upper_shifted) joined
