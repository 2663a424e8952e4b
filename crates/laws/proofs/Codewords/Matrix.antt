-- The matrix map of document 01: its bits, linear over exclusive or, by halves, its own inverse, and F^(⊗n).
use Rattle.std.specs.Prelude.{ℕ, zero, suc, ◌+◌, ◌*◌, ◌/◌, ◌%◌, ◌^◌, ◌≤◌, ◌<◌, ◌≡◌, refl, Bool, true, false, cond}
use Rattle.std.proofs.Common.{sym, ap, ◌∙◌, add-zero, mul-lt-mul_of_pos_right, mod-lt, lt_of_lt_of_le, mod-eq_of_lt, arith, pow_pos, pow_mono, pow-add, shr_lt}
use Rattle.std.proofs.Math.Nat.{two-pow-succ, div-eq_of_lt}
use Rattle.std.proofs.Math.Decide.{le_ind}
use Rattle.std.proofs.Math.Pow.{high, low, split}
use Rattle.std.specs.Int.Bits.{bit_xor, xor_zero_l, xor_zero_r}
use Rattle.rules.specs.Below.{sum_below}
use Rattle.rules.specs.Word.{bit, covers, code_bit, codeword, kronecker}
use Rattle.laws.specs.Code.Matrix.{codeword-halves, codeword-lt, codeword-xor, codeword-zero, kronecker-covers}
use Rattle.laws.specs.Numbers.Bits.{xor_twice}
use Rattle.laws.specs.Numbers.Sums.{sum_cong}

-- the map is its own inverse
pub codeword_twice : (n d : ℕ) → d < 2 ^ (2 ^ n) → codeword n (codeword n d) ≡ d
unfolding codeword code_bit sum_below
codeword_twice zero zero h = refl
codeword_twice zero (suc zero) h = refl
codeword_twice zero (suc (suc d)) h = absurd (omega arith)
codeword_twice (suc n) d h =
    rw (
      codeword-halves n d,
      codeword-halves n (H * 2 ^ (2 ^ n) + L),
      high H (2 ^ n) small,
      low H (2 ^ n) small,
      codeword_twice n hi (shr_lt (2 ^ n) (2 ^ n) (rw (two-pow-succ n) at h)),
      ← codeword-xor n (bit_xor lo hi) hi,
      xor_twice lo hi,
      codeword_twice n lo (mod-lt d (pow_pos (2 ^ n))),
    ) (split d (2 ^ n))
  where
    hi : ℕ
    hi = d / 2 ^ (2 ^ n)

    lo : ℕ
    lo = d % 2 ^ (2 ^ n)

    H : ℕ
    H = codeword n hi

    L : ℕ
    L = codeword n (bit_xor lo hi)

    small : L < 2 ^ (2 ^ n)
    small = codeword-lt n (bit_xor lo hi)

-- a short word has one codeword at every n that holds it
pub codeword_longer : (n m d : ℕ) → n ≤ m → d < 2 ^ (2 ^ n) → codeword m d ≡ codeword n d
codeword_longer n m d l h = le_ind (λ (k : ℕ). codeword k d ≡ codeword n d) refl (λ k g e. step k (lt_of_lt_of_le h (pow_mono (pow_mono g))) ∙ e) m l
  where
    step : (k : ℕ) → d < 2 ^ (2 ^ k) → codeword (suc k) d ≡ codeword k d
    step k small = codeword-halves k d ∙ rw (div-eq_of_lt small, mod-eq_of_lt small, codeword-zero k, xor_zero_r d) (omega arith)

-- word 1 is its own codeword
pub codeword_one : (n : ℕ) → codeword n 1 ≡ 1
unfolding codeword code_bit sum_below
codeword_one n = codeword_longer 0 n 1 (omega arith) (omega arith)

-- a short word moved into the upper half has its codeword in both halves
pub codeword-moved : (n m d : ℕ) → n < m → d < 2 ^ (2 ^ n) → codeword m (d * 2 ^ (2 ^ n)) ≡ codeword m d + codeword m d * 2 ^ (2 ^ n)
codeword-moved n m d l h =
    codeword_longer (suc n) m (d * 2 ^ (2 ^ n)) l (rw (two-pow-succ n, pow-add 2 (2 ^ n) (2 ^ n)) (mul-lt-mul_of_pos_right h (pow_pos (2 ^ n))))
    ∙ ap (codeword (suc n)) (sym (add-zero (d * 2 ^ (2 ^ n)))) ∙ codeword-halves n (d * 2 ^ (2 ^ n) + 0)
    ∙ rw (high d (2 ^ n) (pow_pos (2 ^ n)), low d (2 ^ n) (pow_pos (2 ^ n)), xor_zero_l d, codeword_longer n m d (omega arith) h) (omega arith)

-- the map is the product with F^(⊗n), modulo 2
pub code_bit_kronecker : (n d i : ℕ) → i < 2 ^ n → code_bit n d i ≡ sum_below (2 ^ n) (λ j. kronecker n i j * bit d j) % 2
unfolding code_bit
code_bit_kronecker n d i h = ap (λ (x : ℕ). x % 2) (sum_cong (2 ^ n) (λ j l. rw (kronecker-covers n i j h l) (go j (covers i j))))
  where
    go : (j : ℕ) (t : Bool) → cond t (bit d j) 0 ≡ cond t 1 0 * bit d j
    go j true = omega arith
    go j false = omega arith
