-- The matrix map by blocks of 2 ^ f neighbouring bits: the codeword of one block stands at each block that the block's
-- number covers, and a block's codeword bits are final once it is added to the blocks above it.
use Rattle.std.specs.Prelude.{ℕ, ◌+◌, ◌-◌, ◌*◌, ◌^◌, ◌≤◌, ◌<◌, ◌≡◌, Bool}
use Rattle.std.proofs.Math.Path.{sym, ap, ap₂}
use Rattle.std.proofs.Common.{◌∙◌, mul-zero, one-mul, pow_pos, pow-add}
use Rattle.std.proofs.Math.Bool.{true, false, cond}
use Rattle.std.proofs.Math.Nat.{zero-mul, mul_comm, mul_left_comm}
use Rattle.std.proofs.Math.Pow.{pow-lt}
use Rattle.rules.specs.Below.{sum_below}
use Rattle.rules.specs.Word.{covers, code_bit, codeword}
use Rattle.laws.proofs.Codewords.Matrix.{codeword_one}
use Rattle.laws.specs.Numbers.Sums.{sum-mul, sum-zero, sum_cong}
use Rattle.laws.specs.Seats.Blocks.{all_blocks, block_code_bit, sum_blocks}

module _ (n f k : ℕ) (fits : f ≤ n) (hk : k < 2 ^ (n - f)) where
  -- a one at the start of each block that k covers
  copies : ℕ
  copies = sum_below (2 ^ (n - f)) (λ a. cond (covers a k) (2 ^ (a * 2 ^ f)) 0)

  copied : (v : ℕ) → v < 2 ^ (2 ^ f) → codeword n (v * 2 ^ (k * 2 ^ f)) ≡ codeword f v * copies
  unfolding codeword copies
  copied v hv = rw ((all_blocks n f k fits hk), sum_blocks) (sum_cong (2 ^ (n - f)) (λ a _. block a) ∙ sum-mul (2 ^ (n - f)) (codeword f v) _)
    where
      own : (a : ℕ) (c : Bool) → sum_below (2 ^ f) (λ r. cond c (code_bit f v r) 0 * (2 ^ (a * 2 ^ f) * 2 ^ r)) ≡ codeword f v * cond c (2 ^ (a * 2 ^ f)) 0
      own a true =
          sum_cong (2 ^ f) (λ r _. mul_left_comm (code_bit f v r) (2 ^ (a * 2 ^ f)) (2 ^ r)) ∙ sum-mul (2 ^ f) (2 ^ (a * 2 ^ f)) _ ∙ mul_comm _ (codeword f v)
      own a false = sum-zero (2 ^ f) (λ r _. zero-mul _) ∙ sym (mul-zero (codeword f v))

      block : (a : ℕ) → sum_below (2 ^ f) (λ r. code_bit n (v * 2 ^ (k * 2 ^ f)) (a * 2 ^ f + r) * 2 ^ (a * 2 ^ f + r)) ≡ codeword f v * cond (covers a k) (2 ^ (a * 2 ^ f)) 0
      block a = sum_cong (2 ^ f) (λ r hr. ap₂ ◌*◌ ((block_code_bit n f k fits hk) v hv a r hr) (pow-add 2 (a * 2 ^ f) r)) ∙ own a (covers a k)

  -- the codeword of a block's start: a one at the start of each block that k covers
  pub block_start : codeword n (2 ^ (k * 2 ^ f)) ≡ sum_below (2 ^ (n - f)) (λ a. cond (covers a k) (2 ^ (a * 2 ^ f)) 0)
  unfolding copies
  block_start = ap (codeword n) (sym (one-mul _)) ∙ copied 1 (pow-lt (pow_pos f)) ∙ rw (codeword_one f) (one-mul copies)

  -- the codeword of a block: its own codeword at each block that k covers
  pub block_code : (v : ℕ) → v < 2 ^ (2 ^ f) → codeword n (v * 2 ^ (k * 2 ^ f)) ≡ codeword f v * codeword n (2 ^ (k * 2 ^ f))
  unfolding copies
  block_code v hv = copied v hv ∙ ap (λ (x : ℕ). codeword f v * x) (sym block_start)
