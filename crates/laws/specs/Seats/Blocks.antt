-- The matrix map by blocks of 2 ^ f neighbouring bits: the codeword of one block stands at each block that the block's
-- number covers, and a block's codeword bits are final once it is added to the blocks above it.
-- What rests on the statements here stands in proofs/Seats/Blocks.antt.
use Rattle.std.specs.Prelude.{ℕ, zero, suc, ◌+◌, ◌-◌, ◌*◌, ◌/◌, ◌%◌, ◌^◌, ◌≤◌, ◌<◌, min, ◌≡◌, ◌≢◌, Bool, ◌&&◌}
use Rattle.std.proofs.Math.Path.{refl, sym, ap, ap₂}
use Rattle.std.proofs.Common.{◌∙◌, suc-mul, sub-add_cancel, mul-le-mul_right, add-zero, arith, pow_pos, pow-add, shl_lt}
use Rattle.std.proofs.Math.Bool.{true, false, cond}
use Rattle.std.proofs.Math.Nat.{zero-mul}
use Rattle.std.proofs.Math.Decide.{dec_lt}
use Rattle.std.proofs.Math.Arith.{digits_lt}
use Rattle.std.specs.Int.Bits.{bit_xor, xor_disjoint}
use Rattle.rules.specs.Below.{sum_below}
use Rattle.rules.specs.Word.{bit, covers, code_bit, codeword}
use Rattle.laws.specs.Code.Matrix.{code_bit_xor, codeword-bit}
use Rattle.laws.specs.Numbers.Bits.{bit-and, bit-div, bit-mod, bit-xor, bit-zero, bit_beyond, bit_ext, bit_high, bit_low, covers_block, covers_refl}
use Rattle.laws.specs.Numbers.Sums.{sum-single, sum-zero, sum_cong, sum_split}

-- a sum block by block
pub sum_blocks : (L s : ℕ) (g : ℕ → ℕ) → sum_below (L * s) g ≡ sum_below L (λ a. sum_below s (λ r. g (a * s + r)))
unfolding sum_below
sum_blocks zero s g = rw (zero-mul s)
sum_blocks (suc L) s g = rw (suc-mul L s, sum_split (L * s) s g, sum_blocks L s g)

-- the bits of a word that is block k alone
pub block_same : (s k v t : ℕ) → bit (v * 2 ^ (k * s)) (k * s + t) ≡ bit v t
block_same s k v t = rw add-zero at (bit_high v (k * s) (pow_pos (k * s)) t)

-- the bits of a word's block k are the word's
pub block_bit : (s k w t : ℕ) → t < s → bit (w / 2 ^ (k * s) % 2 ^ s) t ≡ bit w (k * s + t)
block_bit s k w t l = bit-mod (w / 2 ^ (k * s)) s t l ∙ bit-div w (k * s) t

-- no bit below block k is one
pub block_below : (s k v i : ℕ) → i < k * s → bit (v * 2 ^ (k * s)) i ≡ 0
block_below s k v i l = rw add-zero at (bit_low v (k * s) (pow_pos (k * s)) i l) ∙ bit-zero i

-- nor any above it
pub block_above : (s k v i : ℕ) → v < 2 ^ s → suc k * s ≤ i → bit (v * 2 ^ (k * s)) i ≡ 0
block_above s k v i hv l = bit_beyond (shl_lt s (k * s) hv) (omega (arith, suc-mul k s))

-- no other block has a one
pub block_other : (s k v b t : ℕ) → v < 2 ^ s → t < s → b ≢ k → bit (v * 2 ^ (k * s)) (b * s + t) ≡ 0
block_other s k v b t hv ht n = go (dec_lt b k)
  where
    go : Dec (b < k) → bit (v * 2 ^ (k * s)) (b * s + t) ≡ 0
    go (yes l) = block_below s k v (b * s + t) (digits_lt l ht)
    go (no g) = block_above s k v (b * s + t) hv (omega (arith, mul-le-mul_right {m = suc k} {n = b} s (omega arith)))

module _ (n f k : ℕ) (fits : f ≤ n) (hk : k < 2 ^ (n - f)) where
  pub all_blocks : 2 ^ n ≡ 2 ^ (n - f) * 2 ^ f
  all_blocks = ap (λ (x : ℕ). 2 ^ x) (sym (sub-add_cancel fits)) ∙ pow-add 2 (n - f) f

  -- the codeword of a block, bit by bit: the block's own at each block that k covers
  pub block_code_bit : (v : ℕ) → v < 2 ^ (2 ^ f) → (a r : ℕ) → r < 2 ^ f
      → code_bit n (v * 2 ^ (k * 2 ^ f)) (a * 2 ^ f + r) ≡ cond (covers a k) (code_bit f v r) 0
  unfolding code_bit
  block_code_bit v hv a r hr =
      rw (all_blocks, sum_blocks)
      (ap (λ (x : ℕ). x % 2) (sum-single (2 ^ (n - f)) k hk (λ b _ ne. sum-zero (2 ^ f) (λ t ht. none b t (covers (a * 2 ^ f + r) (b * 2 ^ f + t)) (block_other (2 ^ f) k v b t hv ht ne)))
      ∙ sum_cong (2 ^ f) (λ t ht. ap₂ (λ (c : Bool) (b : ℕ). cond c b 0) (covers_block f a k r t hr ht) (block_same (2 ^ f) k v t)))
      ∙ own (covers a k))
    where
      none : (b t : ℕ) (c : Bool) → bit (v * 2 ^ (k * 2 ^ f)) (b * 2 ^ f + t) ≡ 0 → cond c (bit (v * 2 ^ (k * 2 ^ f)) (b * 2 ^ f + t)) 0 ≡ 0
      none b t true e = e
      none b t false e = refl

      own : (c : Bool) → sum_below (2 ^ f) (λ t. cond (c && covers r t) (bit v t) 0) % 2 ≡ cond c (code_bit f v r) 0
      own true = refl
      own false = ap (λ (x : ℕ). x % 2) (sum-zero (2 ^ f) (λ t ht. refl))

  module _ (w v : ℕ) (clear : (i : ℕ) → i < suc k * 2 ^ f → bit w i ≡ 0) (hv : v < 2 ^ (2 ^ f)) where
    -- block k is added to a word that has no ones there or below
    block_xor : w + v * 2 ^ (k * 2 ^ f) ≡ bit_xor w (v * 2 ^ (k * 2 ^ f))
    block_xor = sym (xor_disjoint w (v * 2 ^ (k * 2 ^ f)) (bit_ext (λ i. bit-and w (v * 2 ^ (k * 2 ^ f)) i ∙ go i (dec_lt i (suc k * 2 ^ f)) ∙ sym (bit-zero i))))
      where
        go : (i : ℕ) → Dec (i < suc k * 2 ^ f) → min (bit w i) (bit (v * 2 ^ (k * 2 ^ f)) i) ≡ 0
        go i (yes l) = rw (clear i l) (omega arith)
        go i (no g) = rw (block_above (2 ^ f) k v i hv (omega arith)) (omega arith)

    -- the block's codeword bits are those of the blocks above, changed by the block's own codeword
    pub block_decided : (t : ℕ) → t < 2 ^ f
        → code_bit n (w + v * 2 ^ (k * 2 ^ f)) (k * 2 ^ f + t) ≡ bit (bit_xor (codeword n w / 2 ^ (k * 2 ^ f) % 2 ^ (2 ^ f)) (codeword f v)) t
    block_decided t ht =
        rw (block_xor, code_bit_xor n w (v * 2 ^ (k * 2 ^ f)) (k * 2 ^ f + t), block_code_bit v hv k t ht, covers_refl k)
        (ap₂ (λ (x y : ℕ). (x + y) % 2) (sym above) (sym (codeword-bit f v t)) ∙ sym (bit-xor (codeword n w / 2 ^ (k * 2 ^ f) % 2 ^ (2 ^ f)) (codeword f v) t))
      where
        above : bit (codeword n w / 2 ^ (k * 2 ^ f) % 2 ^ (2 ^ f)) t ≡ code_bit n w (k * 2 ^ f + t)
        above = block_bit (2 ^ f) k (codeword n w) t ht ∙ codeword-bit n w (k * 2 ^ f + t)
