-- A word whose codeword is zero in its low blocks, up to block k: block k is then the word of the pattern that the blocks
-- above force there, and a pattern of block k changes this block and none above.
use Rattle.std.specs.Prelude.{ℕ, suc, ◌+◌, ◌-◌, ◌*◌, ◌%◌, ◌^◌, ◌≤◌, ◌<◌, ◌≡◌}
use Rattle.std.proofs.Common.{sym, ap, ◌∙◌, mod-lt, lt-suc_self, arith, pow_pos}
use Rattle.std.proofs.Math.Nat.{le_dest}
use Rattle.std.proofs.Math.Arith.{digits_lt}
use Rattle.std.specs.Int.Bits.{bit_xor, xor_zero_l}
use Rattle.std.proofs.lemmas.Nat.{xor_comm, xor_lt, xor_mod, xor_shr}
use Rattle.rules.specs.Word.{bit, code_bit, codeword}
use Rattle.laws.proofs.Codewords.Matrix.{codeword_twice}
use Rattle.laws.specs.Code.Matrix.{codeword-bit, codeword-lt, codeword-xor}
use Rattle.laws.specs.Numbers.Bits.{bit-div, bit-zero, bit_ext_below, covers_refl, xor_twice}
use Rattle.laws.specs.Seats.BlankBlocks.{above_of, above_split, code_from}
use Rattle.laws.specs.Seats.Blocks.{block_below, block_bit, block_code_bit, block_decided, block_same}
use Rattle.laws.specs.Seats.SeatedRow.{block_of}

above_same : (s k w i : ℕ) → k * s ≤ i → bit (above_of s k w) i ≡ bit w i
above_same s k w i l = let r = le_dest l in rw (← r.1) (block_same s k _ r.0 ∙ bit-div w (k * s) r.0)

same_of_xor : (a b : ℕ) → bit_xor a b ≡ 0 → a ≡ b
same_of_xor a b e = sym (xor_twice a b) ∙ ap (λ (x : ℕ). bit_xor x b) e ∙ xor_zero_l b

module _ (n f k v : ℕ) (fits : f ≤ n) (hk : k < 2 ^ (n - f)) (clear : (i : ℕ) → i < suc k * 2 ^ f → bit (codeword n v) i ≡ 0) where
  abbrev forced : ℕ
  forced = block_of (2 ^ f) k (codeword n (above_of (2 ^ f) (suc k) v))

  abbrev own : ℕ
  own = block_of (2 ^ f) k v

  own_lt : own < 2 ^ (2 ^ f)
  own_lt = mod-lt _ (pow_pos (2 ^ f))

  -- the pattern that the blocks above force is the codeword of block k
  forced_is : forced ≡ codeword f own
  forced_is = same_of_xor _ _ (bit_ext_below (2 ^ f) (xor_lt (2 ^ f) _ _ (mod-lt _ (pow_pos (2 ^ f))) (codeword-lt f own)) (pow_pos (2 ^ f)) (λ t l.
      sym (block_decided n f k fits hk (above_of (2 ^ f) (suc k) v) own (block_below (2 ^ f) (suc k) _) own_lt t l)
      ∙ ap (λ (x : ℕ). code_bit n x (k * 2 ^ f + t)) (sym (above_split (2 ^ f) k v))
      ∙ code_from n _ v (k * 2 ^ f + t) (λ j g. above_same (2 ^ f) k v j (omega arith))
      ∙ sym (codeword-bit n v (k * 2 ^ f + t)) ∙ clear (k * 2 ^ f + t) (digits_lt (lt-suc_self k) l) ∙ sym (bit-zero t)))

  module _ (u : ℕ) (hu : u < 2 ^ (2 ^ f)) where
    abbrev change : ℕ
    change = codeword n (u * 2 ^ (k * 2 ^ f))

    change_block : block_of (2 ^ f) k change ≡ codeword f u
    change_block = bit_ext_below (2 ^ f) (mod-lt _ (pow_pos (2 ^ f))) (codeword-lt f u) (λ t l.
        block_bit (2 ^ f) k change t l ∙ codeword-bit n _ (k * 2 ^ f + t) ∙ block_code_bit n f k fits hk u hu k t l
        ∙ rw (covers_refl k) (sym (codeword-bit f u t)))

    -- a pattern of block k makes it the word of the pattern and the forced one together
    pub block_changed : block_of (2 ^ f) k (bit_xor v (codeword n (u * 2 ^ (k * 2 ^ f))))
        ≡ codeword f (bit_xor u (block_of (2 ^ f) k (codeword n (above_of (2 ^ f) (suc k) v))))
    block_changed =
        ap (λ (x : ℕ). x % 2 ^ (2 ^ f)) (xor_shr v change (k * 2 ^ f)) ∙ xor_mod _ _ (2 ^ f) ∙ ap (bit_xor own) change_block ∙ xor_comm own (codeword f u)
        ∙ ap (bit_xor (codeword f u)) (sym (ap (codeword f) forced_is ∙ codeword_twice f own own_lt)) ∙ sym (codeword-xor f u forced)
