-- A word whose codeword is zero in its low blocks, up to block k: block k is then the word of the pattern that the blocks
-- above force there, and a pattern of block k changes this block and none above.
-- What rests on the statements here stands in proofs/Seats/BlankBlocks.antt.
use Rattle.std.specs.Prelude.{ℕ, suc, ◌+◌, ◌-◌, ◌*◌, ◌/◌, ◌%◌, ◌^◌, ◌≤◌, ◌<◌, ◌≡◌, refl, Bool, true, false, cond}
use Rattle.std.proofs.Common.{sym, ap, ◌∙◌, add_comm, suc-mul, add-mul, mul_assoc, mul_comm, le_trans, pow-add, shl_lt, shr-shr}
use Rattle.std.proofs.Math.Nat.{div-eq_of_lt}
use Rattle.std.proofs.Math.Pow.{split}
use Rattle.std.specs.Int.Bits.{bit_xor, xor_zero_r}
use Rattle.std.proofs.lemmas.Nat.{xor_shr}
use Rattle.rules.specs.Word.{bit, covers, code_bit, codeword}
use Rattle.laws.specs.Code.Matrix.{codeword-bit, codeword-zero}
use Rattle.laws.specs.Numbers.Bits.{bit-zero, bit_beyond, covers-le, small_of_bits}
use Rattle.laws.specs.Numbers.Sums.{sum_cong}
use Rattle.laws.specs.Seats.SeatedRow.{block_of}

-- a word without the bits of its blocks below k
abbrev pub above_of : ℕ → ℕ → ℕ → ℕ
above_of s k w = w / 2 ^ (k * s) * 2 ^ (k * s)

-- a bit of a codeword goes by the word's bits from there on
pub code_from : (n a b i : ℕ) → ((j : ℕ) → i ≤ j → bit a j ≡ bit b j) → code_bit n a i ≡ code_bit n b i
unfolding code_bit
code_from n a b i h = ap (λ (x : ℕ). x % 2) (sum_cong (2 ^ n) (λ j l. go j (covers i j) refl))
  where
    go : (j : ℕ) (t : Bool) → covers i j ≡ t → cond t (bit a j) 0 ≡ cond t (bit b j) 0
    go j true e = h j (covers-le i j e)
    go j false e = refl

-- so a codeword is no longer than its word
code_within : (n m d : ℕ) → d < 2 ^ m → codeword n d < 2 ^ m
code_within n m d l = small_of_bits m _ (λ i g.
    codeword-bit n d i ∙ code_from n d 0 i (λ j h. bit_beyond l (le_trans g h) ∙ sym (bit-zero j))
    ∙ sym (codeword-bit n 0 i) ∙ rw (codeword-zero n) (bit-zero i))

-- block k apart from those above it
pub above_split : (s k w : ℕ) → above_of s k w ≡ above_of s (suc k) w + block_of s k w * 2 ^ (k * s)
above_split s k w =
    rw (suc-mul k s, ← shr-shr w (k * s) s, pow-add 2 (k * s) s)
    (ap (λ (x : ℕ). x * 2 ^ (k * s)) (sym (split q s)) ∙ add-mul _ _ _
    ∙ ap (λ (x : ℕ). x + q % 2 ^ s * 2 ^ (k * s)) (mul_assoc _ _ _ ∙ ap (λ (x : ℕ). q / 2 ^ s * x) (mul_comm _ _)))
  where
    q : ℕ
    q = w / 2 ^ (k * s)

module _ (n f k v : ℕ) (fits : f ≤ n) (hk : k < 2 ^ (n - f)) (clear : (i : ℕ) → i < suc k * 2 ^ f → bit (codeword n v) i ≡ 0) where
  module _ (u : ℕ) (hu : u < 2 ^ (2 ^ f)) where
    abbrev change : ℕ
    change = codeword n (u * 2 ^ (k * 2 ^ f))

    -- and leaves the blocks above
    pub above_unchanged : above_of (2 ^ f) (suc k) (bit_xor v (codeword n (u * 2 ^ (k * 2 ^ f)))) ≡ above_of (2 ^ f) (suc k) v
    above_unchanged =
        let small : change < 2 ^ (suc k * 2 ^ f) = code_within n (suc k * 2 ^ f) _ (rw (suc-mul k (2 ^ f), add_comm (k * 2 ^ f) (2 ^ f)) (shl_lt (2 ^ f) (k * 2 ^ f) hu)) in
        ap (λ (x : ℕ). x * 2 ^ (suc k * 2 ^ f)) (xor_shr v change (suc k * 2 ^ f) ∙ rw (div-eq_of_lt small) (xor_zero_r _))
