-- The matrix map of document 01: its bits, linear over exclusive or, by halves, its own inverse, and F^(⊗n).
-- What rests on the statements here stands in proofs/Codewords/Matrix.antt.
use Rattle.std.specs.Prelude.{ℕ, zero, suc, ◌+◌, ◌*◌, ◌/◌, ◌%◌, ◌^◌, ◌≤◌, ◌<◌, ◌≡◌, refl, Bool, true, false, ◌&&◌, cond}
use Rattle.std.proofs.Common.{sym, ap, ap₂, ◌∙◌, zero-add, mod-lt, one-add, arith, pow_pos, shr_lt}
use Rattle.std.proofs.Math.Nat.{add-mod, two-pow-succ, le_dest}
use Rattle.std.proofs.Math.Decide.{dec_lt}
use Rattle.std.proofs.Math.Arith.{lt-one}
use Rattle.std.proofs.Math.Pow.{split}
use Rattle.std.specs.Int.Bits.{bit_xor, xor_self}
use Rattle.rules.specs.Below.{sum_below}
use Rattle.rules.specs.Word.{bit, covers, code_bit, codeword, matrix_f, kronecker}
use Rattle.laws.specs.Numbers.Bits.{bit-div, bit-mod, bit-xor, bit_beyond, bit_ext, bit_high, bit_low, bit_lt_two, covers-le, covers_block, word_bit, word_lt}
use Rattle.laws.specs.Numbers.Sums.{sum-add, sum-zero, sum_cong, sum_parity, sum_some, sum_split}

-- what index j of the word d adds to x_i
abbrev taken : ℕ → ℕ → ℕ → ℕ
taken i d j = cond (covers i j) (bit d j) 0

-- a bit of a codeword is 0 or 1
pub code_bit_lt : (n d i : ℕ) → code_bit n d i < 2
unfolding code_bit
code_bit_lt n d i = omega arith

-- a codeword has 2 ^ n bits
pub codeword-lt : (n d : ℕ) → codeword n d < 2 ^ (2 ^ n)
unfolding codeword
codeword-lt n d = word_lt (2 ^ n) (code_bit n d) (λ i l. code_bit_lt n d i)

-- no index below 2 ^ n covers one beyond
code_bit_beyond : (n d i : ℕ) → 2 ^ n ≤ i → code_bit n d i ≡ 0
unfolding code_bit
code_bit_beyond n d i l = ap (λ (x : ℕ). x % 2) (sum-zero (2 ^ n) (λ j h. go j h (covers i j) refl))
  where
    go : (j : ℕ) → j < 2 ^ n → (t : Bool) → covers i j ≡ t → cond t (bit d j) 0 ≡ 0
    go j h true e = omega (arith, covers-le i j e)
    go j h false e = refl

-- the bits of a codeword are document 01's x_i: beyond 2 ^ n both are 0
pub codeword-bit : (n d i : ℕ) → bit (codeword n d) i ≡ code_bit n d i
unfolding codeword
codeword-bit n d i = go (dec_lt i (2 ^ n))
  where
    go : Dec (i < 2 ^ n) → bit (codeword n d) i ≡ code_bit n d i
    go (yes l) = word_bit (2 ^ n) (code_bit n d) (λ j h. code_bit_lt n d j) i l
    go (no g) = bit_beyond (codeword-lt n d) (omega arith) ∙ sym (code_bit_beyond n d i (omega arith))

-- a one of a codeword has an index that is covered by that of a one of the word
pub code_one : (n d i : ℕ) → bit (codeword n d) i ≡ 1 → (j : ℕ) × (bit d j ≡ 1) × (covers i j ≡ true)
unfolding code_bit
code_one n d i e = let r = sum_some (2 ^ n) (taken i d) (omega (arith, codeword-bit n d i)) in go r.0 (covers i r.0) refl r.2
  where
    go : (j : ℕ) (t : Bool) → covers i j ≡ t → 0 < cond t (bit d j) 0 → (j : ℕ) × (bit d j ≡ 1) × (covers i j ≡ true)
    go j true c l = (j, omega (arith, bit_lt_two d j), c)
    go j false c l = absurd (omega arith)

taken-xor : (i a b j : ℕ) → taken i (bit_xor a b) j ≡ (taken i a j + taken i b j) % 2
taken-xor i a b j = go (covers i j)
  where
    go : (t : Bool) → cond t (bit (bit_xor a b) j) 0 ≡ (cond t (bit a j) 0 + cond t (bit b j) 0) % 2
    go true = bit-xor a b j
    go false = refl

-- each bit of the map is linear over exclusive or
pub code_bit_xor : (n a b i : ℕ) → code_bit n (bit_xor a b) i ≡ (code_bit n a i + code_bit n b i) % 2
unfolding code_bit
code_bit_xor n a b i =
    ap (λ (x : ℕ). x % 2) (sum_cong (2 ^ n) (λ j l. taken-xor i a b j)) ∙ sum_parity (2 ^ n) (λ j. taken i a j + taken i b j)
    ∙ ap (λ (x : ℕ). x % 2) (sum-add (2 ^ n) (taken i a) (taken i b)) ∙ add-mod (sum_below (2 ^ n) (taken i a)) (sum_below (2 ^ n) (taken i b)) 2

-- the map is linear over exclusive or
pub codeword-xor : (n a b : ℕ) → codeword n (bit_xor a b) ≡ bit_xor (codeword n a) (codeword n b)
codeword-xor n a b = bit_ext (λ i. codeword-bit n (bit_xor a b) i ∙ code_bit_xor n a b i
    ∙ ap₂ (λ (x y : ℕ). (x + y) % 2) (sym (codeword-bit n a i)) (sym (codeword-bit n b i)) ∙ sym (bit-xor (codeword n a) (codeword n b) i))

-- only the low 2 ^ n bits of a word count
code_bit_low : (n d i : ℕ) → code_bit n (d % 2 ^ (2 ^ n)) i ≡ code_bit n d i
unfolding code_bit
code_bit_low n d i =
    ap (λ (x : ℕ). x % 2) (sum_cong (2 ^ n) (λ j l. ap (λ (b : ℕ). cond (covers i j) b 0) (bit-mod d (2 ^ n) j l)))

abbrev upper : ℕ → ℕ → ℕ
upper n d = d / 2 ^ (2 ^ n)

module _ (n i j : ℕ) (hi : i < 2 ^ n) (hj : j < 2 ^ n) where
  from_half : (a b : ℕ) → covers (a * 2 ^ n + i) (b * 2 ^ n + j) ≡ (covers a b && covers i j)
  from_half a b = covers_block n a b i j hi hj

  lower_upper : covers i (2 ^ n + j) ≡ covers i j
  lower_upper = let p : 0 * 2 ^ n + i ≡ i = omega arith in let q : 1 * 2 ^ n + j ≡ 2 ^ n + j = omega arith in rw (p, q) at (from_half 0 1)

  upper_lower : covers (2 ^ n + i) j ≡ false
  upper_lower = let p : 1 * 2 ^ n + i ≡ 2 ^ n + i = omega arith in let q : 0 * 2 ^ n + j ≡ j = omega arith in rw (p, q) at (from_half 1 0)

  upper-upper : covers (2 ^ n + i) (2 ^ n + j) ≡ covers i j
  upper-upper = let p : 1 * 2 ^ n + i ≡ 2 ^ n + i = omega arith in let q : 1 * 2 ^ n + j ≡ 2 ^ n + j = omega arith in rw (p, q) at (from_half 1 1)

-- x_i by halves: the lower slots
code_bit_lower : (n d i : ℕ) → i < 2 ^ n → code_bit (suc n) d i ≡ (code_bit n d i + code_bit n (upper n d) i) % 2
unfolding code_bit
code_bit_lower n d i h =
    rw (two-pow-succ n, sum_split)
    (ap (λ (x : ℕ). (sum_below (2 ^ n) (taken i d) + x) % 2) (sum_cong (2 ^ n) (λ j l.
    ap₂ (λ (t : Bool) (b : ℕ). cond t b 0) (lower_upper n i j h l) (sym (bit-div d (2 ^ n) j))))
    ∙ add-mod (sum_below (2 ^ n) (taken i d)) (sum_below (2 ^ n) (taken i (upper n d))) 2)

-- x_i by halves: the upper slots
code_bit_upper : (n d i : ℕ) → code_bit (suc n) d (2 ^ n + i) ≡ code_bit n (upper n d) i
unfolding code_bit
code_bit_upper n d i = go (dec_lt i (2 ^ n))
  where
    go : Dec (i < 2 ^ n) → code_bit (suc n) d (2 ^ n + i) ≡ code_bit n (upper n d) i
    go (no g) = code_bit_beyond (suc n) d (2 ^ n + i) (omega (arith, two-pow-succ n)) ∙ sym (code_bit_beyond n (upper n d) i (omega arith))
    go (yes h) =
        rw (two-pow-succ n, sum_split, sum-zero (2 ^ n) (λ j l. ap (λ (t : Bool). cond t (bit d j) 0) (upper_lower n i j h l)))
        (ap (λ (x : ℕ). (0 + x) % 2) (sum_cong (2 ^ n) (λ j l.
        ap₂ (λ (t : Bool) (b : ℕ). cond t b 0) (upper-upper n i j h l) (sym (bit-div d (2 ^ n) j))))
        ∙ ap (λ (x : ℕ). x % 2) (zero-add (sum_below (2 ^ n) (taken i (upper n d)))))

-- the map by halves
pub codeword-halves : (n d : ℕ)
    → codeword (suc n) d ≡ codeword n (d / 2 ^ (2 ^ n)) * 2 ^ (2 ^ n) + codeword n (bit_xor (d % 2 ^ (2 ^ n)) (d / 2 ^ (2 ^ n)))
codeword-halves n d = bit_ext (λ i. go i (dec_lt i (2 ^ n)))
  where
    lo : ℕ
    lo = d % 2 ^ (2 ^ n)

    rest : ℕ
    rest = codeword n (bit_xor lo (upper n d))

    below : (i : ℕ) → i < 2 ^ n → code_bit (suc n) d i ≡ code_bit n (bit_xor lo (upper n d)) i
    below i l = code_bit_lower n d i l
        ∙ ap (λ (x : ℕ). (x + code_bit n (upper n d) i) % 2) (sym (code_bit_low n d i)) ∙ sym (code_bit_xor n lo (upper n d) i)

    go : (i : ℕ) → Dec (i < 2 ^ n) → bit (codeword (suc n) d) i ≡ bit (codeword n (upper n d) * 2 ^ (2 ^ n) + rest) i
    go i (yes l) = codeword-bit (suc n) d i ∙ below i l
        ∙ sym (bit_low (codeword n (upper n d)) (2 ^ n) (codeword-lt n (bit_xor lo (upper n d))) i l ∙ codeword-bit n (bit_xor lo (upper n d)) i)
    go i (no g) =
        let r = le_dest {n = 2 ^ n} {m = i} (omega arith) in
        rw (← r.1) (codeword-bit (suc n) d (2 ^ n + r.0) ∙ code_bit_upper n d r.0
        ∙ sym (bit_high (codeword n (upper n d)) (2 ^ n) (codeword-lt n (bit_xor lo (upper n d))) r.0 ∙ codeword-bit n (upper n d) r.0))

-- the map of 0
pub codeword-zero : (n : ℕ) → codeword n 0 ≡ 0
codeword-zero n = codeword-xor n 0 0 ∙ xor_self (codeword n 0)

F_covers : (a b : ℕ) → a < 2 → b < 2 → matrix_f a b ≡ cond (covers a b) 1 0
F_covers zero zero ha hb = refl
F_covers zero (suc zero) ha hb = refl
F_covers (suc zero) zero ha hb = refl
F_covers (suc zero) (suc zero) ha hb = refl
F_covers zero (suc (suc b)) ha hb = absurd (omega arith)
F_covers (suc zero) (suc (suc b)) ha hb = absurd (omega arith)
F_covers (suc (suc a)) b ha hb = absurd (omega arith)

-- the entry of F^(⊗n) at row i and column j is 1 where j covers i, and 0 elsewhere
pub kronecker-covers : (n i j : ℕ) → i < 2 ^ n → j < 2 ^ n → kronecker n i j ≡ cond (covers i j) 1 0
unfolding kronecker
kronecker-covers zero i j hi hj = rw (lt-one hi)
kronecker-covers (suc n) i j hi hj =
    rw (
      F_covers (i / 2 ^ n) (j / 2 ^ n) (shr_lt 1 n (rw (← one-add n) at hi)) (shr_lt 1 n (rw (← one-add n) at hj)),
      kronecker-covers n (i % 2 ^ n) (j % 2 ^ n) (mod-lt i (pow_pos n)) (mod-lt j (pow_pos n)),
    )
    (both (covers (i / 2 ^ n) (j / 2 ^ n)) (covers (i % 2 ^ n) (j % 2 ^ n)) ∙ ap (λ (t : Bool). cond t 1 0) whole)
  where
    both : (s t : Bool) → cond s 1 0 * cond t 1 0 ≡ cond (s && t) 1 0
    both true true = refl
    both true false = refl
    both false true = refl
    both false false = refl

    whole : (covers (i / 2 ^ n) (j / 2 ^ n) && covers (i % 2 ^ n) (j % 2 ^ n)) ≡ covers i j
    whole = sym (covers_block n (i / 2 ^ n) (j / 2 ^ n) (i % 2 ^ n) (j % 2 ^ n) (mod-lt i (pow_pos n)) (mod-lt j (pow_pos n)))
        ∙ ap₂ covers (split i n) (split j n)
