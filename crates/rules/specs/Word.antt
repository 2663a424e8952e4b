-- Document 01, "Words and matrix": bits, the matrix rule, the frozen mask, messages.
-- A word is a number; N = 2 ^ n is the number of slots.
use Rattle.std.specs.Prelude.{ℕ, zero, suc, ◌*◌, ◌/◌, ◌%◌, ◌^◌, Bool, ◌&&◌, ◌||◌, cond, ltb, eqb}
use Rattle.std.specs.Int.Bits.{bit_and}
use Rattle.rules.specs.Below.{sum_below, count_below, all_below}

-- "Bit i of a 64-bit word stands for index i."
abbrev pub bit : ℕ → ℕ → ℕ
bit w i = w / 2 ^ i % 2

-- "every one bit of i is also one in j"
abbrev pub covers : ℕ → ℕ → Bool
covers i j = eqb (bit_and i j) i

-- "x_i is the sum modulo 2 of all d_j such that every one bit of i is also one in j."
unfoldable pub code_bit : ℕ → ℕ → ℕ → ℕ
code_bit n d i = sum_below (2 ^ n) (λ j. cond (covers i j) (bit d j) 0) % 2

-- the codeword x of the information word d: the word of those bits
unfoldable pub codeword : ℕ → ℕ → ℕ
codeword n d = sum_below (2 ^ n) (λ i. code_bit n d i * 2 ^ i)

-- "F = [[1,1],[0,1]]": row, then column
abbrev pub matrix_f : ℕ → ℕ → ℕ
matrix_f zero j = 1
matrix_f (suc i) zero = 0
matrix_f (suc i) (suc j) = 1

-- "This is F^(⊗n)": the entry at row i and column j of F ⊗ (F^(⊗n)), by blocks
unfoldable pub kronecker : ℕ → ℕ → ℕ → ℕ
kronecker zero i j = 1
kronecker (suc n) i j = matrix_f (i / 2 ^ n) (j / 2 ^ n) * kronecker n (i % 2 ^ n) (j % 2 ^ n)

-- "The frozen mask has a one at each frozen index"
abbrev pub unfrozen : ℕ → ℕ → Bool
unfrozen mask i = eqb (bit mask i) 0

-- "d is zero there": d is a word of N bits with a zero at each frozen index
unfoldable pub permitted : ℕ → ℕ → ℕ → Bool
permitted n mask d = ltb d (2 ^ (2 ^ n)) && all_below (2 ^ n) (λ i. unfrozen mask i || eqb (bit d i) 0)

-- "K is the number of unfrozen indices."
abbrev pub message_bits : ℕ → ℕ → ℕ
message_bits n mask = count_below (2 ^ n) (unfrozen mask)

-- "bit 0 goes to the smallest unfrozen index, bit 1 to the next, and so on": the message bit that index i gets
abbrev pub place : ℕ → ℕ → ℕ
place mask i = count_below i (unfrozen mask)

-- the information word of a message
unfoldable pub spread : ℕ → ℕ → ℕ → ℕ
spread n mask message = sum_below (2 ^ n) (λ i. cond (unfrozen mask i) (bit message (place mask i) * 2 ^ i) 0)

-- the message of an information word
unfoldable pub gather : ℕ → ℕ → ℕ → ℕ
gather n mask d = sum_below (2 ^ n) (λ i. cond (unfrozen mask i) (bit d i * 2 ^ place mask i) 0)
