-- The word of a walk: its codeword has the patterns of the groups decided so far, and zeros in those that are left. In the
-- decided groups it is the information word; a pattern of the next group changes it by a word that goes by nothing decided.
-- What rests on the statements here stands in proofs/Seats/Decided.antt.
use Rattle.std.specs.Prelude.{ℕ, suc, ◌+◌, ◌*◌, ◌/◌, ◌^◌, ◌<◌, ◌≡◌, eqb}
use Rattle.std.proofs.Common.{sym, ◌∙◌, zero-mul, mul-one, div-one, pow_pos}
use Rattle.std.proofs.Math.Nat.{zero-div}
use Rattle.std.specs.Int.Bits.{bit_and}
use Rattle.std.specs.Int.Count.{ones}
use Rattle.rules.specs.Word.{bit, codeword}
use Rattle.laws.specs.Code.Matrix.{codeword-zero}
use Rattle.laws.specs.Numbers.Bits.{bit-zero, bit_ext_below}
use Rattle.laws.specs.Seats.SeatWords.{seat, seat-bit, seat-lt, unseat, unseat-seat, unseat-zero}
use Rattle.laws.specs.Seats.SeatedRow.{block_of, filling_of}
use Rattle.laws.specs.Seats.Seats.{seat_index}

-- what a walk's word decides with so many groups left: the word without its bits in them
unfoldable pub decided : ℕ → ℕ → ℕ → ℕ → ℕ
decided n F left w = unseat n F (seat n F w / 2 ^ (left * 2 ^ ones F) * 2 ^ (left * 2 ^ ones F))

-- the codeword is zero in the groups that are left
abbrev pub Blank : ℕ → ℕ → ℕ → ℕ → Type 0
Blank n F left w = (i : ℕ) → i < left * 2 ^ ones F → bit (codeword n (seat n F w)) i ≡ 0

-- what a pattern of group k changes in the word: the word whose codeword has this pattern in group k and zeros elsewhere
abbrev pub change_of : ℕ → ℕ → ℕ → ℕ → ℕ
change_of n F k u = codeword n (unseat n F (u * 2 ^ (k * 2 ^ ones F)))

-- the indices of group k that are frozen
abbrev pub shut_of : ℕ → ℕ → ℕ → ℕ → ℕ
shut_of n F mask k = unseat n F (block_of (2 ^ ones F) k (seat n F mask) * 2 ^ (k * 2 ^ ones F))

-- with no group left the word decides itself
pub decided_all : (n F : ℕ) → F < 2 ^ n → (w : ℕ) → w < 2 ^ (2 ^ n) → decided n F 0 w ≡ w
unfolding decided
decided_all n F fits w l = rw (zero-mul (2 ^ ones F), div-one (seat n F w), mul-one (seat n F w)) (unseat-seat n F fits w l)

pub seat_none : (n F : ℕ) → seat n F 0 ≡ 0
seat_none n F = bit_ext_below (2 ^ n) (seat-lt n F 0) (pow_pos (2 ^ n)) (λ p l. seat-bit n F 0 p l ∙ bit-zero (seat_index n F p) ∙ sym (bit-zero p))

-- word 0 decides nothing
pub decided_none : (n F left : ℕ) → decided n F left 0 ≡ 0
unfolding decided
decided_none n F left =
    rw (seat_none n F, zero-div (2 ^ (left * 2 ^ ones F)), zero-mul (2 ^ (left * 2 ^ ones F))) (unseat-zero n F)

-- and its codeword is zero everywhere
pub blank_none : (n F left : ℕ) → Blank n F left 0
blank_none n F left i l = rw (seat_none n F, codeword-zero n) (bit-zero i)

-- what it is to change the word w by the entry e of group k's row, which has the pattern e % 256
pub record Filled (n mask F k w e next : ℕ) : Type 0 where
  pub small : next < 2 ^ (2 ^ n)
  pub left : Blank n F k next
  pub adds : decided n F k next
      ≡ decided n F (suc k) w + unseat n F (filling_of (block_of (2 ^ ones F) k (codeword n (seat n F (decided n F (suc k) w)))) e * 2 ^ (k * 2 ^ ones F))
  pub free : eqb (bit_and next (shut_of n F mask k)) 0
      ≡ eqb (bit_and (filling_of (block_of (2 ^ ones F) k (codeword n (seat n F (decided n F (suc k) w)))) e) (block_of (2 ^ ones F) k (seat n F mask))) 0
