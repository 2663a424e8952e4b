-- Sums modulo 2 and the matrix map go alike in seat order and in index order.
use Rattle.std.specs.Prelude.{ℕ, ◌+◌, ◌%◌, ◌^◌, ◌<◌, ◌≡◌}
use Rattle.std.proofs.Common.{sym, ap₂, ◌∙◌}
use Rattle.std.specs.Int.Bits.{bit_xor}
use Rattle.std.proofs.lemmas.Nat.{xor_lt}
use Rattle.rules.specs.Word.{codeword}
use Rattle.laws.specs.Numbers.Bits.{bit-xor, bit_ext_below}
use Rattle.laws.specs.Code.Matrix.{codeword-lt, codeword-bit}
use Rattle.laws.specs.Seats.Seats.{seat_index}
use Rattle.laws.specs.Seats.SeatWords.{seat, unseat, seat-lt, seat-bit, unseat-lt, unseat-bit, by_seats, unseat_code_bit}

module _ (n F : ℕ) (fits : F < 2 ^ n) where
  -- sums, into seat order and out of it
  pub seat-xor : (v w : ℕ) → seat n F (bit_xor v w) ≡ bit_xor (seat n F v) (seat n F w)
  seat-xor v w = bit_ext_below (2 ^ n) (seat-lt n F _) (xor_lt (2 ^ n) _ _ (seat-lt n F v) (seat-lt n F w)) (λ p l.
      seat-bit n F (bit_xor v w) p l ∙ bit-xor v w (seat_index n F p)
      ∙ sym (bit-xor (seat n F v) (seat n F w) p ∙ ap₂ (λ (x y : ℕ). (x + y) % 2) (seat-bit n F v p l) (seat-bit n F w p l)))

  pub unseat-xor : (v w : ℕ) → unseat n F (bit_xor v w) ≡ bit_xor (unseat n F v) (unseat n F w)
  unseat-xor v w = by_seats n F fits _ _ (unseat-lt n F fits _) (xor_lt (2 ^ n) _ _ (unseat-lt n F fits v) (unseat-lt n F fits w)) (λ p l.
      unseat-bit n F fits (bit_xor v w) p l ∙ bit-xor v w p
      ∙ sym (bit-xor (unseat n F v) (unseat n F w) (seat_index n F p) ∙ ap₂ (λ (x y : ℕ). (x + y) % 2) (unseat-bit n F fits v p l) (unseat-bit n F fits w p l)))

  -- the matrix map, out of seat order
  pub unseat_code : (w : ℕ) → unseat n F (codeword n w) ≡ codeword n (unseat n F w)
  unseat_code w = by_seats n F fits _ _ (unseat-lt n F fits _) (codeword-lt n _) (λ p l.
      unseat-bit n F fits (codeword n w) p l ∙ codeword-bit n w p
      ∙ sym (codeword-bit n (unseat n F w) (seat_index n F p) ∙ unseat_code_bit n F fits w p l))
