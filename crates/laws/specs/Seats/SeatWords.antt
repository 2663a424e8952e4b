-- Words in seat order: bit p of a word in seat order is the bit at the index of seat p, and the matrix map is the same in both.
use Rattle.std.specs.Prelude.{ℕ, suc, ◌+◌, ◌*◌, ◌%◌, ◌^◌, ◌≤◌, ◌<◌, min, ◌≡◌, Bool}
use Rattle.std.proofs.Math.Path.{sym, ap, ap₂}
use Rattle.std.proofs.Common.{◌∙◌, add-mul, zero-mul, one-mul, le_refl, le_trans, le_of_lt, arith}
use Rattle.std.proofs.Math.Bool.{cond}
use Rattle.std.specs.Int.Bits.{bit_and, bit_xor}
use Rattle.std.proofs.lemmas.Nat.{and_le_r}
use Rattle.std.specs.Int.Count.{ones}
use Rattle.rules.specs.Below.{sum_below}
use Rattle.rules.specs.Word.{bit, covers, code_bit}
use Rattle.laws.specs.Numbers.Sums.{sum_cong, sum-zero, sum-single, sum-add}
use Rattle.laws.specs.Numbers.Bits.{bit_lt_two, bit-zero, bit-and, bit_pow_same, bit_pow_other, bit-add, bit_ext_below, word_lt, word_bit, small_of_bits}
use Rattle.laws.specs.Numbers.Counts.{ones-sum}
use Rattle.laws.specs.Numbers.Placed.{Apart, xor_single, placed_at, placed_other, sum_permuted}
use Rattle.laws.specs.Seats.Seats.{seat_index, seat_below, seat-covers, seat_inj, seat_onto}

-- the bits of the seats below m, at their indices
abbrev pub unseat_below : ℕ → ℕ → ℕ → ℕ → ℕ
unseat_below n F w m = sum_below m (λ p. bit w p * 2 ^ seat_index n F p)

-- the word of a word in seat order
unfoldable pub unseat : ℕ → ℕ → ℕ → ℕ
unseat n F w = unseat_below n F w (2 ^ n)

-- a word in seat order
unfoldable pub seat : ℕ → ℕ → ℕ → ℕ
seat n F w = sum_below (2 ^ n) (λ p. bit w (seat_index n F p) * 2 ^ p)

module _ (n F : ℕ) where
  -- a word in seat order has 2 ^ n bits
  pub seat-lt : (w : ℕ) → seat n F w < 2 ^ (2 ^ n)
  unfolding seat
  seat-lt w = word_lt (2 ^ n) (λ p. bit w (seat_index n F p)) (λ p _. bit_lt_two w (seat_index n F p))

  -- its bits are those at the seats' indices
  pub seat-bit : (w p : ℕ) → p < 2 ^ n → bit (seat n F w) p ≡ bit w (seat_index n F p)
  unfolding seat
  seat-bit w = word_bit (2 ^ n) (λ p. bit w (seat_index n F p)) (λ p _. bit_lt_two w (seat_index n F p))

  -- words with no common one are put in place apart
  pub unseat-add : (v w : ℕ) → ((k : ℕ) → bit v k + bit w k ≤ 1) → unseat n F (v + w) ≡ unseat n F v + unseat n F w
  unfolding unseat
  unseat-add v w h = sum_cong (2 ^ n) (λ p _. rw (bit-add v w h p) (add-mul (bit v p) (bit w p) _)) ∙ sum-add (2 ^ n) _ _

  -- word 0 is 0 in either order
  pub unseat-zero : unseat n F 0 ≡ 0
  unfolding unseat
  unseat-zero = sum-zero (2 ^ n) (λ p _. rw (bit-zero p) (zero-mul _))

  -- a single one goes to its seat's index
  pub unseat-pow : (p : ℕ) → p < 2 ^ n → unseat n F (2 ^ p) ≡ 2 ^ seat_index n F p
  unfolding unseat
  unseat-pow p l = sum-single (2 ^ n) p l (λ q _ ne. rw (bit_pow_other p q ne) (zero-mul _)) ∙ rw (bit_pow_same p) (one-mul _)

module _ (n F : ℕ) (fits : F < 2 ^ n) where
  apart : (m : ℕ) → m ≤ 2 ^ n → Apart m (seat_index n F)
  apart m l p q hp hq = seat_inj n F fits p q (le_trans hp l) (le_trans hq l)

  -- the bit at a seat's index is the seat's
  pub unseat-bit : (w p : ℕ) → p < 2 ^ n → bit (unseat n F w) (seat_index n F p) ≡ bit w p
  unfolding unseat
  unseat-bit w = placed_at (seat_index n F) (bit w) (bit_lt_two w) (2 ^ n) (apart (2 ^ n) (le_refl _))

  -- a word out of seat order has 2 ^ n bits
  pub unseat-lt : (w : ℕ) → unseat n F w < 2 ^ (2 ^ n)
  unfolding unseat
  unseat-lt w = small_of_bits (2 ^ n) _ (λ i g. placed_other (seat_index n F) (bit w) (bit_lt_two w) (2 ^ n) (apart (2 ^ n) (le_refl _)) i
      (λ p l e. omega (arith, seat_below n F fits p l)))

  -- the next seat's bit, put by `xor` at its index
  pub unseat_step : (w m : ℕ) → m < 2 ^ n → bit_xor (unseat_below n F w m) (bit w m * 2 ^ seat_index n F m) ≡ unseat_below n F w (suc m)
  unfolding sum_below
  unseat_step w m l = xor_single (unseat_below n F w m) (seat_index n F m) _
      (placed_other (seat_index n F) (bit w) (bit_lt_two w) m (apart m (le_of_lt l)) (seat_index n F m)
      (λ p h e. omega (arith, seat_inj n F fits p m (omega arith) l e))) (bit_lt_two w m)

  -- into seat order after out of it
  pub seat-unseat : (w : ℕ) → w < 2 ^ (2 ^ n) → seat n F (unseat n F w) ≡ w
  seat-unseat w h = bit_ext_below (2 ^ n) (seat-lt n F _) h (λ p l. seat-bit n F (unseat n F w) p l ∙ unseat-bit w p l)

  -- words with the same bit at each seat's index are equal
  pub by_seats : (a b : ℕ) → a < 2 ^ (2 ^ n) → b < 2 ^ (2 ^ n) → ((p : ℕ) → p < 2 ^ n → bit a (seat_index n F p) ≡ bit b (seat_index n F p)) → a ≡ b
  by_seats a b ha hb h = bit_ext_below (2 ^ n) ha hb (λ i l. let r = seat_onto n F fits i l in rw r.2 at (h r.0 r.1))

  -- out of seat order after into it
  pub unseat-seat : (w : ℕ) → w < 2 ^ (2 ^ n) → unseat n F (seat n F w) ≡ w
  unseat-seat w h = by_seats _ w (unseat-lt (seat n F w)) h (λ p l. unseat-bit (seat n F w) p l ∙ seat-bit n F w p l)

  -- an and with a word out of seat order
  pub and-unseat : (v w : ℕ) → bit_and v (unseat n F w) ≡ unseat n F (bit_and (seat n F v) w)
  and-unseat v w = by_seats _ _ (omega (arith, and_le_r v (unseat n F w), unseat-lt w)) (unseat-lt (bit_and (seat n F v) w)) (λ p l.
      bit-and v (unseat n F w) (seat_index n F p) ∙ ap₂ min (sym (seat-bit n F v p l)) (unseat-bit w p l)
      ∙ sym (bit-and (seat n F v) w p) ∙ sym (unseat-bit (bit_and (seat n F v) w) p l))

  -- as many ones in either order
  pub unseat-ones : (w : ℕ) → w < 2 ^ (2 ^ n) → ones (unseat n F w) ≡ ones w
  unseat-ones w h = ones-sum (2 ^ n) (unseat n F w) (unseat-lt w)
      ∙ sym (sum_permuted (2 ^ n) (seat_index n F) (seat_below n F fits) (apart (2 ^ n) (le_refl _)) (seat_onto n F fits) (bit (unseat n F w)))
      ∙ sum_cong (2 ^ n) (unseat-bit w) ∙ sym (ones-sum (2 ^ n) w h)

  -- the matrix map in seat order, bit by bit
  pub unseat_code_bit : (w p : ℕ) → p < 2 ^ n → code_bit n (unseat n F w) (seat_index n F p) ≡ code_bit n w p
  unfolding code_bit
  unseat_code_bit w p l = ap (λ (x : ℕ). x % 2) (
      sym (sum_permuted (2 ^ n) (seat_index n F) (seat_below n F fits) (apart (2 ^ n) (le_refl _)) (seat_onto n F fits)
      (λ j. cond (covers (seat_index n F p) j) (bit (unseat n F w) j) 0))
      ∙ sum_cong (2 ^ n) (λ q h. ap₂ (λ (t : Bool) (b : ℕ). cond t b 0) (seat-covers n F fits p q l h) (unseat-bit w q h)))
