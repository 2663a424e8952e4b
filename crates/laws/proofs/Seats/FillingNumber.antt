-- How many fillings a group has, by the frozen mask in seat order: two to what the block of the group leaves open.
use Rattle.std.specs.Prelude.{ℕ, zero, suc, ◌+◌, ◌-◌, ◌*◌, ◌/◌, ◌^◌, ◌<◌, ◌≡◌, refl, cond, List, [], ◌∷◌, eqb, length, get_or}
use Rattle.std.proofs.Common.{sym, ap, ◌∙◌, mod-lt, arith, pow_pos}
use Rattle.std.specs.Int.Count.{ones}
use Rattle.rules.specs.Below.{sum_below}
use Rattle.rules.specs.Word.{bit}
use Rattle.rules.specs.Folding.{group, groups}
use Rattle.rules.specs.Walk.{fillings}
use Rattle.laws.proofs.Seats.SeatGroups.{group-seat, group-seat-lt}
use Rattle.laws.specs.Numbers.Bits.{bit_lt_two}
use Rattle.laws.specs.Numbers.Counts.{ones-sum}
use Rattle.laws.specs.Numbers.Sums.{sum_cong}
use Rattle.laws.specs.Seats.Blocks.{block_bit}
use Rattle.laws.specs.Seats.SeatWords.{seat, seat-bit}
use Rattle.laws.specs.Seats.SeatedFillings.{sum_first}
use Rattle.laws.specs.Seats.SeatedRow.{block_of}
use Rattle.laws.specs.Walk.FillingCount.{fillings_number, unfrozen_in}
use Rattle.laws.specs.Walk.GroupSizes.{group-length}

-- the unfrozen indices and the frozen ones make up the list
unfrozen_and_frozen : (mask : ℕ) (is : List ℕ) → unfrozen_in mask is + sum_below (length is) (λ t. bit mask (get_or is t 0)) ≡ length is
unfolding unfrozen_in sum_below
unfrozen_and_frozen mask [] = refl
unfrozen_and_frozen mask (i ∷ is) =
    rw (sum_first (length is) (λ t. bit mask (get_or (i ∷ is) t 0))) (go (bit mask i) (bit_lt_two mask i) _ (unfrozen_and_frozen mask is))
  where
    go : (b : ℕ) → b < 2 → (s : ℕ) → unfrozen_in mask is + s ≡ length is → (cond (eqb b 0) 1 0 + unfrozen_in mask is) + (b + s) ≡ suc (length is)
    go zero l s e = omega arith
    go (suc zero) l s e = omega arith
    go (suc (suc b)) l s e = absurd (omega arith)

module _ (n mask F k : ℕ) (fits : F < 2 ^ n) (hk : k < groups n F) where
  -- the ones of the group's block are its frozen indices
  frozen_ones : ones (block_of (2 ^ ones F) k (seat n F mask)) ≡ sum_below (length (group n F k)) (λ t. bit mask (get_or (group n F k) t 0))
  frozen_ones =
      ones-sum (2 ^ ones F) _ (mod-lt (seat n F mask / 2 ^ (k * 2 ^ ones F)) (pow_pos (2 ^ ones F)))
      ∙ rw (group-length n F fits k hk)
      (sum_cong (2 ^ ones F) (λ t l. block_bit (2 ^ ones F) k (seat n F mask) t l
      ∙ seat-bit n F mask _ (group-seat-lt n F fits k t hk l) ∙ ap (bit mask) (sym (group-seat n F fits k t hk l))))

  -- so a group's fillings are two to what its block in seat order leaves open
  pub group-fillings : length (fillings mask (group n F k)) ≡ 2 ^ (2 ^ ones F - ones (block_of (2 ^ ones F) k (seat n F mask)))
  group-fillings = fillings_number mask (group n F k) ∙ ap (λ (m : ℕ). 2 ^ m) open_ones
    where
      open_ones : unfrozen_in mask (group n F k) ≡ 2 ^ ones F - ones (block_of (2 ^ ones F) k (seat n F mask))
      open_ones = omega (arith, unfrozen_and_frozen mask (group n F k), frozen_ones, group-length n F fits k hk)
