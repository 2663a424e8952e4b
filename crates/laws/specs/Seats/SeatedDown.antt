-- A step down in seat order: block k is added to a word that has no ones there or below.
-- What rests on the statements here stands in proofs/Seats/SeatedDown.antt.
use Rattle.std.specs.Prelude.{ℕ, suc, ◌+◌, ◌-◌, ◌*◌, ◌/◌, ◌^◌, ◌≤◌, ◌<◌, ◌≡◌}
use Rattle.std.proofs.Common.{sym, ap, ◌∙◌, sub-add_cancel, arith, pow-add}
use Rattle.std.proofs.Math.Decide.{dec_lt}
use Rattle.std.proofs.lemmas.Nat.{shl-shr, ones-le}
use Rattle.std.specs.Int.Count.{ones}
use Rattle.rules.specs.Word.{bit}
use Rattle.rules.specs.Folding.{groups}
use Rattle.laws.specs.Numbers.Bits.{bit_lt_two}
use Rattle.laws.specs.Seats.Blocks.{block_above}
use Rattle.laws.specs.Seats.SeatWords.{unseat, unseat-add}

module _ (n F : ℕ) (fits : F < 2 ^ n) where
  -- the groups are the blocks of 2 ^ ones F seats
  pub groups_blocks : groups n F ≡ 2 ^ (n - ones F)
  groups_blocks =
      ap (λ (x : ℕ). 2 ^ x / 2 ^ ones F) (sym (sub-add_cancel (ones-le n F fits))) ∙ rw (pow-add 2 (n - ones F) (ones F)) (shl-shr (2 ^ (n - ones F)) (ones F))

-- a block is added to a word with no ones there or below: in index order they are added too
pub seated_down : (n F k w v : ℕ) → ((i : ℕ) → i < suc k * 2 ^ ones F → bit w i ≡ 0) → v < 2 ^ (2 ^ ones F)
    → unseat n F (w + v * 2 ^ (k * 2 ^ ones F)) ≡ unseat n F w + unseat n F (v * 2 ^ (k * 2 ^ ones F))
seated_down n F k w v clear hv = unseat-add n F w block (λ i. one i (dec_lt i (suc k * 2 ^ ones F)))
  where
    block : ℕ
    block = v * 2 ^ (k * 2 ^ ones F)

    one : (i : ℕ) → Dec (i < suc k * 2 ^ ones F) → bit w i + bit block i ≤ 1
    one i (yes l) = rw (clear i l) (omega (arith, bit_lt_two block i))
    one i (no g) = rw (block_above (2 ^ ones F) k v i hv (omega arith)) (omega (arith, bit_lt_two w i))
