-- A block in seat order, put back in index order, is block 0 put back and moved up to the group's smallest index; and what a
-- word has in common with it.
-- What rests on the statements here stands in proofs/Seats/SeatedBlocks.antt.
use Prim.Native.Nat.{ℕ, ◌+◌, ◌*◌, ◌/◌, ◌%◌, ◌^◌, ◌<◌}
use Rattle.std.specs.Prelude.{◌≡◌}
use Rattle.std.proofs.Common.{sym, ap₂, ◌∙◌, add-zero, mod-lt, mod-eq_of_lt, lt_of_le_of_lt, pow_pos}
use Rattle.std.proofs.Math.Path.{ap}
use Rattle.std.specs.Int.Bits.{bit_and, and_zero_r}
use Rattle.std.proofs.lemmas.Nat.{and_block, and_mod, and_le_r}
use Rattle.std.proofs.Math.Pow.{split}
use Rattle.std.specs.Int.Count.{ones}
use Rattle.laws.specs.Seats.SeatWords.{and-unseat, seat, unseat}
use Rattle.laws.specs.Seats.SeatedRow.{block_of}

-- the ones that a word has in common with a block, put back in index order
pub common_block : (n F : ℕ) → F < 2 ^ n → (k b w : ℕ) → b < 2 ^ (2 ^ ones F)
    → bit_and w (unseat n F (b * 2 ^ (k * 2 ^ ones F))) ≡ unseat n F (bit_and (block_of (2 ^ ones F) k (seat n F w)) b * 2 ^ (k * 2 ^ ones F))
common_block n F fits k b w small =
    and-unseat n F fits w (b * 2 ^ at) ∙ ap (unseat n F) (ap₂ bit_and (sym (split v at)) (sym (add-zero (b * 2 ^ at)))
    ∙ and_block at (v / 2 ^ at) b (v % 2 ^ at) 0 (mod-lt v (pow_pos at)) (pow_pos at)
    ∙ ap₂ (λ (x y : ℕ). x * 2 ^ at + y) own (and_zero_r (v % 2 ^ at)) ∙ add-zero _)
  where
    at : ℕ
    at = k * 2 ^ ones F

    v : ℕ
    v = seat n F w

    own : bit_and (v / 2 ^ at) b ≡ bit_and (v / 2 ^ at % 2 ^ (2 ^ ones F)) b
    own =
        sym (mod-eq_of_lt (lt_of_le_of_lt (and_le_r (v / 2 ^ at) b) small)) ∙ and_mod (v / 2 ^ at) b (2 ^ ones F)
        ∙ ap (bit_and (v / 2 ^ at % 2 ^ (2 ^ ones F))) (mod-eq_of_lt small)
