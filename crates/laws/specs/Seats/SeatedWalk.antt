-- The walk over sorted rows in seat order is document 01's walk.
-- What rests on the statements here stands in proofs/Seats/SeatedWalk.antt.
use Prim.Native.Nat.{ℕ, ◌^◌}
use mathlib.Core.List.{List}
use Rattle.std.specs.Int.Count.{ones}
use Rattle.rules.specs.Word.{codeword}
use Rattle.rules.specs.Walk.{Candidate}
use Rattle.laws.specs.Seats.SeatWords.{seat}
use Rattle.laws.specs.Seats.SeatedRow.{block_of, entry_candidates}

-- the candidates of group k after the word d, from what the group's nearer bits cost and from its row
unfoldable pub seated_candidates : ℕ → ℕ → ℕ → (ℕ → ℕ) → (ℕ → List ℕ) → ℕ → ℕ → List Candidate
seated_candidates n mask F bases rows k d =
    entry_candidates n F (2 ^ ones F) k (bases k) (block_of (2 ^ ones F) k (codeword n (seat n F d)))
    (block_of (2 ^ ones F) k (seat n F mask)) (rows k)
