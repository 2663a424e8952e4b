-- A node's candidates in seat order: the entries of its group's sorted row whose fillings have no frozen bit. A row goes by what
-- the bits of its slots cost more than the nearer ones, in units of 1024; the branch has the cost of the nearer bits beside it.
-- What rests on the statements here stands in proofs/Seats/SeatedRow.antt.
use Prim.Native.Nat.{ℕ, ◌+◌, ◌*◌, ◌/◌, ◌%◌, ◌^◌}
use Rattle.std.specs.Prelude.{Bool, cond, eqb}
use mathlib.Core.List.{List, [], ◌∷◌}
use Rattle.std.specs.Int.Bits.{bit_and, bit_xor}
use Rattle.rules.specs.Word.{codeword}
use Rattle.rules.specs.Walk.{Candidate}
use Rattle.laws.specs.Seats.SeatWords.{unseat}

-- block k of a word in seat order, with s bits in a block
abbrev pub block_of : ℕ → ℕ → ℕ → ℕ
block_of s k w = w / 2 ^ (k * s) % 2 ^ s

-- the filling that a row's entry asks for, where the groups above force the pattern `forced` on an empty filling
abbrev pub filling_of : ℕ → ℕ → ℕ
filling_of forced e = codeword 3 (bit_xor (e % 256) forced)

-- it has no frozen bit
abbrev pub is_open : ℕ → ℕ → ℕ → Bool
is_open shut forced e = eqb (bit_and (filling_of forced e) shut) 0

-- the branch of a row's entry, in a group whose nearer bits cost so much
abbrev pub branch_of : ℕ → ℕ → ℕ
branch_of near e = near + 1024 * (e / 256)

-- the candidate of a row's entry
unfoldable pub entry_candidate : ℕ → ℕ → ℕ → ℕ → ℕ → ℕ → ℕ → Candidate
entry_candidate n F s k near forced e =
    record { filling = unseat n F (filling_of forced e * 2 ^ (k * s)); pattern = e % 256; branch = branch_of near e }

-- the candidates of a row's entries, in the row's order
unfoldable pub entry_candidates : ℕ → ℕ → ℕ → ℕ → ℕ → ℕ → ℕ → List ℕ → List Candidate
entry_candidates n F s k near forced shut [] = []
entry_candidates n F s k near forced shut (e ∷ es) =
    let others = entry_candidates n F s k near forced shut es in
    cond (is_open shut forced e) (entry_candidate n F s k near forced e ∷ others) others
