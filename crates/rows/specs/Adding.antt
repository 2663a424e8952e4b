-- What the bits of each slot add to an entry, and the table of the sorted rows that they make.
use Rattle.std.specs.Prelude.{ℕ, zero, suc, ◌+◌, ◌*◌, ◌^◌, ◌≤◌, ◌<◌, ◌≡◌, List, get_or}
use Rattle.std.proofs.Common.{pow_pos}
use Rattle.rules.specs.Refusals.{largest}
use Rattle.laws.specs.Rows.SlotsInGroup.{GroupSize}
use Rattle.laws.specs.Rows.SortedRows.{row_of}
use Rattle.rows.specs.Bound.{most_bits}
use Rattle.rows.specs.Table.{entry_at}
use Rattle.rows.specs.declared.seat.Added.{Added}

-- groups of 1, 2, 4 or 8 slots, with no more seats than the largest block has
pub record Sized (groups size : ℕ) : Type 0 where
  pub shape : GroupSize size
  pub seats : groups * size ≤ 2 ^ largest

-- what stands past the seats
abbrev pub nothing : Added
nothing = record { zero = 0; one = 0; small = (pow_pos most_bits, pow_pos most_bits) }

-- what bit b adds in slot t of the group whose first seat is given
abbrev pub adds : List Added → ℕ → ℕ → ℕ → ℕ
adds seats first t zero = (get_or seats (first + t) nothing).zero
adds seats first t (suc b) = (get_or seats (first + t) nothing).one

-- the table's row of each group is the sorted row of what its slots add
unfoldable pub RowsRight : List Added → ℕ → ℕ → List (List ℕ) → Type 0
RowsRight seats groups size table =
    (k j : ℕ) → k < groups → j < 2 ^ size → entry_at table size k j ≡ get_or (row_of (adds seats (k * size)) size) j 0
