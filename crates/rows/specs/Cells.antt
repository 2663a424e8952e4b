-- The table as one line of cells, rows of 256 each, and what stands in it while the rows are built.
use Rattle.std.specs.Prelude.{ℕ, ◌+◌, ◌*◌, ◌/◌, ◌%◌, ◌^◌, ◌≤◌, ◌<◌, min, max, ◌≡◌, ◌⊎◌, List, [], length, get_or, set}
use Rattle.laws.specs.Rows.SortedRows.{row_of}
use Rattle.rows.specs.Table.{rows_in_all, capacity}
use Rattle.rows.specs.Adding.{adds}
use Rattle.rows.specs.declared.seat.Added.{Added}

-- what stands at place p
unfoldable pub cell : List (List ℕ) → ℕ → ℕ
cell table p = get_or (get_or table (p / 256) []) (p % 256) 0

-- the table with v stored at place p
unfoldable pub put : List (List ℕ) → ℕ → ℕ → List (List ℕ)
put table p v = set table (p / 256) (set (get_or table (p / 256) []) (p % 256) v)

-- so many rows of 256
pub record Shaped (table : List (List ℕ)) : Type 0 where
  pub rows : length table ≡ rows_in_all
  pub entries : (o : ℕ) → o < rows_in_all → length (get_or table o []) ≡ 256

-- room for n cells from `start` on, all of one row
pub record Room (start n : ℕ) : Type 0 where
  pub inside : start < capacity
  pub edge : start % 256 + n ≤ 256

-- the entries of slot t under what a slot's bit adds, of which bit 1 has the pattern 2 ^ t, in order
pub record InOrder (adding : ℕ → ℕ → ℕ) (t low high : ℕ) : Type 0 where
  pub lower : low ≡ min (adding t 0 * 256) (adding t 1 * 256 + 2 ^ t)
  pub higher : high ≡ max (adding t 0 * 256) (adding t 1 * 256 + 2 ^ t)

-- `row` was stored from `start` on, and all else is as it was
pub record Placed (old : List (List ℕ)) (start : ℕ) (row : List ℕ) (new : List (List ℕ)) : Type 0 where
  pub shaped : Shaped new
  pub stored : (i : ℕ) → i < length row → cell new (start + i) ≡ get_or row i 0
  pub same : (p : ℕ) → (p < start) ⊎ (start + length row ≤ p) → cell new p ≡ cell old p

-- all before a place is as it was
abbrev pub Kept : List (List ℕ) → ℕ → List (List ℕ) → Type 0
Kept old start new = (p : ℕ) → p < start → cell new p ≡ cell old p

-- the places of the groups from `first` to before `last` begin with the rows of their first t slots
abbrev pub Built : List Added → ℕ → ℕ → ℕ → ℕ → List (List ℕ) → Type 0
Built seats size t first last table =
    (k j : ℕ) → first ≤ k → k < last → j < 2 ^ t → cell table (k * 2 ^ size + j) ≡ get_or (row_of (adds seats (k * size)) t) j 0

-- those rows were stored, and all before them is as it was
pub record Filled (seats : List Added) (size t first last : ℕ) (old new : List (List ℕ)) : Type 0 where
  pub shaped : Shaped new
  pub kept : Kept old (first * 2 ^ size) new
  pub built : Built seats size t first last new
