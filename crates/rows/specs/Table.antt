-- The table of sorted rows: 2 ^ size entries for each group, packed one after the other in rows of 256.
use Rattle.std.specs.Prelude.{ℕ, ◌+◌, ◌*◌, ◌/◌, ◌%◌, ◌^◌, true, List, [], map, get_or}
use Rattle.rules.specs.Below.{list_below}
use Rattle.rules.specs.Refusals.{largest}

-- how many rows the table has: one for each eight seats of the largest block
abbrev pub rows_in_all : ℕ
rows_in_all = 2 ^ largest / 8

-- and how many entries
abbrev pub capacity : ℕ
capacity = 256 * rows_in_all

-- entry j of the row of group k
abbrev pub entry_at : List (List ℕ) → ℕ → ℕ → ℕ → ℕ
entry_at table size k j = get_or (get_or table (k * 2 ^ size / 256) []) (k * 2 ^ size % 256 + j) 0

-- the row of group k
abbrev pub row_at : List (List ℕ) → ℕ → ℕ → List ℕ
row_at table size k = map (entry_at table size k) (list_below (2 ^ size) (λ j. true))
