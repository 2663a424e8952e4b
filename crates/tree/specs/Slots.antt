-- What the slots of a block give, in seat order: the levels at the seats, what each bit costs more than the nearer one there, and
-- what the nearer bits of each group cost.
use Rattle.std.specs.Prelude.{ℕ, ◌+◌, ◌*◌, ◌^◌, ◌≤◌, ◌<◌, ◌≡◌, true, List, ◌⊎◌, ℤ, length, get_or}
use Rattle.rules.specs.Below.{sum_below}
use Rattle.rules.specs.Level.{in_range, level_at}
use Rattle.rules.specs.Refusals.{largest}
use Rattle.laws.specs.Distance.Excess.{excess, nearest}
use Rattle.laws.specs.Rows.SortedRows.{row_of}
use Rattle.rows.specs.Table.{entry_at}
use Rattle.rows.specs.Adding.{nothing}
use Rattle.rows.specs.declared.seat.Added.{Added}

-- the level at a seat
abbrev pub seat_level : List ℤ → List ℕ → ℕ → ℤ
seat_level levels index seat = level_at levels (get_or index seat 0)

-- count seats from the first one on: each has an index with a level, and that level is in range
pub record Levelled (levels : List ℤ) (index : List ℕ) (first count : ℕ) : Type 0 where
  pub within : first + count ≤ 2 ^ largest
  pub held : (t : ℕ) → t < count → get_or index (first + t) 0 < length levels
  pub ranged : (t : ℕ) → t < count → in_range (seat_level levels index (first + t)) ≡ true

-- what the nearer bits of the first t slots of a group cost
abbrev pub near_sum : List ℤ → List ℕ → ℕ → ℕ → ℕ
near_sum levels index first t = sum_below t (λ i. nearest (seat_level levels index (first + i)))

-- a seat has what the bits of its slot cost more
abbrev pub SeatGives : List ℤ → List ℕ → List Added → ℕ → Type 0
SeatGives levels index seats seat =
    ((get_or seats seat nothing).zero ≡ excess (seat_level levels index seat) 0)
    × ((get_or seats seat nothing).one ≡ excess (seat_level levels index seat) 1)

-- of the group whose first seat is given, the first t slots are in the list, all else in it is as it was, and their nearer bits
-- cost so much
pub record GroupGives (levels : List ℤ) (index : List ℕ) (first : ℕ) (seats₀ : List Added) (t : ℕ) (seats : List Added) (near : ℕ) : Type 0 where
  pub own : (i : ℕ) → i < t → SeatGives levels index seats (first + i)
  pub other : (seat : ℕ) → (seat < first) ⊎ (first + t ≤ seat) → get_or seats seat nothing ≡ get_or seats₀ seat nothing
  pub long : length seats ≡ 2 ^ largest
  pub sum : near ≡ near_sum levels index first t

-- all slots of so many groups are in the list, and what the nearer bits of each group cost
pub record Gives (levels : List ℤ) (index : List ℕ) (groups size : ℕ) (seats : List Added) (near : List ℕ) : Type 0 where
  pub own : (seat : ℕ) → seat < groups * size → SeatGives levels index seats seat
  pub long : length seats ≡ 2 ^ largest
  pub sums : (k : ℕ) → k < groups → get_or near k 0 ≡ near_sum levels index (k * size) size

-- the table has the sorted row of each group by what its bits cost more, and the list what its nearer bits cost
pub record Ranked (levels : List ℤ) (index : List ℕ) (groups size : ℕ) (table : List (List ℕ)) (near : List ℕ) : Type 0 where
  pub rows : (k j : ℕ) → k < groups → j < 2 ^ size
      → entry_at table size k j ≡ get_or (row_of (λ t b. excess (seat_level levels index (k * size + t)) b) size) j 0
  pub sums : (k : ℕ) → k < groups → get_or near k 0 ≡ near_sum levels index (k * size) size
