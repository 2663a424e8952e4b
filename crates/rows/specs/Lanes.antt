-- Four rows side by side: lanes of `entries` places each, from `first` on, and in each the row of a group is built.
use Rattle.std.specs.Prelude.{ℕ, ◌+◌, ◌-◌, ◌*◌, ◌^◌, ◌≤◌, ◌<◌, min, ◌≡◌, true, cond, ◌⊎◌, List, map, ltb, get_or}
use Rattle.rules.specs.Below.{list_below}
use Rattle.laws.specs.Rows.SortedRows.{doubled}
use Rattle.rows.specs.Adding.{nothing}
use Rattle.rows.specs.Cells.{cell, put, Shaped, Room, Kept}
use Rattle.rows.specs.declared.seat.Added.{Added}
use Rattle.rows.specs.declared.seat.Entries.{Entries}

-- what stands past the lanes
abbrev pub none : Entries
none = record { zero = 0; one = 0 }

-- the m entries from `start` on
abbrev pub lane : List (List ℕ) → ℕ → ℕ → List ℕ
lane table start m = map (λ i. cell table (start + i)) (list_below m (λ i. true))

-- a turn of the lane from `start` on: of t entries a came with bit 0, and the smaller of the two next ones goes to place t
abbrev pub Turned : List (List ℕ) → ℕ → ℕ → ℕ → ℕ → ℕ → List (List ℕ) → List (List ℕ) → ℕ → Type 0
Turned from start t a x y old new r =
    (new ≡ put old (start + t) (min (cell from (start + a) + x) (cell from (start + (t - a)) + y)))
    × (r ≡ a + cond (ltb (cell from (start + a) + x) (cell from (start + (t - a)) + y)) 1 0)

-- the row of lane k with one slot more, which adds `zero` or `one`
abbrev pub lane_doubled : List (List ℕ) → ℕ → ℕ → ℕ → List Entries → ℕ → List ℕ
lane_doubled from first entries m added k = doubled (get_or added k none).zero (get_or added k none).one (lane from (first + k * entries) m)

-- the sum of an entry and its mirror image in that row
abbrev pub lane_sum : List (List ℕ) → ℕ → ℕ → ℕ → List Entries → ℕ → ℕ
lane_sum from first entries m added k =
    cell from (first + k * entries + 0) + cell from (first + k * entries + (m - 1)) + ((get_or added k none).zero + (get_or added k none).one)

-- four lanes with a row of m entries each: there is room for one slot more, sums fit, and the row with it is its own mirror image
pub record Lanes (from : List (List ℕ)) (first entries m : ℕ) (added : List Entries) : Type 0 where
  pub some : 0 < m
  pub room : m + m ≤ entries
  pub place : (k : ℕ) → k < 4 → Room (first + k * entries) entries
  pub small : (k i : ℕ) → k < 4 → i < m → cell from (first + k * entries + i) + ((get_or added k none).zero + (get_or added k none).one) < 2 ^ 32
  pub mirrored : (k i : ℕ) → k < 4 → i < m
      → get_or (lane_doubled from first entries m added k) i 0 + get_or (lane_doubled from first entries m added k) (m + m - 1 - i) 0
      ≡ lane_sum from first entries m added k
  pub fits : (k : ℕ) → k < 4 → lane_sum from first entries m added k < 2 ^ 32

-- the first n entries of those rows stand in the lanes of `new`, and all before the lanes is as it was
pub record Merged (from : List (List ℕ)) (first entries m : ℕ) (added : List Entries) (old new : List (List ℕ)) (n : ℕ) : Type 0 where
  pub shaped : Shaped new
  pub kept : Kept old first new
  pub stored : (k i : ℕ) → k < 4 → i < n → cell new (first + k * entries + i) ≡ get_or (lane_doubled from first entries m added k) i 0

-- of the 2 m entries from `start` on the last t are what is left of the first t to a sum; all else is as it was
pub record Completed (old : List (List ℕ)) (start m both : ℕ) (new : List (List ℕ)) (t : ℕ) : Type 0 where
  pub shaped : Shaped new
  pub upper : (i : ℕ) → i < t → cell new (start + (m + m - 1 - i)) ≡ both - cell old (start + i)
  pub same : (p : ℕ) → (p < start + (m + m - t)) ⊎ (start + (m + m) ≤ p) → cell new p ≡ cell old p

-- what bit 0 and bit 1 of slot t add to an entry, for the first n of the four groups from `group` on
pub record FourAdd (seats : List Added) (group size t : ℕ) (added : List Entries) (n : ℕ) : Type 0 where
  pub first : (k : ℕ) → k < n → (get_or added k none).zero ≡ (get_or seats ((group + k) * size + t) nothing).zero * 256
  pub second : (k : ℕ) → k < n → (get_or added k none).one ≡ (get_or seats ((group + k) * size + t) nothing).one * 256 + 2 ^ t
