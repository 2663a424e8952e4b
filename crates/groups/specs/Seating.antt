-- What the steps that build the seats ask of the indices so far, and what a list of seats holds.
use Rattle.std.specs.Prelude.{ℕ, ◌*◌, ◌^◌, ◌≤◌, ◌<◌, List, ◌≡◌, length, get_or, take}
use Rattle.rules.specs.Below.{count_below}
use Rattle.rules.specs.Refusals.{largest}
use Rattle.laws.specs.Seats.Seats.{has_bit, seats}

-- the first m of a list are at most c
abbrev pub AtMost : List ℕ → ℕ → ℕ → Type 0
AtMost l m c = (q : ℕ) → q < m → get_or l q 0 ≤ c

-- m indices can be widened by each bit of the folding below n that has the value wanted
pub record WidensBy (l : List ℕ) (m n folding wanted : ℕ) : Type 0 where
  pub long : length l ≡ 2 ^ largest
  pub room : m * 2 ^ count_below n (has_bit folding wanted) ≤ 2 ^ largest
  pub small : AtMost l m 1024
  pub few : n ≤ largest

-- a list holds the index at each seat
pub record Seated (l : List ℕ) (n folding : ℕ) : Type 0 where
  pub few : n ≤ largest
  pub fits : folding < 2 ^ n
  pub listed : take (2 ^ n) l ≡ seats n folding
