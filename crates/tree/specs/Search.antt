-- What is left of a decoding once refusals 1 to 6 have been passed.
use Rattle.std.specs.Prelude.{ℕ, ◌^◌, ◌≤◌, ◌<◌, ◌≡◌, true, List, ℤ, length}
use Rattle.std.specs.Int.Count.{ones}
use Rattle.rules.specs.Level.{in_range, level_at}
use Rattle.rules.specs.Refusals.{Answer, answer, largest}
use Rattle.rules.specs.Orders.{search_order}
use Rattle.rules.specs.Answers.{Decoded, decoded}

-- what refusals 1, 2, 4, 5 and 6 let pass
pub record Searchable (n : ℕ) (levels : List ℤ) (folding : ℕ) : Type 0 where
  pub small : n ≤ largest
  pub long : length levels ≡ 2 ^ n
  pub fits : folding < 2 ^ n
  pub few : ones folding ≤ 3
  pub ranged : (i : ℕ) → i < 2 ^ n → in_range (level_at levels i) ≡ true

-- refusals 7 and 8, or the decoding
unfoldable pub search_answer : ℕ → List ℤ → ℕ → ℕ → ℕ → Answer Decoded
search_answer n levels mask folding allowance =
    answer (search_order n levels mask folding allowance) (decoded n levels mask folding)
