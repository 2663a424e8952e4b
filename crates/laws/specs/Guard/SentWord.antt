-- Demand 3: below the guard the least word is the word sent; at the guard it need not be.
-- What rests on the statements here stands in proofs/Guard/SentWord.antt.
use Rattle.std.specs.Prelude.{ℕ, ◌^◌, ◌<◌, ◌≡◌, ◌≢◌, true, List, ℤ, length}
use Rattle.rules.specs.Word.{permitted, gather}
use Rattle.rules.specs.Level.{in_range, level_at, level_cost, Least}
use Rattle.laws.specs.Guard.Margin.{total_moved}

-- a permitted word, and levels in range moved from it by the guard, at which word 0 is the least word, with another message
pub record LostAtGuard (n mask g : ℕ) : Type 0 where
  pub sent : ℕ
  pub levels : List ℤ
  pub allowed : permitted n mask sent ≡ true
  pub long : length levels ≡ 2 ^ n
  pub ranged : (i : ℕ) → i < 2 ^ n → in_range (level_at levels i) ≡ true
  pub moved : total_moved n levels sent ≡ g
  pub least : Least n mask (level_cost levels) 0
  pub other : gather n mask sent ≢ gather n mask 0
