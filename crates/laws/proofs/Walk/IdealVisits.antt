-- The visits at the ideal levels of a permitted word: one for each group, and one more for each group with an unfrozen index.
use Prim.Native.Nat.{ℕ, ◌+◌, ◌^◌, ◌<◌}
use Rattle.std.specs.Prelude.{◌≡◌}
use Rattle.std.proofs.Math.Bool.{true}
use Rattle.rules.specs.Below.{count_below}
use Rattle.rules.specs.Word.{codeword, permitted}
use Rattle.rules.specs.Level.{level_cost, ideal_levels}
use Rattle.rules.specs.Folding.{group, groups}
use Rattle.rules.specs.Walk.{walk_visits}
use Rattle.laws.proofs.Walk.CleanBlock.{clean_visits}
use Rattle.laws.specs.Walk.CleanBlock.{ideal-clean}
use Rattle.laws.specs.Walk.FillingCount.{has_unfrozen}

-- the visits at the ideal levels of a permitted word
pub ideal_visits : (n mask folding w : ℕ) → folding < 2 ^ n → permitted n mask w ≡ true
    → walk_visits n mask (level_cost (ideal_levels n (codeword n w))) folding
    ≡ groups n folding + count_below (groups n folding) (λ k. has_unfrozen mask (group n folding k))
ideal_visits n mask folding w = clean_visits n mask (level_cost (ideal_levels n (codeword n w))) folding w (ideal-clean n w)
