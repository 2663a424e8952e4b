-- The margin at received levels.
use Rattle.std.specs.Prelude.{ℕ, ◌+◌, ◌*◌, ◌≤◌, ◌≡◌, ◌≢◌, true, List, ℤ}
use Rattle.std.proofs.Math.Option.{some}
use Rattle.rules.specs.Word.{bit, codeword, permitted}
use Rattle.rules.specs.Level.{level_at, level_cost, word_distance}
use Rattle.rules.specs.Guard.{guard_of}
use Rattle.laws.proofs.Guard.Margin.{margin, slot_apart}
use Rattle.laws.specs.Guard.Margin.{moved, total_moved}
use Rattle.laws.specs.Numbers.Bits.{bit_lt_two}

-- the margin at received levels
pub level_margin : (n mask g : ℕ) → guard_of n mask ≡ some g → (levels : List ℤ) (s d : ℕ)
    → permitted n mask s ≡ true → permitted n mask d ≡ true → d ≢ s
    → word_distance n (level_cost levels) s + 1024 * g ≤ word_distance n (level_cost levels) d + 1024 * total_moved n levels s
level_margin n mask g e levels s d ps pd z =
    margin n mask g e (level_cost levels) (moved n levels s) s d ps pd z
    (λ i l b. slot_apart (level_at levels i) (bit (codeword n s) i) b (bit_lt_two (codeword n s) i))
