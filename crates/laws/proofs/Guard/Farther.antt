-- Demand 3, its step: below the guard every other permitted word is farther than the one sent.
use Rattle.std.specs.Prelude.{ℕ, ◌<◌, ◌≡◌, ◌≢◌, true, List, ℤ}
use Rattle.std.proofs.Common.{sym, ap, ◌∙◌, arith}
use Rattle.std.proofs.Math.Option.{some}
use Rattle.rules.specs.Word.{permitted, spread, gather}
use Rattle.rules.specs.Level.{level_cost, word_distance}
use Rattle.rules.specs.Guard.{guard_of}
use Rattle.laws.proofs.Guard.LevelMargin.{level_margin}
use Rattle.laws.specs.Code.Message.{gather-zero, spread-gather, spread-zero}
use Rattle.laws.specs.Guard.Margin.{total_moved}

-- only word 0 has word 0's message
pub zero_of_gather : (n mask d : ℕ) → permitted n mask d ≡ true → gather n mask d ≡ gather n mask 0 → d ≡ 0
zero_of_gather n mask d p e =
    sym (spread-gather n mask d p) ∙ ap (spread n mask) (e ∙ gather-zero n mask) ∙ spread-zero n mask

pub farther : (n mask g s : ℕ) (levels : List ℤ) → guard_of n mask ≡ some g → permitted n mask s ≡ true → total_moved n levels s < g
    → (e : ℕ) → permitted n mask e ≡ true → e ≢ s → word_distance n (level_cost levels) s < word_distance n (level_cost levels) e
farther n mask g s levels given allowed under e p z = omega (arith, level_margin n mask g given levels s e allowed p z)
