-- A code as its n and its mask, what its constructor answers, and RM(64,57).
-- Document 01 gives the constructor no order, so it refuses what the guard refuses, 1 and 3.
use Rattle.std.specs.Prelude.{ℕ}
use Rattle.rules.specs.Refusals.{Answer, answer}
use Rattle.rules.specs.Orders.{code_order}
use Rattle.laws.specs.Guard.ReedMuller.{rm_mask}

-- an n with a frozen mask
pub record NumberAndMask : Type 0 where
  pub n : ℕ
  pub mask : ℕ

-- the constructor: 1, 3, or the n and the mask that were handed in
unfoldable pub made_answer : ℕ → ℕ → Answer NumberAndMask
made_answer n mask = answer (code_order n mask) (record { n = n; mask = mask })

-- RM(64,57): "The mask 0x0000000100010117 at n = 6"
abbrev pub reed_muller : NumberAndMask
reed_muller = record { n = 6; mask = rm_mask }
