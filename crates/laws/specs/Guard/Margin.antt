-- The margin: how much farther every other permitted word is than the one sent, by how far the slots were moved.
-- Over any cost and any measure of moving; then once for the cost of received levels.
-- What rests on the statements here stands in proofs/Guard/Margin.antt.
use Rattle.std.specs.Prelude.{ℕ, ◌+◌, ◌*◌, ◌^◌, ◌≤◌, ◌<◌, ◌≡◌, ◌≢◌, List, ℤ}
use Rattle.std.proofs.Common.{ap, mul_comm, mul-add, arith}
use Rattle.rules.specs.Below.{sum_below}
use Rattle.rules.specs.Word.{bit, codeword}
use Rattle.rules.specs.Level.{level_at, gap}

-- at each slot the other bit costs 1024 × 256 more than the bit of x, less 1024 for each unit that the slot was moved
abbrev pub Apart : ℕ → (ℕ → ℕ → ℕ) → (ℕ → ℕ) → ℕ → Type 0
Apart n cost moved x = (i : ℕ) → i < 2 ^ n → (b : ℕ) → b < 2 → b ≢ bit x i → cost i (bit x i) + 1024 * 256 ≤ cost i b + 1024 * moved i

-- two magnitudes that are 512 apart, or 512 together
pub data Gaps (p q : ℕ) : Type 0 where
  beyond : p ≡ q + 512 → Gaps p q
  before : q ≡ p + 512 → Gaps p q
  between : p + q ≡ 512 → Gaps p q

pub square : (p q : ℕ) → Gaps p q → p * p + 1024 * 256 ≤ q * q + 1024 * p
square p q (beyond e) = rw e (omega arith)
square p q (before e) = rw e (omega arith)
square p q (between e) = omega (arith, mul-add p p q, mul-add q p q, mul_comm p q, ap (λ (x : ℕ). p * x) e, ap (λ (x : ℕ). q * x) e)

-- how far the level of slot i is from the ideal level of the codeword of s
abbrev pub moved : ℕ → List ℤ → ℕ → ℕ → ℕ
moved n levels s i = gap (level_at levels i) (bit (codeword n s) i)

-- how far the levels are from the ideal levels of the codeword of s, all slots together
abbrev pub total_moved : ℕ → List ℤ → ℕ → ℕ
total_moved n levels s = sum_below (2 ^ n) (moved n levels s)
