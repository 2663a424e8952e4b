-- A list whose first items stand once more behind them, by a step.
use Rattle.std.specs.Prelude.{ℕ, ◌+◌, ◌<◌, ◌≡◌, List, get_or}

-- the first m items, and behind them what a step makes of each; of what stands behind those nothing is said
pub record Doubled {T : Type 0} (before after : List T) (m : ℕ) (step : T → T → Type 0) : Type 0 where
  pub kept : (u : ℕ) (d : T) → u < m → get_or after u d ≡ get_or before u d
  pub added : (u : ℕ) (d : T) → u < m → step (get_or before u d) (get_or after (m + u) d)
