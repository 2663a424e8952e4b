-- How contracts read a search for a level out of range.
use Rattle.std.specs.Prelude.{ℕ, not, List, ℤ, length}
use Rattle.std.proofs.Math.Option.{Option}
use Rattle.rules.specs.Below.{first_below}
use Rattle.rules.specs.Level.{in_range, level_at}

-- the first slot whose level is out of range
abbrev pub first_out : List ℤ → Option ℕ
first_out levels = first_below (length levels) (λ i. not (in_range (level_at levels i)))
