-- How large what a bit adds can be.
use Rattle.std.specs.Prelude.{ℕ}

-- so many bits at most
abbrev pub most_bits : ℕ
most_bits = 20
