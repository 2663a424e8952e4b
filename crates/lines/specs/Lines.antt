-- What the contracts of a line speak of: the longest line.
use Rattle.std.specs.Prelude.{ℕ}

-- the bytes of the longest line, whose numbers have 10 digits
abbrev pub longest : ℕ
longest = 56
