-- A list of levels as text.
use Rattle.std.specs.Prelude.{ℕ, List, map, ℤ}
use Rattle.std.specs.List.{join_with_byte}
use Rattle.std.specs.Fmt.{signed_decimal}

-- the levels in decimal, with a comma between each two
abbrev pub printed : List ℤ → List ℕ
printed levels = join_with_byte 44 (map signed_decimal levels)
