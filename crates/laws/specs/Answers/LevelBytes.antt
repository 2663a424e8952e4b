-- Levels written in two bytes each: read again, each is itself.
-- What rests on the statements here stands in proofs/Answers/LevelBytes.antt.
use Rattle.std.specs.Prelude.{◌*◌, ◌<◌, ◌≡◌, refl, List, [], ◌∷◌, ℤ, pos, negsuc, length}
use Rattle.std.proofs.Common.{arith}
use Rattle.rules.specs.Request.{bytes_of, level_bytes}

-- a level of 16 bits: from -32768 to 32767
abbrev pub Sixteen : ℤ → Type 0
Sixteen (pos v) = v < 32768
Sixteen (negsuc v) = v < 32768

-- two bytes for each level
pub level_bytes_length : (levels : List ℤ) → length (level_bytes levels) ≡ 2 * length levels
unfolding level_bytes bytes_of
level_bytes_length [] = refl
level_bytes_length (level ∷ levels) = omega (arith, level_bytes_length levels)
