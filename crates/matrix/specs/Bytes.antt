-- The table of all transformed bytes.
use Rattle.std.specs.Prelude.{ℕ, true, List, map}
use Rattle.rules.specs.Below.{list_below}
use Rattle.rules.specs.Word.{codeword}

-- the codewords of all bytes, in order
abbrev pub byte_words : List ℕ
byte_words = map (codeword 3) (list_below 256 (λ b. true))
