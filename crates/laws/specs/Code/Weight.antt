-- The ones of a codeword: at least 2 ^ W where every one bit of the word stands at an index of W ones or more.
-- What rests on the statements here stands in proofs/Codewords/Weight.antt.
use Rattle.std.specs.Prelude.{ℕ, ◌^◌}
use Rattle.rules.specs.Below.{sum_below}
use Rattle.rules.specs.Word.{bit}

-- how many of the 2 ^ n slots of x are one
abbrev pub weight : ℕ → ℕ → ℕ
weight n x = sum_below (2 ^ n) (bit x)
