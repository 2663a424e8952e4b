-- The guard cannot be raised: a single bit sent, its ones moved to level 0, and word 0 is the least word.
-- What rests on the statements here stands in proofs/Guard/Tight.antt.
use Prim.Native.Nat.{ℕ, zero, suc, ◌^◌}
use Rattle.std.specs.Prelude.{true, List, map, ℤ, pos, negsuc}
use Rattle.rules.specs.Below.{list_below}
use Rattle.rules.specs.Word.{bit}

-- half way from a one to a zero, and at a zero
abbrev pub halfway : ℕ → ℤ
halfway zero = negsuc 255
halfway (suc b) = pos 0

-- the ideal levels of the codeword x, with every one moved to level 0
unfoldable pub halfway_levels : ℕ → ℕ → List ℤ
halfway_levels n x = map (λ i. halfway (bit x i)) (list_below (2 ^ n) (λ i. true))
