-- Document 01, "From light to levels", with K1 of document 02: the level of a sample.
-- A float is the toolchain's own meaning of an f32: not a number, an infinity, or the exact value ±m * 2 ^ e.
use Prim.Native.Nat.{ℕ, ◌-◌, ◌*◌, ◌/◌, ◌%◌, min, compare}
use Rattle.std.specs.Prelude.{Bool, true, false, ℤ, pos, negsuc, neg_ℤ, Float}
use Rattle.std.proofs.Math.Option.{Option, none, some}
use Rattle.std.specs.Float.{nan, inf, fin}
use Rattle.std.specs.Float.Ieee.{up, down, nearest}
use Rattle.rules.specs.Level.{limit}

-- "the whole number nearest to" a / b, "an exact half going to the even neighbour": with q the whole quotient, `nearest q` is q
-- where the remainder is below one half, q + 1 where it is above, and the even one of both where it is exactly one half
unfoldable pub nearest_whole : ℕ → ℕ → ℕ
nearest_whole a b = nearest (a / b) (compare (a % b * 2) b)

-- a whole number of the given sign, true for negative
abbrev pub signed : Bool → ℕ → ℤ
signed false m = pos m
signed true m = neg_ℤ (pos m)

-- "The level of sample s is the whole number nearest to 256·s": before clipping, for the sample ±m * 2 ^ e, where 2 ^ e is the
-- fraction of up e and down e
unfoldable pub unclipped : Bool → ℕ → ℤ → ℤ
unclipped s m e = signed s (nearest_whole (256 * m * up e) (down e))

-- "then clipped"; K1: "Levels from now on go from -2047 to 2047, and the sample rule clips there."
abbrev pub clip : ℤ → ℤ
clip (pos m) = pos (min m limit)
clip (negsuc m) = negsuc (min m (limit - 1))

-- the level of a sample; "NaN and infinities are refused."
unfoldable pub level_of : Float → Option ℤ
level_of nan = none
level_of (inf s) = none
level_of (fin s m e) = some (clip (unclipped s m e))
