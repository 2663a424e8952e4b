-- The distance as source document 000 measures it. Its equation 5 takes the squared norm of y - x, where x is a bit, 0 or 1,
-- and y is the level on the scale on which the ideal levels are 0 and 1: y = (level + 256) / 512. So 512 · (y - x) is
-- level + 256 - 512 · x, and 512² times the squared norm is the sum of the squares of these whole numbers. It is the distance,
-- so that the least distance and the least norm are at the same word.
-- What rests on the statements here stands in proofs/Distance/SquaredNorm.antt.
use Rattle.std.specs.Prelude.{ℕ, ◌*◌, ◌^◌, List, ℤ, pos, nat_abs, ◌+ℤ◌, ◌-ℤ◌}
use Rattle.rules.specs.Word.{bit}
use Rattle.rules.specs.Below.{sum_below}
use Rattle.rules.specs.Level.{level_at}

-- 512 · (y - b) at y = (level + 256) / 512, without its sign
abbrev pub scaled : ℤ → ℕ → ℕ
scaled level b = nat_abs ((level +ℤ pos 256) -ℤ pos (512 * b))

-- 512² · |y - x|², 000's squared norm at the word x: the sum over slots of (512 · (y_i - x_i))²
unfoldable pub scaled_norm : ℕ → List ℤ → ℕ → ℕ
scaled_norm n levels x = sum_below (2 ^ n) (λ i. scaled (level_at levels i) (bit x i) * scaled (level_at levels i) (bit x i))
