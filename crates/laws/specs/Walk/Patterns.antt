-- Different fillings of a group have different patterns: so the candidates of a node are in strict order, and any
-- list in that order with the same members is the same list.
-- What rests on the statements here stands in proofs/Walk/Patterns.antt.
use Rattle.std.specs.Prelude.{ℕ, ◌+◌, ◌*◌, ◌<◌, ◌≡◌}
use Rattle.std.proofs.Common.{arith}
use mathlib.Core.List.{List, Memᴰ}
use Rattle.rules.specs.Word.{code_bit}
use Rattle.rules.specs.Walk.{pattern}

-- equal patterns have equal codeword bits
pub pattern-bits : (n d e : ℕ) (is : List ℕ) → pattern n d is ≡ pattern n e is → (i : ℕ) → Memᴰ i is → code_bit n d i ≡ code_bit n e i
unfolding pattern code_bit
pattern-bits n d e is h i m = go i is m h
  where
    low : (a b x y : ℕ) → a + 2 * x ≡ b + 2 * y → a < 2 → b < 2 → a ≡ b
    low a b x y p q r = omega arith

    high : (a b x y : ℕ) → a + 2 * x ≡ b + 2 * y → a < 2 → b < 2 → x ≡ y
    high a b x y p q r = omega arith

    go : (i : ℕ) (is : List ℕ) → Memᴰ i is → pattern n d is ≡ pattern n e is → code_bit n d i ≡ code_bit n e i
    go i is (Memᴰ.head {x = j} {xs = js} t) h = rw t (low (code_bit n d j) (code_bit n e j) (pattern n d js) (pattern n e js) h (omega arith) (omega arith))
    go i is (Memᴰ.tail {x = j} {xs = js} m) h =
        go i js m (high (code_bit n d j) (code_bit n e j) (pattern n d js) (pattern n e js) h (omega arith) (omega arith))
