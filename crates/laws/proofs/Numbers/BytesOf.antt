-- A number written in so many bytes, little-endian, and read: it is itself, wherever in a list its bytes stand. And what is read from
-- bytes is small.
use Rattle.std.specs.Prelude.{ℕ, zero, suc, ◌+◌, ◌^◌, ◌<◌, ◌≡◌, List, [], ◌∷◌, ◌++◌, length, take, drop}
use Rattle.std.proofs.Common.{◌∙◌, le_refl, le_of_eq, arith, length-drop, length-append, take_all, drop_at, get_or-drop}
use Rattle.std.proofs.Math.Nat.{pow-succ'}
use Rattle.rules.specs.Record.{little_endian, number_at}
use Rattle.rules.specs.Request.{bytes_of}
use Rattle.laws.specs.Numbers.BytesOf.{Bytes, bytes-length, field_back, number_before}

-- a number written at a place, read there
pub field_at : (before after : List ℕ) (place count v : ℕ) → length before ≡ place → v < 256 ^ count
    → number_at (before ++ bytes_of count v ++ after) place count ≡ v
field_at before after place count v at l =
    number_before (before ++ bytes_of count v) after place count (rw (length-append, at, bytes-length count v) (le_refl (place + count)))
    ∙ rw (drop_at before (bytes_of count v) place at, take_all count (bytes_of count v) (le_of_eq (bytes-length count v))) (field_back count v l)

-- what is read from at most so many bytes is small
taken_small : (count : ℕ) (bytes : List ℕ) → Bytes bytes → little_endian (take count bytes) < 256 ^ count
unfolding little_endian
taken_small zero bytes small = omega arith
taken_small (suc count) [] small = omega (arith, pow-succ' 256 count, taken_small count [] small)
taken_small (suc count) (b ∷ bytes) small =
    omega (arith, pow-succ' 256 count, small 0 (omega arith), taken_small count bytes (λ i l. small (suc i) (omega arith)))

-- so is what is read from a place on
pub number_at_small : (bytes : List ℕ) (place count : ℕ) → Bytes bytes → number_at bytes place count < 256 ^ count
number_at_small bytes place count small =
    taken_small count (drop place bytes) (λ i l. rw (get_or-drop place bytes i 0) (small (place + i) (omega (arith, length-drop place bytes))))
