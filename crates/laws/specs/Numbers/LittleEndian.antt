-- Little-endian numbers in a list of bytes: one byte, and a number of two parts.
use Rattle.std.specs.Prelude.{ℕ, suc, ◌+◌, ◌*◌, ◌^◌, ◌≤◌, ◌<◌, ◌≡◌, List, [], ◌∷◌, ◌++◌, length, get_or, drop}
use Rattle.std.proofs.Common.{◌∙◌, ap, add-zero, mul_assoc, arith, length-drop, drop-cons, drop-drop, take-add, length-take-le}
use Rattle.std.proofs.Math.Nat.{pow-succ'}
use Rattle.rules.specs.Record.{little_endian, number_at}

-- the number in bytes that are followed by others
pub little_endian_append : (low high : List ℕ) → little_endian (low ++ high) ≡ little_endian low + 256 ^ length low * little_endian high
unfolding little_endian
little_endian_append [] high = omega arith
little_endian_append (b ∷ low) high =
    let h = little_endian high in
    let e : 256 ^ suc (length low) * h ≡ 256 * (256 ^ length low * h) =
    ap (λ (x : ℕ). x * h) (pow-succ' 256 (length low)) ∙ mul_assoc 256 (256 ^ length low) h
    in
    omega (arith, little_endian_append low high)

-- the number in one byte
pub number_one : (bytes : List ℕ) (place : ℕ) → place < length bytes → number_at bytes place 1 ≡ get_or bytes place 0
unfolding little_endian
number_one bytes place l = rw (drop-cons bytes place 0 l) (add-zero (get_or bytes place 0))

-- a number of two parts, the lower first
pub number_parts : (bytes : List ℕ) (place a b : ℕ) → place + a ≤ length bytes
    → number_at bytes place (a + b) ≡ number_at bytes place a + 256 ^ a * number_at bytes (place + a) b
number_parts bytes place a b l =
    rw (take-add a b (drop place bytes), little_endian_append, drop-drop a place bytes, length-take-le a (drop place bytes) (simp length-drop (omega arith)))
