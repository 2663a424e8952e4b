-- Digits: a number in decimal from its last digit on and how long it is, and hexadecimal digits of a number shifted down.
use Rattle.std.specs.Prelude.{ℕ, zero, suc, ◌+◌, ◌*◌, ◌/◌, ◌%◌, ◌^◌, ◌≤◌, ◌<◌, ◌≡◌, refl, Bool, true, false, List, [], ◌∷◌, ◌++◌, ltb, length}
use Rattle.std.proofs.Common.{◌∙◌, ap, not-suc-le-zero, pow-suc, add-one, arith, length-append, pow-add, lt-ltb, le-ltb, ltb-false}
use Rattle.std.proofs.Math.Nat.{pow-succ', div-div-eq-div-mul}
use Rattle.std.proofs.Math.Decide.{dec_lt}
use Rattle.rules.specs.Below.{choose}
use Rattle.rules.specs.Text.{digit, decimal_up_to, decimal, space, hex}

-- any bound above the number serves
enough : (a b v : ℕ) → v < a → v < b → decimal_up_to a v ≡ decimal_up_to b v
unfolding decimal_up_to
enough zero b v la lb = absurd (not-suc-le-zero la)
enough (suc a) zero v la lb = absurd (not-suc-le-zero lb)
enough (suc a) (suc b) v la lb = go (ltb v 10) (ltb-false v 10) (enough a b (v / 10))
  where
    go : (t : Bool) → (t ≡ false → 10 ≤ v) → (v / 10 < a → v / 10 < b → decimal_up_to a (v / 10) ≡ decimal_up_to b (v / 10))
        → choose t (λ _. digit v ∷ []) (λ _. decimal_up_to a (v / 10) ++ (digit (v % 10) ∷ []))
        ≡ choose t (λ _. digit v ∷ []) (λ _. decimal_up_to b (v / 10) ++ (digit (v % 10) ∷ []))
    go true large below = refl
    go false large below =
        let h = large refl in
        ap (λ (s : List ℕ). s ++ (digit (v % 10) ∷ [])) (below (omega arith) (omega arith))

-- a number of one digit
pub decimal_one : (v : ℕ) → v < 10 → decimal v ≡ digit v ∷ []
unfolding decimal_up_to
decimal_one v l = rw (lt-ltb v 10 l)

-- a number of more digits: those before the last, and the last
up_to_more : (most v : ℕ) → 10 ≤ v → decimal_up_to (suc most) v ≡ decimal_up_to most (v / 10) ++ (digit (v % 10) ∷ [])
unfolding decimal_up_to
up_to_more most v l = rw (le-ltb v 10 l)

pub decimal_more : (v : ℕ) → 10 ≤ v → decimal v ≡ decimal (v / 10) ++ (digit (v % 10) ∷ [])
decimal_more v l =
    up_to_more v v l
    ∙ ap (λ (s : List ℕ). s ++ (digit (v % 10) ∷ [])) (enough v (suc (v / 10)) (v / 10) (omega arith) (omega arith))

pub decimal_more_length : (v : ℕ) → 10 ≤ v → length (decimal v) ≡ length (decimal (v / 10)) + 1
decimal_more_length v l = ap length (decimal_more v l) ∙ length-append (decimal (v / 10)) (digit (v % 10) ∷ [])

-- a number below a power of ten has no more digits than its exponent
pub decimal-length : (k v : ℕ) → v < 10 ^ suc k → length (decimal v) ≤ suc k
decimal-length zero v l = rw (decimal_one v l) (omega arith)
decimal-length (suc k) v l =
    go (dec_lt v 10) (decimal-length k (v / 10) (omega (arith, pow-succ' 10 (suc k))))
  where
    go : Dec (v < 10) → length (decimal (v / 10)) ≤ suc k → length (decimal v) ≤ suc (suc k)
    go (yes small) shorter = rw (decimal_one v small) (omega arith)
    go (no large) shorter = omega (arith, decimal_more_length v (omega arith))

-- a number of 32 bits has at most 10 digits
pub ten_digits : (v : ℕ) → v < 2 ^ 32 → length (decimal v) ≤ 10
ten_digits v l = decimal-length 9 v (omega arith)

-- and with a space before it 11 bytes
pub spaced_short : (v : ℕ) → v < 2 ^ 32 → length (space ++ decimal v) ≤ 11
spaced_short v l = omega (arith, ten_digits v l)

-- so many hexadecimal digits
pub hex-length : (count v : ℕ) → length (hex count v) ≡ count
unfolding hex
hex-length zero v = refl
hex-length (suc count) v = length-append (hex count (v / 16)) (digit (v % 16) ∷ []) ∙ rw (hex-length count (v / 16)) (add-one count)

-- one digit more of a number that is shifted down by k digits
pub hex_more : (count k v : ℕ) → hex (suc count) (v / 16 ^ k) ≡ hex count (v / 16 ^ suc k) ++ (digit (v / 16 ^ k % 16) ∷ [])
unfolding hex
hex_more count k v = rw (pow-suc 16 k, ← div-div-eq-div-mul v (16 ^ k) 16)

-- a shift by 4 k bits is one by k hexadecimal digits
pub sixteens : (k : ℕ) → 2 ^ (4 * k) ≡ 16 ^ k
sixteens zero = refl
sixteens (suc k) =
    let e : 4 * suc k ≡ 4 * k + 4 = omega arith in
    rw (e, pow-add 2 (4 * k) 4, sixteens k, pow-suc 16 k)
