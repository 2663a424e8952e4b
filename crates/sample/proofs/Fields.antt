-- An f32 by the exponent's field and the digits of its bits: its value, and the whole number nearest to its magnitude.
use Prim.Native.Nat.{ℕ, zero, suc, ◌+◌, ◌-◌, ◌*◌, ◌/◌, ◌^◌, ◌≤◌, ◌<◌}
use mathlib.Core.Path.{◌≡◌, refl, sym, ap, subst, ◌∙◌}
use mathlib.Core.Bool.{Bool, true, false, cond}
use native.Mathlib.Nat.{mul_assoc, mul_right_comm, mul-le-mul_left, mul-le-mul_right, le_of_mul-le-mul_right, le_trans, le_of_eq, lt_of_lt_of_le, mod-lt, zero-mul, pow-succ'}
use native.Mathlib.Omega.{arith}
use borrow.Author.Tests.{leb-true, leb-false}
use lib.Bits.{bit_and, and_mask}
use lib.Dec.{T, leb, eqb, leb→le, le→leb}
use lib.Pow.{pow_pos, pow_mono, pow-add, shl_lt, field}
use lib.Ieee.{Float, nan, inf, fin, binary32, up, down, fits, odd, of_fields, of_bits, to_bits}
use lib.Ieee.Bits.{of_bits-to_bits}
use lib.Ieee.Exact.{HasValue, odd_sign}
use lib.Ieee.Fits.{down_pos}
use lib.Ieee.Nearest.{closest_same}
use Rattle.rules.specs.Sample.{nearest_whole}
use Rattle.laws.specs.Light.Nearest.{nearest_whole_lem, nearest_only}
use Rattle.sample.specs.Steps.{within, whole_of}

-- ---- a float that is ±a / c

pub whole_of_value : (x : Float) (s : Bool) (a c : ℕ) → 0 < c → HasValue x s a c → whole_of x ≡ nearest_whole a c
unfolding whole_of nearest_whole
whole_of_value nan s a c C v = elim v [ ]
whole_of_value (inf _) s a c C v = elim v [ ]
whole_of_value (fin t m e) s a c C v = closest_same (m * up e) (down e) a c (down_pos e) C v.1

value_le : (x : Float) (s : Bool) (a c k : ℕ) → HasValue x s a c → T (within k x) → a ≤ k * c
value_le nan s a c k v w = elim v [ ]
value_le (inf _) s a c k v w = elim v [ ]
value_le (fin t m e) s a c k v w =
    le_of_mul-le-mul_right
    (le_trans (le_of_eq (sym v.1)) (le_trans (mul-le-mul_right c (leb→le (m * up e) (k * down e) w)) (le_of_eq (mul_right_comm k (down e) c))))
    (down_pos e)

pub value_within : (x : Float) (s : Bool) (a c k : ℕ) → 0 < c → HasValue x s a c → a ≤ k * c → T (within k x)
value_within nan s a c k C v h = elim v [ ]
value_within (inf _) s a c k C v h = elim v [ ]
value_within (fin t m e) s a c k C v h =
    le→leb (m * up e) (k * down e)
    (le_of_mul-le-mul_right (le_trans (le_of_eq v.1) (le_trans (mul-le-mul_right (down e) h) (le_of_eq (mul_right_comm k c (down e))))) C)

-- ---- the number of the exponent's field F and the digits t, in units of 2 ^ -149

abbrev pub units : ℕ → ℕ → ℕ
units zero t = t * 2 ^ 0
units (suc f) t = (8388608 + t) * 2 ^ f

fields_value : (k : ℕ) (s : Bool) (F t : ℕ) → T (within k (of_fields binary32 s F t))
    → HasValue (of_fields binary32 s F t) s (units F t) (2 ^ 149)
unfolding of_fields
fields_value k s zero t w = odd_sign 24 s t 0 149
fields_value k s (suc f) t w = go (eqb (suc f) 255) w
  where
    none : (v : Bool) → T (within k (cond v (inf s) nan)) → ⊥
    none true w = w
    none false w = w

    go : (u : Bool) → T (within k (cond u (cond (eqb t 0) (inf s) nan) (odd 24 s (8388608 + t) f 149)))
        → HasValue (cond u (cond (eqb t 0) (inf s) nan) (odd 24 s (8388608 + t) f 149)) s ((8388608 + t) * 2 ^ f) (2 ^ 149)
    go true w = absurd (none (eqb t 0) w)
    go false w = odd_sign 24 s (8388608 + t) f 149

too_large : (p q r : ℕ) → 0 < p → q ≡ 2 * p → 8388608 * q ≤ r → r ≤ 2048 * p → ⊥
too_large p q r P e h k = omega arith

-- a magnitude of at most 2048
field_le : (F t : ℕ) → units F t ≤ 2048 * 2 ^ 149 → F ≤ 150
field_le zero t h = omega arith
field_le (suc f) t h = go (leb (suc f) 150) refl
  where
    once : 8388608 ≤ 8388608 + t
    once = omega arith

    lower : 150 < suc f → 150 ≤ f
    lower k = omega arith

    go : (u : Bool) → leb (suc f) 150 ≡ u → suc f ≤ 150
    go true e = leb-true (suc f) 150 e
    go false e =
        absurd (too_large (2 ^ 149) (2 ^ 150) ((8388608 + t) * 2 ^ f) (pow_pos 149) (pow-succ' 2 149)
        (le_trans (mul-le-mul_left 8388608 (pow_mono (lower (leb-false (suc f) 150 e)))) (mul-le-mul_right (2 ^ f) once))
        h)

-- ---- a magnitude below one half

pub nearest_zero : (a c : ℕ) → 0 < c → a * 2 < c → nearest_whole a c ≡ 0
nearest_zero a c C h =
    nearest_only a c (nearest_whole a c) 0 C (nearest_whole_lem a c C) (record { near = rw zero-mul (omega arith); even = λ _. refl })

doubled : (a j : ℕ) → a < 2 ^ j → j + 1 ≤ 149 → a * 2 < 2 ^ 149
doubled a j h k = lt_of_lt_of_le (shl_lt j 1 h) (pow_mono k)

small : (F t : ℕ) → F < 126 → t < 8388608 → units F t * 2 < 2 ^ 149
small zero t h l = doubled (t * 2 ^ 0) (23 + 0) (shl_lt 23 0 l) (omega arith)
small (suc f) t h l =
    let g : 8388608 + t < 16777216 = omega arith in
    doubled ((8388608 + t) * 2 ^ f) (24 + f) (shl_lt 24 f g) (omega arith)

-- ---- a magnitude of one half or more

all_digits : (f : ℕ) → f ≤ 149 → f + (150 - suc f) ≡ 149
all_digits f h = omega arith

divided : (F t : ℕ) → 126 ≤ F → F ≤ 150 → nearest_whole (units F t) (2 ^ 149) ≡ nearest_whole (8388608 + t) (2 ^ (150 - F))
unfolding nearest_whole
divided zero t h l = absurd (omega arith)
divided (suc f) t h l =
    let d = 8388608 + t in
    closest_same (d * 2 ^ f) (2 ^ 149) d (2 ^ (150 - suc f)) (pow_pos 149) (pow_pos (150 - suc f))
    (mul_assoc d (2 ^ f) (2 ^ (150 - suc f)) ∙ ap (λ (x : ℕ). d * x) (sym (pow-add 2 f (150 - suc f)) ∙ ap (λ (x : ℕ). 2 ^ x) (all_digits f (omega arith))))

-- ---- the fields of a float's bits

abbrev sign : Float → Bool
sign x = leb 2147483648 (to_bits binary32 x)

abbrev pub exponent : Float → ℕ
exponent x = bit_and (to_bits binary32 x / 8388608) 255

abbrev pub digits : Float → ℕ
digits x = bit_and (to_bits binary32 x) 8388607

pub digits_lt : (x : Float) → digits x < 8388608
digits_lt x = rw (and_mask (to_bits binary32 x) 23) (mod-lt (to_bits binary32 x) (omega arith))

as_fields : (x : Float) → T (fits binary32 x) → of_fields binary32 (sign x) (exponent x) (digits x) ≡ x
unfolding of_bits
as_fields x v =
    rw (and_mask (to_bits binary32 x / 8388608) 8, and_mask (to_bits binary32 x) 23, ← field (to_bits binary32 x) 8 23)
    (of_bits-to_bits binary32 x v)

module _ (x : Float) (v : T (fits binary32 x)) (w : T (within 2048 x)) where
  pub value : HasValue x (sign x) (units (exponent x) (digits x)) (2 ^ 149)
  value =
      subst (λ (y : Float). HasValue y (sign x) (units (exponent x) (digits x)) (2 ^ 149)) (as_fields x v)
      (fields_value 2048 (sign x) (exponent x) (digits x) (subst (λ (y : Float). T (within 2048 y)) (sym (as_fields x v)) w))

  pub exponent_le : exponent x ≤ 150
  exponent_le = field_le (exponent x) (digits x) (value_le x (sign x) (units (exponent x) (digits x)) (2 ^ 149) 2048 value w)

  whole : whole_of x ≡ nearest_whole (units (exponent x) (digits x)) (2 ^ 149)
  whole = whole_of_value x (sign x) (units (exponent x) (digits x)) (2 ^ 149) (pow_pos 149) value

  pub below_half : exponent x < 126 → whole_of x ≡ 0
  below_half h =
      whole ∙ nearest_zero (units (exponent x) (digits x)) (2 ^ 149) (pow_pos 149) (small (exponent x) (digits x) h (digits_lt x))

  pub from_half : 126 ≤ exponent x → whole_of x ≡ nearest_whole (8388608 + digits x) (2 ^ (150 - exponent x))
  from_half h = whole ∙ divided (exponent x) (digits x) h exponent_le
