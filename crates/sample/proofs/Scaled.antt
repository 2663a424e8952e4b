-- A sample of magnitude at most 8: the float product with 256 is exact, so its level follows from the product.
use Prim.Native.Nat.{ℕ, zero, suc, ◌+◌, ◌*◌, ◌^◌, ◌≤◌, ◌<◌, min}
use mathlib.Core.Path.{◌≡◌, refl, sym, ap, subst, ◌∙◌}
use mathlib.Core.Bool.{Bool, true, false}
use mathlib.Core.Option.{some}
use native.Mathlib.Nat.{mul_assoc, mul_comm, mul_right_comm, mul-one, zero-mul, lt_of_lt_of_le}
use native.Mathlib.Omega.{arith}
use borrow.Author.Tests.{ltb-false, le-ltb}
use lib.Dec.{T, ltb, leb→le, le→leb}
use lib.IntN.{ℤ, pos}
use lib.Pow.{pow_mono, pow-add, shl_lt}
use lib.Ieee.{Float, nan, inf, fin, binary32, up, down, fits, lt, mul, round}
use lib.Ieee.Exact.{HasValue, round_exact}
use lib.Ieee.Fits.{down_pos}
use Rattle.rules.specs.Level.{limit}
use Rattle.rules.specs.Sample.{nearest_whole, signed, unclipped, level_of}
use Rattle.sample.specs.Steps.{within, whole_of}
use Rattle.sample.proofs.Clip.{clip-signed}
use Rattle.sample.proofs.Fields.{units, exponent, digits, digits_lt, value, exponent_le, whole_of_value, value_within, nearest_zero}

-- 256.0
abbrev pub scale : Float
scale = fin false 1 (pos 8)

-- the number of the fields is a number of 24 digits and a power of two
as_product : (F t : ℕ) → F ≤ 150 → t < 8388608 → (q : ℕ) × (j : ℕ) × (units F t ≡ q * 2 ^ j) × (q < 16777216) × (j ≤ 149)
as_product zero t h l = (t, 0, refl, omega arith, omega arith)
as_product (suc f) t h l = (8388608 + t, f, refl, omega arith, omega arith)

product : (s : Bool) (m : ℕ) (e : ℤ) → mul binary32 (fin s m e) scale ≡ round binary32 s (m * up e * 256) (down e * 1)
unfolding mul
product true m e = refl
product false m e = refl

eight_more : (j : ℕ) → j ≤ 149 → 24 + (j + 8) ≤ 277
eight_more j h = omega arith

wider : (a d : ℕ) → a ≤ 8 * d → a ≤ 2048 * d
wider a d h = omega arith

times_256 : (a d : ℕ) → a ≤ 8 * d → a * 256 ≤ 2048 * (d * 1)
times_256 a d h = omega arith

module _ (s : Bool) (m : ℕ) (e : ℤ) (v : T (fits binary32 (fin s m e))) (w : T (within 8 (fin s m e))) where
  w' : T (within 2048 (fin s m e))
  w' = le→leb (m * up e) (2048 * down e) (wider (m * up e) (down e) (leb→le (m * up e) (8 * down e) w))

  exact : HasValue (mul binary32 (fin s m e) scale) s (m * up e * 256) (down e * 1)
  exact =
      let x = fin s m e in
      let p = as_product (exponent x) (digits x) (exponent_le x v w') (digits_lt x) in
      let q = p.0 in
      let j = p.1 in
      subst (λ (y : Float). HasValue y s (m * up e * 256) (down e * 1)) (sym (product s m e))
      (round_exact binary32 s (m * up e * 256) (down e * 1) q (j + 8) (omega (arith, down_pos e)) p.3
      (lt_of_lt_of_le (shl_lt 24 (j + 8) p.3) (pow_mono (eight_more j p.4)))
      (mul_right_comm (m * up e) 256 (2 ^ 149)
      ∙ ap (λ (z : ℕ). z * 256) ((value x v w').1 ∙ ap (λ (z : ℕ). z * down e) p.2)
      ∙ mul_right_comm (q * 2 ^ j) (down e) 256
      ∙ ap (λ (z : ℕ). z * down e) (mul_assoc q (2 ^ j) 256 ∙ ap (λ (z : ℕ). q * z) (sym (pow-add 2 j 8)))
      ∙ ap (λ (z : ℕ). q * 2 ^ (j + 8) * z) (sym (mul-one (down e)))))

  in_range : T (within 2048 (mul binary32 (fin s m e) scale))
  in_range =
      value_within (mul binary32 (fin s m e) scale) s (m * up e * 256) (down e * 1) 2048 (omega (arith, down_pos e)) exact
      (times_256 (m * up e) (down e) (leb→le (m * up e) (8 * down e) w))

  whole : whole_of (mul binary32 (fin s m e) scale) ≡ nearest_whole (256 * m * up e) (down e)
  whole =
      whole_of_value (mul binary32 (fin s m e) scale) s (m * up e * 256) (down e * 1) (omega (arith, down_pos e)) exact
      ∙ ap (λ (z : ℕ). nearest_whole z (down e * 1)) (mul_comm (m * up e) 256 ∙ sym (mul_assoc 256 m (up e)))
      ∙ ap (nearest_whole (256 * m * up e)) (mul-one (down e))

  levels : level_of (fin s m e) ≡ some (signed s (min (whole_of (mul binary32 (fin s m e) scale)) limit))
  unfolding level_of unclipped
  levels = ap some (clip-signed s (nearest_whole (256 * m * up e) (down e)) ∙ ap (λ (q : ℕ). signed s (min q limit)) (sym whole))

  -- a zero of either sign has level 0
  zero_level : m * up e ≡ 0 → whole_of (mul binary32 (fin s m e) scale) ≡ 0
  zero_level h =
      whole
      ∙ ap (λ (a : ℕ). nearest_whole a (down e)) (mul_assoc 256 m (up e) ∙ ap (λ (a : ℕ). 256 * a) h)
      ∙ nearest_zero 0 (down e) (down_pos e) (down_pos e)

-- the sign of the level, where it matters, is whether the sample is below zero
by_sign : (s : Bool) (m : ℕ) (e : ℤ) (q : ℕ) → (m * up e ≡ 0 → q ≡ 0) → signed s q ≡ signed (lt (fin s m e) (fin false 0 (pos 0))) q
unfolding lt
by_sign false m e q h = ap (λ (t : Bool). signed t q) (sym (le-ltb (m * up e * 1) (0 * down e) (omega (arith, zero-mul (down e)))))
by_sign true m e q h = go (ltb 0 (m * up e * 1 + 0 * down e)) refl
  where
    go : (t : Bool) → ltb 0 (m * up e * 1 + 0 * down e) ≡ t → signed true q ≡ signed t q
    go true k = refl
    go false k =
        let z : q ≡ 0 = h (omega (arith, zero-mul (down e), ltb-false 0 (m * up e * 1 + 0 * down e) k)) in
        rw z refl

pub scaled-within : (x : Float) → T (fits binary32 x) → T (within 8 x) → T (within 2048 (mul binary32 x scale))
scaled-within nan v w = elim w [ ]
scaled-within (inf _) v w = elim w [ ]
scaled-within (fin s m e) v w = in_range s m e v w

pub scaled_level : (x : Float) → T (fits binary32 x) → T (within 8 x)
    → level_of x ≡ some (signed (lt x (fin false 0 (pos 0))) (min (whole_of (mul binary32 x scale)) limit))
scaled_level nan v w = elim w [ ]
scaled_level (inf _) v w = elim w [ ]
scaled_level (fin s m e) v w =
    levels s m e v w
    ∙ ap some
    (by_sign s m e (min (whole_of (mul binary32 (fin s m e) scale)) limit) (λ h. ap (λ (q : ℕ). min q limit) (zero_level s m e v w h)))
