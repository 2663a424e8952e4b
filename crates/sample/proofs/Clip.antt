-- Clipping: by the magnitude alone, and a sample of magnitude 8 or more is clipped.
use Prim.Native.Nat.{ℕ, zero, suc, ◌-◌, ◌*◌, ◌≤◌, ◌<◌, min}
use mathlib.Core.Path.{◌≡◌, refl, sym, ap, ◌∙◌}
use mathlib.Core.Bool.{Bool, true, false}
use mathlib.Core.Option.{some}
use native.Mathlib.Nat.{mul_assoc, suc-min-suc, min-eq_right}
use native.Mathlib.Omega.{arith}
use lib.IntN.{ℤ, pos, neg_ℤ}
use lib.Ieee.{fin, up, down}
use lib.Ieee.Fits.{down_pos}
use lib.Ieee.Nearest.{closest_mono}
use Rattle.rules.specs.Level.{limit}
use Rattle.rules.specs.Sample.{nearest_whole, signed, clip, unclipped, level_of}

pub clip-signed : (s : Bool) (q : ℕ) → clip (signed s q) ≡ signed s (min q limit)
clip-signed false q = refl
clip-signed true zero = refl
clip-signed true (suc q) = ap (λ (x : ℕ). neg_ℤ (pos x)) (sym (suc-min-suc q (limit - 1)))

far_whole : (a b : ℕ) → 0 < b → 2048 * b ≤ a → limit ≤ nearest_whole a b
unfolding nearest_whole
far_whole a b B h =
    let k : 2048 * b ≤ a * 1 = omega arith in
    let l : 2048 ≤ nearest_whole a b = closest_mono 2048 1 a b (omega arith) B k in
    omega arith

-- a sample of magnitude 8 or more has the level of its sign's end of the range
pub far_level : (s : Bool) (m : ℕ) (e : ℤ) → 8 * down e ≤ m * up e → level_of (fin s m e) ≡ some (signed s limit)
unfolding level_of unclipped
far_level s m e h =
    let k : 2048 * down e ≤ 256 * m * up e = omega (arith, mul_assoc 256 m (up e)) in
    ap some
    (clip-signed s (nearest_whole (256 * m * up e) (down e)) ∙ ap (signed s) (min-eq_right (far_whole (256 * m * up e) (down e) (down_pos e) k)))
