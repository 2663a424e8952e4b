-- `sample::near` meets its contract: past -8 or 8 both samples are clipped, and else the magnitude is at most 8.
use Prim.Native.Nat.{ℕ, ◌*◌, ◌≤◌, ◌<◌}
use mathlib.Core.Path.{◌≡◌, refl, sym, subst, ◌∙◌}
use mathlib.Core.Bool.{Bool, true, false, true≢false, cond}
use native.Mathlib.Nat.{mul-one}
use native.Mathlib.Omega.{arith}
use borrow.Author.Tests.{ltb-true, ltb-false}
use lib.IntN.{ℤ, pos}
use lib.Dec.{T, le→leb}
use lib.Ieee.{Float, nan, inf, fin, binary32, up, down, lt, neg, fits, of_bits}
use lib.Ieee.Scale.{finite}
use Rattle.std.specs.Float.{float_clamp}
use Rattle.sample.specs.Steps.{Near}
use Rattle.sample.proofs.Clip.{far_level}
use Rattle.sample.proofs.near.Goals as goal

-- the end of the range of a sign
abbrev far : Bool → Float
far s = fin s 1 (pos 3)

at-far : (s : Bool) (m : ℕ) (e : ℤ) → 8 * down e < m * up e * 1 → Near 8 (fin s m e) (far s)
unfolding fits
at-far s m e h =
    let k : 8 * down e ≤ m * up e = omega (arith, mul-one (m * up e)) in
    record { same = far_level s 1 (pos 3) (omega arith) ∙ sym (far_level s m e k); held = tt; inside = tt }

above : (s : Float) → T (finite s) → lt (far false) s ≡ true → Near 8 s (far false)
unfolding lt
above nan f h = elim f [ ]
above (inf _) f h = elim f [ ]
above (fin false m e) f h = at-far false m e (ltb-true (8 * down e) (m * up e * 1) h)
above (fin true m e) f h = absurd (true≢false (sym h))

below : (s : Float) → T (finite s) → lt s (far true) ≡ true → Near 8 s (far true)
unfolding lt
below nan f h = elim f [ ]
below (inf _) f h = elim f [ ]
below (fin true m e) f h = at-far true m e (ltb-true (8 * down e) (m * up e * 1) h)
below (fin false m e) f h = absurd (true≢false (sym h))

between : (s : Float) → T (finite s) → T (fits binary32 s) → lt (far false) s ≡ false → lt s (far true) ≡ false → Near 8 s s
unfolding lt
between nan f v h k = elim f [ ]
between (inf _) f v h k = elim f [ ]
between (fin false m e) f v h k =
    record { same = refl; held = v; inside = le→leb (m * up e) (8 * down e) (omega (arith, mul-one (m * up e), ltb-false (8 * down e) (m * up e * 1) h)) }
between (fin true m e) f v h k =
    record { same = refl; held = v; inside = le→leb (m * up e) (8 * down e) (omega (arith, mul-one (m * up e), ltb-false (8 * down e) (m * up e * 1) k)) }

clamped : (s : Float) → T (finite s) → T (fits binary32 s) → Near 8 s (float_clamp s (far true) (far false))
clamped s f v = go (lt s (far true)) (lt (far false) s) refl refl
  where
    go : (low high : Bool) → lt s (far true) ≡ low → lt (far false) s ≡ high → Near 8 s (cond low (far true) (cond high (far false) s))
    go true high e h = below s f e
    go false true e h = above s f h
    go false false e h = between s f v h e

pub returns : goal.returns
unfolding of_bits neg
returns c = rw c.clamp.ensures.value (clamped c.args.s c.requires (subst T (sym c.well_formed.0.1) tt))
