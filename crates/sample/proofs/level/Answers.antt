-- `sample::level` meets its contract: the clipped whole number nearest to the exact product, with the sample's sign.
use Prim.Native.Nat.{ℕ, zero, suc, ◌≤◌, min}
use mathlib.Core.Path.{◌≡◌, refl, sym, ap, ◌∙◌}
use mathlib.Core.Bool.{Bool, true, false, true≢false}
use native.Mathlib.Nat.{min-le_right}
use native.Mathlib.Omega.{arith}
use lib.Dec.{T}
use lib.IntN.{ℤ, pos, neg_ℤ, ◌-ℤ◌, +ℤ_idl}
use lib.Ieee.{Float, nan, inf, fin, binary32, lt, mul, of_bits}
use lib.Ieee.Scale.{finite}
use Rattle.std.specs.Prelude.{None}
use Rattle.std.specs.Float.{float_is_finite}
use mir.Syntax.{w32}
use mir.Val.{SFits, of_z, to_z}
use mir.ValLaws.{to_z-of_z}
use Rattle.rules.specs.Level.{limit}
use Rattle.rules.specs.Sample.{signed, level_of}
use Rattle.rules.specs.Refusals.{done}
use Rattle.rules.specs.Answers.{level_answer}
use Rattle.sample.specs.Steps.{quantised_of, whole_of, Near}
use Rattle.sample.proofs.Scaled.{scale, scaled-within, scaled_level}
use Rattle.sample.proofs.level.Goals as goal

fits : (s : Bool) (q : ℕ) → q ≤ limit → SFits w32 (signed s q)
fits false q h = record { sfits = omega arith }
fits true zero h = record { sfits = omega arith }
fits true (suc q) h = record { sfits = omega arith }

back : (s : Bool) (q : ℕ) → q ≤ limit → to_z w32 (of_z w32 (signed s q)) ≡ signed s q
back s q h = to_z-of_z w32 (signed s q) (fits s q h)

negated : (q : ℕ) → q ≤ limit → pos 0 -ℤ to_z w32 (of_z w32 (pos q)) ≡ signed true q
negated q h = ap (λ (z : ℤ). pos 0 -ℤ z) (back false q h) ∙ +ℤ_idl (neg_ℤ (pos q))

-- the level of s, from the clipped sample r that has the same level, the size of the level and the sign
found : (t : Bool) (s r : Float) (p : ℕ) → Near 8 s r → lt r (fin false 0 (pos 0)) ≡ t → p ≡ whole_of (mul binary32 r scale)
    → done (signed t (min p limit)) ≡ level_answer s
unfolding level_answer
found t s r p n l e = rw (← n.same, scaled_level r n.held n.inside, l, e) refl

not_finite : (s : Float) → float_is_finite s ≡ false → quantised_of None ≡ level_answer s
unfolding float_is_finite level_answer level_of
not_finite nan e = refl
not_finite (inf t) e = refl
not_finite (fin t m x) e = absurd (true≢false e)

finite_one : (s : Float) → float_is_finite s ≡ true → T (finite s)
unfolding float_is_finite
finite_one nan e = absurd (true≢false (sym e))
finite_one (inf t) e = absurd (true≢false (sym e))
finite_one (fin t m x) e = tt

pub returns-then-not-is_finite : goal.returns-then-not-is_finite
returns-then-not-is_finite c = not_finite c.args.s (sym c.is_finite.ensures.value ∙ c.if-not-is_finite.true)

pub near-x-requires : goal.near-x-requires
near-x-requires c = finite_one c.args.s (sym c.is_finite.ensures.value ∙ c.if-not-is_finite.false)

pub nearest-requires : goal.nearest-requires
unfolding of_bits
nearest-requires c = scaled-within c.near-x.result c.near-x.ensures.held c.near-x.ensures.inside

pub returns-then-x : goal.returns-then-x
unfolding of_bits
returns-then-x c =
    let p = c.nearest.result in
    let h : min p limit ≤ limit = min-le_right p limit in
    rw (c.clipped-size.ensures, negated (min p limit) h, back true (min p limit) h)
    (found true c.args.s c.near-x.result p c.near-x.ensures c.if-x.true c.nearest.ensures)

pub returns-else-x : goal.returns-else-x
unfolding of_bits
returns-else-x c =
    let p = c.nearest.result in
    let h : min p limit ≤ limit = min-le_right p limit in
    rw (c.clipped-size.ensures, back false (min p limit) h)
    (found false c.args.s c.near-x.result p c.near-x.ensures c.if-x.false c.nearest.ensures)
