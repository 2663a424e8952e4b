-- `sample::nearest` meets its contract: the float is what the exponent's field and the digits of its bits say.
use Prim.Native.Nat.{ℕ, ◌+◌, ◌-◌, ◌*◌, ◌%◌, ◌^◌, ◌≤◌}
use mathlib.Core.Path.{◌≡◌, sym, ap, subst, ◌∙◌}
use mathlib.Core.Bool.{not}
use native.Mathlib.Omega.{arith}
use lib.Dec.{T}
use lib.Pow.{pow_pos}
use lib.Ieee.{Float, nan, inf, fin, binary32, fits, is_nan}
use Rattle.rules.specs.Sample.{nearest_whole}
use Rattle.laws.specs.Numbers.Bits.{power_shifted}
use Rattle.sample.specs.Steps.{within}
use Rattle.sample.proofs.Fields.{exponent, digits, digits_lt, exponent_le, below_half, from_half}
use Rattle.sample.proofs.nearest.Goals as goal
use Rattle.sample.proofs.nearest.Goals.{Start}

no_nan : (k : ℕ) (x : Float) → T (within k x) → T (not (is_nan x))
unfolding is_nan
no_nan k nan w = elim w [ ]
no_nan k (inf _) w = elim w [ ]
no_nan k (fin s m e) w = tt

shift : (x : ℕ) → 126 ≤ x → 1 * 2 ^ (150 - x) % 4294967296 ≡ 2 ^ (150 - x)
shift x h = power_shifted 32 (150 - x) (omega arith)

held : (c : Start) → T (fits binary32 c.args.x)
held c = subst T (sym c.well_formed.0.1) tt

pub float_to_bits-bits : goal.float_to_bits-bits
float_to_bits-bits c = no_nan 2048 c.args.x c.requires

pub returns-then-exponent-lt126 : goal.returns-then-exponent-lt126
returns-then-exponent-lt126 c = sym (below_half c.args.x (held (goal.at.returns-then-exponent-lt126 c).Start) c.requires c.if-exponent-lt126.true)

pub overflow_add-digits : goal.overflow_add-digits
overflow_add-digits c = record { fits = omega (arith, digits_lt c.args.x) }

pub overflow_sub-exponent : goal.overflow_sub-exponent
overflow_sub-exponent c = exponent_le c.args.x (held (goal.at.overflow_sub-exponent c).Start) c.requires

pub nearest_whole-requires : goal.nearest_whole-requires
nearest_whole-requires c =
    let x = c.args.x in
    (omega (arith, digits_lt x), rw (shift (exponent x) c.if-exponent-lt126.false) (pow_pos (150 - exponent x)))

pub returns : goal.returns
returns c =
    let x = c.args.x in
    let l = c.if-exponent-lt126.false in
    c.nearest_whole.ensures
    ∙ ap (nearest_whole (8388608 + digits x)) (shift (exponent x) l)
    ∙ sym (from_half x (held (goal.at.returns c).Start) c.requires l)
