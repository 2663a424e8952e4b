-- `sample::nearest_whole` meets its contract: the rest against what is missing to b is twice the rest against b.
use Prim.Native.Nat.{ℕ, ◌+◌, ◌-◌, ◌*◌, ◌/◌, ◌%◌, ◌<◌, compare, Ordering}
use mathlib.Core.Path.{◌≡◌, refl}
use native.Mathlib.Nat.{mod-lt}
use native.Mathlib.Numerals.{add-one}
use native.Mathlib.Omega.{arith}
use lib.Ieee.{nearest}
use Rattle.std.specs.Cmp.{ranked}
use Rattle.std.proofs.Common.{Less, Equal, Greater}
use Rattle.rules.specs.Sample.{nearest_whole}
use Rattle.laws.specs.Light.Nearest.{Compared, compared}
use Rattle.sample.proofs.nearest_whole.Goals as goal

less : (q x b : ℕ) (o : Ordering) → Compared o x b → x < b → q ≡ nearest q o
less q x b Ordering.lt c h = refl
less q x b Ordering.eq c h = absurd (omega arith)
less q x b Ordering.gt c h = absurd (omega arith)

more : (q x b : ℕ) (o : Ordering) → Compared o x b → b < x → q + 1 ≡ nearest q o
more q x b Ordering.lt c h = absurd (omega arith)
more q x b Ordering.eq c h = absurd (omega arith)
more q x b Ordering.gt c h = add-one q

half : (q x b : ℕ) (o : Ordering) → Compared o x b → x ≡ b → q + q % 2 ≡ nearest q o
half q x b Ordering.lt c h = absurd (omega arith)
half q x b Ordering.eq c h = refl
half q x b Ordering.gt c h = absurd (omega arith)

pub returns-in-Less : goal.returns-in-Less
unfolding nearest_whole
returns-in-Less c =
    let a = c.args.a in
    let b = c.args.b in
    let h : a % b < b - a % b = ranked (a % b) (b - a % b) Less c.in-Less.ensures in
    less (a / b) (a % b * 2) b (compare (a % b * 2) b) (compared (a % b * 2) b) (omega (arith, mod-lt a c.requires.1))

pub returns-in-Equal : goal.returns-in-Equal
unfolding nearest_whole
returns-in-Equal c =
    let a = c.args.a in
    let b = c.args.b in
    let h : a % b ≡ b - a % b = ranked (a % b) (b - a % b) Equal c.in-Equal.ensures in
    half (a / b) (a % b * 2) b (compare (a % b * 2) b) (compared (a % b * 2) b) (omega (arith, mod-lt a c.requires.1))

pub returns-in-Greater : goal.returns-in-Greater
unfolding nearest_whole
returns-in-Greater c =
    let a = c.args.a in
    let b = c.args.b in
    let h : b - a % b < a % b = ranked (a % b) (b - a % b) Greater c.in-Greater.ensures in
    more (a / b) (a % b * 2) b (compare (a % b * 2) b) (compared (a % b * 2) b) (omega (arith, mod-lt a c.requires.1))
