-- `text::hex` meets its contract. Invariant: the highest i digits are put.
use Prim.Native.Nat.{suc, ◌+◌, ◌-◌, ◌*◌, ◌/◌, ◌%◌, ◌^◌}
use mathlib.Core.Path.{◌≡◌}
use native.Mathlib.Nat.{add-zero}
use native.Mathlib.Numerals.{add-one}
use native.Mathlib.Omega.{arith}
use Rattle.rules.specs.Text.{digit, hex}
use Rattle.laws.specs.Numbers.Digits.{hex_more, sixteens}
use Rattle.text.specs.Puts.{put_none, put_byte}
use Rattle.text.proofs.hex.Goals as goal

pub loop-i-init : goal.loop-i-init
unfolding hex
loop-i-init c = rw add-zero (put_none _ _)

pub loop-i-preserved : goal.loop-i-preserved
loop-i-preserved c =
    let i = c.loop-i.i in
    let args = c.args in
    let k = 15 - i in
    let next : args.at + (i + 1) ≡ args.at + i + 1 = omega arith in
    let before : 16 - i ≡ suc k = omega arith in
    let after : 16 - (i + 1) ≡ k = omega arith in
    let shift : 60 - 4 * i ≡ 4 * k = omega arith in
    let shown : c.digit.result ≡ digit (args.v / 2 ^ (60 - 4 * i) % 16) = c.digit.ensures in
    rw (next, after, add-one i, hex_more i k args.v, shown, shift, sixteens k) (put_byte (rw before at c.loop-i.invariant) _)
