-- `vectors::words::apart` meets its contract: a one of a word is at an index that has been tried.
use Prim.Native.Nat.{◌^◌, ◌<◌}
use native.Mathlib.Omega.{arith}
use Rattle.rules.specs.Refusals.{largest}
use Rattle.laws.specs.Numbers.Bits.{bit-within}
use Rattle.vectors.proofs.words.apart.Goals as goal

pub returns : goal.returns
returns c e =
    let first : c.args.w < 2 ^ (2 ^ largest) = omega arith in
    let second : c.args.b < 2 ^ (2 ^ largest) = omega arith in
    record {
      own = c.args.own;
      first_small = first;
      second_small = second;
      outside = λ k one. c.loop-i.invariant.0 k (omega (arith, bit-within {k = 2 ^ largest} first one)) one;
      inside = λ k one. c.loop-i.invariant.1 k (omega (arith, bit-within {k = 2 ^ largest} second one)) one;
    }
