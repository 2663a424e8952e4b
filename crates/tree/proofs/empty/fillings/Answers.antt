-- `tree::empty::fillings` meets its contract.
use Prim.Native.Nat.{◌-◌}
use native.Mathlib.Omega.{arith}
use lib.Count.{ones}
use Rattle.laws.specs.Numbers.Bits.{power_shifted}
use Rattle.word.specs.Words.{word_of}
use Rattle.tree.proofs.empty.fillings.Goals as goal

pub returns : goal.returns
returns c =
    rw c.ones.ensures
    (power_shifted 32 (c.args.size - ones (word_of c.args.shut)) (omega (arith, c.requires.0)))
