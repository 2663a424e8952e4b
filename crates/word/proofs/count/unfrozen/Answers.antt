-- `word::count::unfrozen` meets its contract: the slots are those unfrozen and those frozen.
use native.Mathlib.Omega.{arith}
use mathlib.Core.Path.{ap}
use lib.Count.{ones}
use Rattle.word.specs.Words.{word_of, size_of}
use Rattle.laws.specs.Numbers.Counts.{bits-and-ones}
use Rattle.word.proofs.count.unfrozen.Goals as goal

pub overflow_sub-result : goal.overflow_sub-result
overflow_sub-result c =
    omega (
      arith,
      c.slots.ensures,
      c.ones.ensures,
      ap ones c.slot_bits.ensures,
      bits-and-ones (size_of c.args.n) (word_of c.args.frozen),
    )

pub returns : goal.returns
returns c =
    omega (
      arith,
      c.slots.ensures,
      c.ones.ensures,
      ap ones c.slot_bits.ensures,
      bits-and-ones (size_of c.args.n) (word_of c.args.frozen),
    )
