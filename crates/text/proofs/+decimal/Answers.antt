-- `text::decimal` meets its contract.
use mathlib.Core.Path.{ap}
use native.Mathlib.Omega.{arith}
use lib.ListN.{length}
use Rattle.laws.specs.Numbers.Digits.{decimal_one, decimal_more, decimal_more_length}
use Rattle.text.specs.Puts.{put_none, put-length, put_byte}
use Rattle.text.proofs.+decimal.Goals as goal

pub bounds-out-at : goal.bounds-out-at
bounds-out-at t c = omega (arith, ap length (decimal_one _ c.if-v-lt10.true))

pub decimal-last-requires : goal.decimal-last-requires
decimal-last-requires t c = (omega arith, omega (arith, decimal_more_length _ c.if-v-lt10.false))

pub bounds-out-last : goal.bounds-out-last
bounds-out-last t c =
    let put = c.decimal-last.ensures in omega (arith, put.ends, put-length put, decimal_more_length _ c.if-v-lt10.false)

pub overflow_add-result-else-v-lt10 : goal.overflow_add-result-else-v-lt10
overflow_add-result-else-v-lt10 t c =
    record { fits = omega (arith, c.decimal-last.ensures.ends, decimal_more_length _ c.if-v-lt10.false) }

pub returns-then-v-lt10 : goal.returns-then-v-lt10
returns-then-v-lt10 t c = rw (decimal_one _ c.if-v-lt10.true, c.digit.ensures) (put_byte (put_none _ _) _)

pub returns-else-v-lt10 : goal.returns-else-v-lt10
returns-else-v-lt10 t c =
    rw (decimal_more _ c.if-v-lt10.false, c.digit-else-v-lt10.ensures) (put_byte c.decimal-last.ensures _)
