-- `code::levels::fill` meets its contract: all slots have been passed.
use Rattle.std.specs.Prelude.{pos}
use Rattle.std.proofs.Common.{◌∙◌, arith}
use Rattle.rules.specs.Level as rules
use Rattle.laws.specs.Numbers.Each.{each_all}
use Rattle.code.proofs.levels.fill.Goals as goal

pub returns : goal.returns
unfolding rules.ideal_levels
returns c k whole = each_all _ (pos 0) _ _ (c.loop-i.auto.levels ∙ whole) (λ j l. c.loop-i.invariant j (omega arith))
