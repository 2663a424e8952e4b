-- `light::level_at` meets its contract: what the sample's level answers, with the place in the place of 0.
use mathlib.Core.Path.{◌≡◌, refl}
use mathlib.Core.Option as rules
use lib.IntN.{ℤ}
use lib.Ieee.{Float}
use Rattle.std.specs.Prelude.{ℕ, Option, Some, None, ok_or}
use Rattle.rules.specs.Sample.{level_of}
use Rattle.rules.specs.Answers.{or_not_finite, level_answer}
use Rattle.refusal.specs.declared.Refusal.TheVariants.{NotFinite}
use Rattle.sample.specs.Steps.{quantised_of}
use Rattle.light.specs.Steps.{LevelAt}
use Rattle.light.proofs.level_at.Goals as goal

-- a level, or none, from what `level` answers
known : (s : Float) (place : ℕ) (o : Option ℤ) → quantised_of o ≡ level_answer s → LevelAt s place (ok_or o (NotFinite place))
unfolding level_answer
known s place (Some z) e = go (level_of s) e
  where
    go : (o : rules.Option ℤ) → quantised_of (Some z) ≡ or_not_finite o → o ≡ rules.some z
    go rules.none e = cc
    go (rules.some y) e = cc
known s place None e = (go (level_of s) e, refl)
  where
    go : (o : rules.Option ℤ) → quantised_of None ≡ or_not_finite o → o ≡ rules.none
    go rules.none e = refl
    go (rules.some y) e = cc

pub returns : goal.returns
returns c = rw c.ok_or.ensures.value (known c.args.sample c.args.place c.level.result c.level.ensures)
