-- `level::first_out_of_range` meets its contract: the position that the search answers is the rules' first slot.
use Prim.Native.Nat.{ℕ, ◌<◌}
use mathlib.Core.Path.{◌≡◌, sym}
use mathlib.Core.Bool.{Bool, true, false, not}
use mathlib.Core.List.{List}
use Rattle.std.proofs.Common.{zero-le}
use borrow.Author.Rules.{rules}
use borrow.Author.Tests.{tests}
use lib.IntN.{ℤ, pos}
use lib.ListN.{length}
use Rattle.std.specs.List.{AllWithin, HoldsAt}
use Rattle.std.specs.Prelude.{Option, Some, None}
use Rattle.std.specs.Option.{MatchOption}
use Rattle.std.proofs.lemmas.Iterator.{IsFirst-from_position, YieldsList-from_slice}
use Rattle.rules.specs.Level.{in_range}
use Rattle.laws.specs.Numbers.Sums.{some_of, none_of}
use Rattle.word.specs.Options.{option_of}
use Rattle.level.specs.Range.{first_out}
use Rattle.level.proofs.first_out_of_range.Goals as goal

-- whether a level is out of range
abbrev Is : Bool → ℤ → Type 0
Is t level = not (in_range level) ≡ t

-- the first place of a level out of range, or none, as the rules say it
first : (levels : List ℤ) (r : Option ℕ)
    → MatchOption r (AllWithin (Is false) levels 0 (length levels)) (λ i. (i < length levels) × HoldsAt (Is true) levels i × AllWithin (Is false) levels 0 i)
    → option_of r ≡ first_out levels
first levels None h = sym (none_of (length levels) _ (λ k l. h k (pos 0) zero-le l))
first levels (Some i) h = sym (some_of (length levels) _ i h.0 (h.1 (pos 0)) (λ k l. h.2 k (pos 0) zero-le l))

pub returns-clause-found : goal.returns-clause-found
returns-clause-found c =
    first c.args.levels.now c.position.result
    (IsFirst-from_position _ _ _ (Is true) (Is false) c.position.ensures.ran (YieldsList-from_slice c.args.levels.now cc)
    (λ x q k. search (rules, tests))
    (λ x q k. search (rules, tests)))
