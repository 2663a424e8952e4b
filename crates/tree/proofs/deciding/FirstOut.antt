-- What the test of the levels' range in the code says of the rules' test.
use Prim.Native.Nat.{ℕ, ◌<◌}
use mathlib.Core.Path.{◌≡◌}
use mathlib.Core.Bool.{true, not}
use mathlib.Core.Option.{Option, none}
use mathlib.Core.List.{List}
use lib.IntN.{ℤ}
use lib.ListN.{length}
use borrow.Author.Tests.{not-false}
use Rattle.rules.specs.Below.{first_below}
use Rattle.rules.specs.Level.{in_range, level_at}
use Rattle.laws.specs.Numbers.Sums.{none_at}
use Rattle.level.specs.Range.{first_out}

module _ (levels : List ℤ) (slots : ℕ) (long : length levels ≡ slots) where
  -- the first level out of range, of all slots
  pub range_is : {found : Option ℕ} → found ≡ first_out levels → first_below slots (λ i. not (in_range (level_at levels i))) ≡ found
  range_is e = rw (e, long)

  -- no level is out of range
  pub all_in_range : none ≡ first_out levels → (i : ℕ) → i < slots → in_range (level_at levels i) ≡ true
  all_in_range e i l = not-false _ (none_at slots (λ i. not (in_range (level_at levels i))) (range_is e) i l)
