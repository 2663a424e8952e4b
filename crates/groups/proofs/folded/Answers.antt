-- `groups::folded` meets its contract.
use Prim.Native.Nat.{ℕ, ◌*◌, ◌/◌, ◌%◌, ◌^◌, ◌≤◌}
use mathlib.Core.Path.{◌≡◌, refl, ap, ap₂, ◌∙◌}
use native.Mathlib.Omega.{arith}
use lib.Count.{ones}
use Rattle.laws.specs.Numbers.Bits.{power_shifted}
use Rattle.word.specs.Sizes.{slots_are}
use Rattle.groups.proofs.folded.Goals as goal

-- a group's size, as the machine shifts it
size_is : (folding r : ℕ) → ones folding ≤ 3 → r ≡ ones folding → 1 * 2 ^ r % 2 ^ 64 ≡ 2 ^ ones folding
size_is folding r few e = power_shifted 64 r (omega arith) ∙ ap (λ (f : ℕ). 2 ^ f) e

pub returns : goal.returns
returns c =
    let given = c.requires in
    let sized = size_is _ _ given.2 c.folding_size.ensures in (
      refl,
      refl,
      refl,
      record {
        small = given.0;
        fits = given.1;
        few = given.2;
        sized = sized;
        bounded = c.ranges.allowance.fits;
        all = ap₂ (λ (a b : ℕ). a / b) (slots_are _ _ given.0 c.slots.ensures) sized;
      },
    )
