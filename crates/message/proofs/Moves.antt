-- Bits moved one by one over the unfrozen indices: the invariant that spreading and gathering share, and its two steps.
use Prim.Native.Nat.{ℕ, suc, ◌+◌, ◌*◌, ◌^◌, ◌≤◌, ◌<◌}
use mathlib.Core.Path.{◌≡◌, ◌∙◌, sym, ap, ap₂, refl}
use mathlib.Core.Bool.{Bool, true, false, cond}
use native.Mathlib.Nat.{lt_of_lt_of_le, le_of_eq, add-zero, one-mul, mul-le-mul_right, pow-suc}
use native.Mathlib.Numerals.{add-one}
use native.Mathlib.Omega.{arith}
use lib.Pow.{pow_mono}
use Rattle.rules.specs.Below.{sum_below, count_below}
use Rattle.rules.specs.Word.{unfrozen, place}
use Rattle.laws.specs.Numbers.CountBelow.{count_passing, count_failing}

-- a bit put above a word of i bits makes one of i + 1 bits
bit_above : (w b i : ℕ) → w < 2 ^ i → b < 2 → w + b * 2 ^ i < 2 ^ suc i
bit_above w b i low small =
    omega (arith, mul-le-mul_right {m = b} {n = 1} (2 ^ i) (omega arith), one-mul (2 ^ i), pow-suc 2 i)

-- what the bits of the unfrozen indices below m add up to, index i having the bit `value i`, moved to `to i`
abbrev pub moved_below : ℕ → (ℕ → ℕ) → (ℕ → ℕ) → ℕ → ℕ
moved_below frozen value to m = sum_below m (λ i. cond (unfrozen frozen i) (value i * 2 ^ to i) 0)

-- where the bit of an unfrozen index comes from, and where it goes: to its place, or back from its place
abbrev pub source : Bool → ℕ → ℕ → ℕ
source packs frozen i = cond packs i (place frozen i)

abbrev pub target : Bool → ℕ → ℕ → ℕ
target packs frozen i = cond packs (place frozen i) i

-- past an unfrozen index the next bit goes one higher
pub target_next : (packs : Bool) (frozen i : ℕ) → unfrozen frozen i ≡ true → target packs frozen (suc i) ≡ suc (target packs frozen i)
target_next true frozen i free = count_passing (unfrozen frozen) i free
target_next false frozen i free = refl

-- past a frozen one it goes no lower
pub target_later : (packs : Bool) (frozen i : ℕ) → unfrozen frozen i ≡ false → target packs frozen i ≤ target packs frozen (suc i)
target_later true frozen i shut = le_of_eq (sym (count_failing (unfrozen frozen) i shut))
target_later false frozen i shut = omega arith

-- it goes no higher than its index
pub target_small : (packs : Bool) (frozen i : ℕ) → place frozen i ≤ i → target packs frozen i ≤ i
target_small true frozen i low = low
target_small false frozen i low = omega arith

-- after the indices below i: the bits moved so far, how many there were, and that they lie below where index i goes
pub record Moved (frozen : ℕ) (value to : ℕ → ℕ) (i sum placed : ℕ) : Type 0 where
  pub moved : sum ≡ moved_below frozen value to i
  pub counted : placed ≡ place frozen i
  pub room : sum < 2 ^ to i

pub moved_none : (frozen : ℕ) (value to : ℕ → ℕ) → Moved frozen value to 0 0 0
unfolding sum_below count_below
moved_none frozen value to = record { moved = refl; counted = refl; room = lib.Pow.pow_pos (to 0) }

module _ {frozen : ℕ} {value to : ℕ → ℕ} {i sum placed : ℕ} (before : Moved frozen value to i sum placed) where
  -- past an unfrozen index, whose bit b was moved to its place p
  pub moved-unfrozen : (b p : ℕ) → b ≡ value i → p ≡ to i → b < 2 → unfrozen frozen i ≡ true → to (suc i) ≡ suc (to i)
      → Moved frozen value to (i + 1) (sum + b * 2 ^ p) (placed + 1)
  unfolding sum_below count_below
  moved-unfrozen b p is_bit is_place small free next =
      rw (add-one i)
      (record {
        moved = rw free (ap₂ (λ (x y : ℕ). x + y) before.moved (ap₂ (λ (x y : ℕ). x * 2 ^ y) is_bit is_place));
        counted = rw free (ap (λ (x : ℕ). x + 1) before.counted);
        room = rw (next, is_place) (bit_above sum b (to i) before.room small);
      })

  -- past a frozen index
  pub moved_frozen : unfrozen frozen i ≡ false → to i ≤ to (suc i) → Moved frozen value to (i + 1) sum placed
  unfolding sum_below count_below
  moved_frozen shut later =
      rw (add-one i)
      (record {
        moved = rw shut (before.moved ∙ sym (add-zero _));
        counted = rw shut (before.counted ∙ sym (add-zero _));
        room = lt_of_lt_of_le before.room (pow_mono later);
      })

  -- a bit moved to a place below 64 fits a word
  pub moved_fits : (b p : ℕ) → p ≡ to i → b < 2 → p < 64 → sum + b * 2 ^ p < 2 ^ 64
  moved_fits b p is_place small fits =
      lt_of_lt_of_le (bit_above sum b p (rw is_place before.room) small) (pow_mono fits)
