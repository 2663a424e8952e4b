-- An n that is not refused: its size is its own, its slots are N, and a test of a word against them is the rules' test.
use Rattle.std.specs.Prelude.{ℕ, ◌^◌, ◌≤◌, ◌≡◌, Bool, false, leb}
use Rattle.std.proofs.Common.{sym, ◌∙◌, ap, arith}
use Rattle.rules.specs.Refusals.{is_wrong_size, largest}
use Rattle.laws.specs.Answers.Sizes.{size-le}
use Rattle.word.specs.Words.{size_of}

-- the slots counted at the size of an n in range are N
pub slots_are : (n slots : ℕ) → n ≤ largest → slots ≡ 2 ^ size_of n → slots ≡ 2 ^ n
slots_are n slots small count = let own : size_of n ≡ n = omega arith in count ∙ ap (λ (k : ℕ). 2 ^ k) own

-- the size of an n that is not refused is its own
pub right_size : (n : ℕ) → is_wrong_size n ≡ false → size_of n ≡ n
right_size n e = omega (arith, size-le n e)

module _ (n : ℕ) (right : is_wrong_size n ≡ false) where
  -- and its slots are N
  pub slots_right : (slots : ℕ) → slots ≡ 2 ^ size_of n → slots ≡ 2 ^ n
  slots_right slots = slots_are n slots (size-le n right)

  -- a test of the mask against the slots is the rules' test
  pub mask_test : (mask slots : ℕ) (t : Bool) → slots ≡ 2 ^ size_of n → t ≡ leb (2 ^ slots) mask → leb (2 ^ (2 ^ n)) mask ≡ t
  mask_test mask slots t count test = sym (test ∙ ap (λ (m : ℕ). leb (2 ^ m) mask) (slots_right slots count))
