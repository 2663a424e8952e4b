-- What a test or a word that is made at the size of an n says of the rules' at that n.
use Prim.Native.Nat.{ℕ, ◌*◌, ◌%◌, ◌^◌, ◌≤◌}
use mathlib.Core.Option.{some}
use mathlib.Core.Path.{◌≡◌, sym, ◌∙◌, ap}
use mathlib.Core.Bool.{Bool}
use native.Mathlib.Omega.{arith}
use lib.Count.{ones, ones-le}
use lib.Dec.{leb}
use lib.Pow.{shl_exact}
use Rattle.rules.specs.Refusals.{largest}
use Rattle.rules.specs.Word.{unfrozen, message_bits, spread, codeword}
use Rattle.rules.specs.Answers.{Encoded, encoded}
use Rattle.rules.specs.Guard.{fewest_ones}
use Rattle.laws.proofs.Codewords.Matrix.{codeword_longer}
use Rattle.laws.specs.Code.Message.{spread-lt}
use Rattle.laws.specs.Guard.LeastBelow.{least_some_at}
use Rattle.word.specs.Words.{size_of}

module _ (n : ℕ) (small : n ≤ largest) where
  -- the size of an n that is not refused is its own
  pub own_size : size_of n ≡ n
  own_size = omega arith

  -- a test of the message against K is the rules' test
  pub message_test : (mask bits message : ℕ) (t : Bool) → bits ≡ message_bits (size_of n) mask → t ≡ leb (2 ^ bits) message
      → leb (2 ^ message_bits n mask) message ≡ t
  message_test mask bits message t count test =
      sym (test ∙ ap (λ (m : ℕ). leb (2 ^ m) message) (count ∙ ap (λ (k : ℕ). message_bits k mask) own_size))

  -- the words of a message, made at the size and mapped at the largest n, are the rules'
  pub words_right : (mask message d x : ℕ) → d ≡ spread (size_of n) mask message → x ≡ codeword largest d
      → ◌≡◌ {A = Encoded} (record { d = d; x = x }) (encoded n mask message)
  words_right mask message d x is_word is_code =
      let word : d ≡ spread n mask message = is_word ∙ ap (λ (k : ℕ). spread k mask message) own_size in
      let code : x ≡ codeword n (spread n mask message) =
      is_code ∙ ap (codeword largest) word ∙ codeword_longer n largest _ small (spread-lt n mask message)
      in
      λ i. record { d = word i; x = code i }

-- the fewest ones of an index are few, and 256 times their power of two fits
pub fewest_small : (n mask w : ℕ) → fewest_ones (size_of n) mask ≡ some w → w ≤ largest
fewest_small n mask w e =
    let at = least_some_at (unfrozen mask) ones (2 ^ size_of n) w e in
    omega (arith, ones-le (size_of n) at.index at.inside, at.value)

pub guard_fits : (w : ℕ) → w ≤ largest → 256 * 2 ^ w % 2 ^ 32 ≡ 256 * 2 ^ w
guard_fits w small = shl_exact 9 w 32 (omega arith) (omega arith)
