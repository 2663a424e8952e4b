-- Encoding to levels beside encoding: past 1 and 2 the answer is that of encoding, and the slice follows the answer.
use Prim.Native.Nat.{ℕ, ◌^◌}
use mathlib.Core.Path.{◌≡◌, sym, ap, ◌∙◌}
use mathlib.Core.Bool.{true, false}
use mathlib.Core.List.{List, []}
use lib.IntN.{ℤ}
use lib.ListN.{length}
use borrow.Author.Tests.{ne_eqb}
use Rattle.rules.specs.Level.{ideal_levels}
use Rattle.rules.specs.Refusals.{Refusal, refused, done, is_wrong_size}
use Rattle.rules.specs.Orders.{encode_order, encode_levels_order}
use Rattle.rules.specs.Answers.{Encoded, encoded, encode_answer, encode_levels_answer, encode_levels_left}
use Rattle.laws.specs.Answers.Orders.{passed, answer_after, lent_order, lent_right, levels_parts}

module _ (n : ℕ) (slice : List ℤ) (mask message : ℕ) where
  -- a wrong n is refusal 1
  pub levels_size : is_wrong_size n ≡ true → refused (record { number = 1; values = [] }) ≡ encode_levels_answer n slice mask message
  unfolding encode_levels_answer
  levels_size wrong = rw (levels_parts n slice mask message (encoded n mask message), wrong)

  -- else a slice that is not N long is refusal 2
  pub levels_length : is_wrong_size n ≡ false → (length slice ≡ 2 ^ n → ⊥)
      → refused (record { number = 2; values = [] }) ≡ encode_levels_answer n slice mask message
  unfolding encode_levels_answer
  levels_length right other = rw (levels_parts n slice mask message (encoded n mask message), right, ne_eqb _ _ other)

  -- of a right n and a slice of N, the answer of encoding
  pub levels_answer : is_wrong_size n ≡ false → length slice ≡ 2 ^ n
      → encode_answer n mask message ≡ encode_levels_answer n slice mask message
  unfolding encode_levels_answer encode_answer
  levels_answer right whole =
      sym
      (levels_parts n slice mask message (encoded n mask message)
      ∙ answer_after (lent_order n slice) (encode_order n mask message) (encoded n mask message)
      ((lent_right n slice).1 (record { size = right; long = whole })))

  -- a refusal leaves the slice as it was
  pub left_refused : (r : Refusal) → refused r ≡ encode_levels_answer n slice mask message
      → (refused r ≡ encode_levels_answer n slice mask message) × (slice ≡ encode_levels_left n slice mask message)
  unfolding encode_levels_left
  left_refused r e = (e, rw (sym e))

  -- a success leaves the ideal levels of its codeword
  pub left_done : (d x : ℕ) → done (record { d = d; x = x }) ≡ encode_levels_answer n slice mask message
      → (done (record { d = d; x = x }) ≡ encode_levels_answer n slice mask message) × (ideal_levels n x ≡ encode_levels_left n slice mask message)
  unfolding encode_levels_answer encode_levels_left
  left_done d x e = (
    e,
    rw (sym e)
        (ap (λ (w : Encoded). ideal_levels n w.x)
        (sym (passed (encode_levels_order n slice mask message) (encoded n mask message) (record { d = d; x = x }) (sym e)).1)),
  )
