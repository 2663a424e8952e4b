-- Document 01, "Orders": what each call answers, the first refusal of its order or its success, and what it leaves in lent memory
-- or hands back.
use Rattle.std.specs.Prelude.{ℕ, List, [], ◌∷◌, ℤ, Float}
use Rattle.std.proofs.Math.Option.{Option, none, some}
use Rattle.rules.specs.Word.{codeword, spread, gather}
use Rattle.rules.specs.Level.{ideal_levels, level_cost, word_distance, least_word}
use Rattle.rules.specs.Guard.{guard_of}
use Rattle.rules.specs.Sample.{level_of}
use Rattle.rules.specs.Walk.{walk_visits}
use Rattle.rules.specs.Assembling.{Assembler, Reading, start, take_reading, given_out}
use Rattle.rules.specs.Refusals.{Answer, refused, done, answer, left}
use Rattle.rules.specs.Orders.{code_order, encode_order, encode_levels_order, decode_order, new_order, take_order, give_order}

-- "Success of encode carries d and x"
pub record Encoded : Type 0 where
  pub d : ℕ
  pub x : ℕ

-- "The information word d and codeword x" of a message
abbrev pub encoded : ℕ → ℕ → ℕ → Encoded
encoded n mask message = record { d = spread n mask message; x = codeword n (spread n mask message) }

-- "Encode: 1, 3, 9."
unfoldable pub encode_answer : ℕ → ℕ → ℕ → Answer Encoded
encode_answer n mask message = answer (encode_order n mask message) (encoded n mask message)

-- "Encode to ideal levels in a lent slice: 1, 2, 3, 9."
unfoldable pub encode_levels_answer : ℕ → List ℤ → ℕ → ℕ → Answer Encoded
encode_levels_answer n slice mask message = answer (encode_levels_order n slice mask message) (encoded n mask message)

-- "encoding to levels carries the same and writes all N ideal levels": the slice afterwards
unfoldable pub encode_levels_left : ℕ → List ℤ → ℕ → ℕ → List ℤ
encode_levels_left n slice mask message =
    left (encode_levels_answer n slice mask message) slice (ideal_levels n (encoded n mask message).x)

-- "Guard: 1, 3."
unfoldable pub guard_answer : ℕ → ℕ → Answer (Option ℕ)
guard_answer n mask = answer (code_order n mask) (guard_of n mask)

-- 11 for a sample that has no level, "0 or 1 names the first such sample": a sample alone is sample 0
abbrev pub or_not_finite : Option ℤ → Answer ℤ
or_not_finite none = refused (record { number = 11; values = 0 ∷ [] })
or_not_finite (some level) = done level

-- "The level of sample s"; "NaN and infinities are refused."
unfoldable pub level_answer : Float → Answer ℤ
level_answer s = or_not_finite (level_of s)

-- "New assembler: 1."; room is how many levels an assembler has room for
unfoldable pub new_answer : ℕ → ℕ → Answer Assembler
new_answer room n = answer (new_order n) (start room n)

-- "Taking a reading: 1, 10, 11."
unfoldable pub take_answer : Assembler → Reading → Answer (Unit {0})
take_answer a reading = answer (take_order a reading) tt

-- "takes readings, and hands back its new state"; on refusal "the assembler" stays "unchanged"
unfoldable pub take_left : Assembler → Reading → Assembler
take_left a reading = left (take_answer a reading) a (take_reading a reading)

-- "Giving out levels to a lent slice: 1, 14, 2."
unfoldable pub give_answer : Assembler → List ℤ → Answer (Unit {0})
give_answer a slice = answer (give_order a slice) tt

-- "When all N are filled it gives out the levels"; on refusal "lent buffers" stay "unchanged": the slice afterwards
unfoldable pub give_left : Assembler → List ℤ → List ℤ
give_left a slice = left (give_answer a slice) slice (given_out a)

-- "Success of decode carries message, d, x, distance and visits"
pub record Decoded : Type 0 where
  pub message : ℕ
  pub d : ℕ
  pub x : ℕ
  pub distance : ℕ
  pub visits : ℕ

-- "message, d, x, distance and visits" where the word is d
abbrev pub decoded_as : ℕ → ℕ → (ℕ → ℕ → ℕ) → ℕ → ℕ → Decoded
decoded_as n mask cost visits d =
    record { message = gather n mask d; d = d; x = codeword n d; distance = word_distance n cost d; visits = visits }

-- "The answer is the permitted d of least distance": a finished decoding has the least word, and the visits of the walk
unfoldable pub decoded : ℕ → List ℤ → ℕ → ℕ → Decoded
decoded n levels mask folding =
    decoded_as n mask (level_cost levels) (walk_visits n mask (level_cost levels) folding) (least_word n mask (level_cost levels))

-- "Decode: 1 to 6, then 7, 8."
unfoldable pub decode_answer : ℕ → List ℤ → ℕ → ℕ → ℕ → Answer Decoded
decode_answer n levels mask folding allowance =
    answer (decode_order n levels mask folding allowance) (decoded n levels mask folding)
