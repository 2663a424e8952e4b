-- Document 01, "Numbers to meet": the starred rows as one table, under one statement that the definitions meet every row.
use Rattle.std.specs.Prelude.{ℕ, ◌-◌, ◌^◌, ◌≡◌, refl, Bool, true, false, ◌&&◌, List, [], ◌∷◌, ℤ, pos, negsuc, Float, eqb, set}
use Rattle.std.proofs.Math.Option.{Option, none, some}
use Rattle.std.specs.Float.{fin}
use Rattle.std.specs.Int.Count.{ones, ones_in}
use Rattle.rules.specs.Below.{sum_below, count_below, all_below, first_below, list_below}
use Rattle.rules.specs.Word.{code_bit, codeword, permitted, spread, gather}
use Rattle.rules.specs.Level.{ideal_levels, slot_cost, level_cost, distance, best_below, least_word, word_kept}
use Rattle.rules.specs.Sample.{nearest_whole, unclipped, level_of}
use Rattle.rules.specs.Folding.{group_no, group}
use Rattle.rules.specs.Walk.{fillings, pattern, branch, candidate, insert, in_order, candidates, visit, walk, walk_of}
use Rattle.rules.specs.Refusals.{Answer, refused, done}
use Rattle.rules.specs.Orders.{code_order, encode_order, folding_order, walk_order, decode_order}
use Rattle.rules.specs.Answers.{Encoded, Decoded, encode_answer, decoded, decode_answer}

-- A row, with the numbers that document 01 gives.
pub data Row : Type 0 where
  -- n, mask and message; d and x
  encodes : ℕ → ℕ → ℕ → ℕ → ℕ → Row
  -- n, mask, levels and folding; message, distance and visits
  decodes : ℕ → ℕ → List ℤ → ℕ → ℕ → ℕ → ℕ → Row
  -- n up to 3, mask and levels, under every folding; message and distance
  decodes_always : ℕ → ℕ → List ℤ → ℕ → ℕ → Row
  -- a sample; its level
  samples : Float → ℤ → Row

-- two levels are the same
abbrev same_level : ℤ → ℤ → Bool
same_level (pos a) (pos b) = eqb a b
same_level (pos a) (negsuc b) = false
same_level (negsuc a) (pos b) = false
same_level (negsuc a) (negsuc b) = eqb a b

-- a sample's level is there and is the given one
abbrev is_level : Option ℤ → ℤ → Bool
is_level none y = false
is_level (some z) y = same_level z y

-- an answer of encode has the given words
abbrev is_encoded : Answer Encoded → ℕ → ℕ → Bool
is_encoded (refused r) d x = false
is_encoded (done a) d x = eqb a.d d && eqb a.x x

-- an answer of decode has the given message, distance and visits, and its word is the one that the walk kept
abbrev is_decoded : Answer Decoded → ℕ → ℕ → ℕ → ℕ → Bool
is_decoded (refused r) message distance visits kept = false
is_decoded (done a) message distance visits kept =
    eqb a.message message && eqb a.distance distance && eqb a.visits visits && eqb a.d kept

-- an answer is the refusal of the given number
abbrev is_refused : Answer Decoded → ℕ → Bool
is_refused (refused r) number = eqb r.number number
is_refused (done a) number = false

-- decoding with exactly the walk's visits allowed finishes with the row's numbers, and with one visit fewer is refusal 8
unfoldable pub decodes_right : ℕ → ℕ → List ℤ → ℕ → ℕ → ℕ → ℕ → Bool
decodes_right n mask levels folding message distance visits =
    is_decoded (decode_answer n levels mask folding visits) message distance visits
    (word_kept (walk_of n mask (level_cost levels) folding).kept)
    && is_refused (decode_answer n levels mask folding (visits - 1)) 8

-- the definitions give what a row says
abbrev holds : Row → Bool
holds (encodes n mask message d x) = is_encoded (encode_answer n mask message) d x
holds (decodes n mask levels folding message distance visits) =
    decodes_right n mask levels folding message distance visits
holds (decodes_always n mask levels message distance) =
    all_below (2 ^ n)
    (λ folding.
    decodes_right n mask levels folding message distance (walk_of n mask (level_cost levels) folding).visits)
holds (samples s level) = is_level (level_of s) level

-- "ideal levels of message 1" at n = 3, mask 0x05
abbrev sent : List ℤ
sent = ideal_levels 3 (codeword 3 (spread 3 0x05 1))

-- the starred rows
pub rows : List Row
rows =
    -- a, b, c, d
    encodes 3 0x05 1 0x02 0x03
    ∷ encodes 3 0x05 3 0x0a 0x0c
    ∷ encodes 3 0x05 4 0x10 0x11
    ∷ encodes 3 0x05 32 0x80 0xff
    -- f, g, h
    ∷ decodes 3 0x05 sent 0 1 0 14
    ∷ decodes 3 0x05 sent 4 1 0 8
    ∷ decodes 3 0x05 sent 7 1 0 2
    -- i: slot 0 of it set to -255; message 1, distance 261121
    ∷ decodes_always 3 0x05 (set sent 0 (negsuc 254)) 1 261121
    -- j: slot 0 set to -256; message 0, distance 262144
    ∷ decodes_always 3 0x05 (set sent 0 (negsuc 255)) 0 262144
    -- k, l
    ∷ decodes 1 0x00 (pos 0 ∷ pos 0 ∷ []) 0 0 131072 6
    ∷ decodes 1 0x00 (pos 0 ∷ pos 0 ∷ []) 1 0 131072 4
    -- n: samples 1/512, 3/512, 5/512, -3/512, -0.0; levels 0, 2, 2, -2, 0. `fin s m e` is the float ±m * 2 ^ e, negative where
    -- s is true; `negsuc 8` is -9, and 2 ^ -9 is 1/512
    ∷ samples (fin false 1 (negsuc 8)) (pos 0)
    ∷ samples (fin false 3 (negsuc 8)) (pos 2)
    ∷ samples (fin false 5 (negsuc 8)) (pos 2)
    ∷ samples (fin true 3 (negsuc 8)) (negsuc 1)
    ∷ samples (fin true 0 (pos 0)) (pos 0)
    ∷ []

-- every row of a list holds
abbrev all_hold : List Row → Bool
all_hold [] = true
all_hold (r ∷ rs) = holds r && all_hold rs

-- "The starred rows are one table under one proved statement about the definitions"
pub starred_rows_hold : all_hold rows ≡ true
unfolding rows decodes_right code_order encode_order encode_answer decoded folding_order walk_order decode_order decode_answer sum_below count_below all_below first_below list_below code_bit codeword permitted spread gather ideal_levels slot_cost distance best_below least_word group_no group fillings pattern branch candidate insert in_order candidates visit walk walk_of nearest_whole unclipped level_of ones ones_in
starred_rows_hold = refl
