-- Document 01, "Orders": the refusals of each call in the order in which they are tested; the first that is given is the answer.
-- A record's order stands in Record.antt and a request's in Request.antt, beside the tests of their bytes.
use Rattle.std.specs.Prelude.{ℕ, List, [], ◌∷◌, ◌++◌, ℤ}
use Rattle.std.proofs.Math.Option.{Option}
use Rattle.rules.specs.Level.{level_cost}
use Rattle.rules.specs.Walk.{walk_visits}
use Rattle.rules.specs.Assembling.{Assembler, Reading}
use Rattle.rules.specs.Refusals.{Refusal, wrong_size, wrong_assembler, wrong_length, wrong_mask, wrong_folding, wide_folding, out_of_range, no_candidate, small_allowance, wrong_message, no_room, not_finite, not_full}

-- "Guard: 1, 3.": the tests of a code, its n and its mask
unfoldable pub code_order : ℕ → ℕ → List (Option Refusal)
code_order n mask = wrong_size n ∷ wrong_mask n mask ∷ []

-- "Encode: 1, 3, 9."
unfoldable pub encode_order : ℕ → ℕ → ℕ → List (Option Refusal)
encode_order n mask message = code_order n mask ++ wrong_message n mask message ∷ []

-- "Encode to ideal levels in a lent slice: 1, 2, 3, 9."
unfoldable pub encode_levels_order : ℕ → List ℤ → ℕ → ℕ → List (Option Refusal)
encode_levels_order n slice mask message =
    wrong_size n ∷ wrong_length n slice ∷ wrong_mask n mask ∷ wrong_message n mask message ∷ []

-- 4, 5: the tests of a folding
unfoldable pub folding_order : ℕ → ℕ → List (Option Refusal)
folding_order n folding = wrong_folding n folding ∷ wide_folding folding ∷ []

-- 1, 3, 4, 5: the tests of a code and a folding, which decoding, a record and a request have in common
unfoldable pub folded_order : ℕ → ℕ → ℕ → List (Option Refusal)
folded_order n mask folding = code_order n mask ++ folding_order n folding

-- 7, 8: the tests of the walk, once the levels are in range
abbrev pub search_order : ℕ → List ℤ → ℕ → ℕ → ℕ → List (Option Refusal)
search_order n levels mask folding allowance =
    no_candidate n mask folding ∷ small_allowance allowance (walk_visits n mask (level_cost levels) folding) ∷ []

-- 6, 7, 8: the tests of the levels and of the walk over them, with which decoding and a record end
unfoldable pub walk_order : ℕ → List ℤ → ℕ → ℕ → ℕ → List (Option Refusal)
walk_order n levels mask folding allowance = out_of_range n levels ∷ search_order n levels mask folding allowance

-- "Decode: 1 to 6, then 7, 8."
unfoldable pub decode_order : ℕ → List ℤ → ℕ → ℕ → ℕ → List (Option Refusal)
decode_order n levels mask folding allowance =
    wrong_size n ∷ wrong_length n levels ∷ wrong_mask n mask ∷ folding_order n folding
    ++ walk_order n levels mask folding allowance

-- "New assembler: 1."
abbrev pub new_order : ℕ → List (Option Refusal)
new_order n = wrong_size n ∷ []

-- "Taking a reading: 1, 10, 11."
abbrev pub take_order : Assembler → Reading → List (Option Refusal)
take_order a reading = wrong_assembler a ∷ no_room a reading ∷ not_finite reading ∷ []

-- "Giving out levels to a lent slice: 1, 14, 2."
abbrev pub give_order : Assembler → List ℤ → List (Option Refusal)
give_order a slice = wrong_assembler a ∷ not_full a ∷ wrong_length a.n slice ∷ []
