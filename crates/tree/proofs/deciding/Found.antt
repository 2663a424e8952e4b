-- What the end of the walk says of the answer: that the allowance was used up, or the fields of the decoding.
use Prim.Native.Nat.{ℕ, ◌^◌, ◌≤◌, ◌<◌}
use mathlib.Core.Path.{◌≡◌, refl, sym, ap, ◌∙◌}
use mathlib.Core.Bool.{Bool, true, false, cond}
use mathlib.Core.Option.{none, some, none-ne-some, some-injective}
use mathlib.Core.List.{List, [], ◌∷◌}
use native.Mathlib.Decide.{dec_lt}
use native.Mathlib.Omega.{arith}
use lib.Dec.{ltb}
use lib.IntN.{ℤ}
use borrow.Author.Tests.{ltb-false}
use Rattle.rules.specs.Word.{codeword, gather}
use Rattle.rules.specs.Level.{nothing, best, level_cost, word_distance, least_word}
use Rattle.rules.specs.Walk.{State, keep_best, walk_visits}
use Rattle.rules.specs.Refusals.{refused, done, refuse_at, largest}
use Rattle.rules.specs.Answers as rules
use Rattle.laws.specs.Distance.Least.{least_word_least}
use Rattle.laws.proofs.Codewords.Matrix.{codeword_longer}
use Rattle.laws.specs.Code.Permitted.{permitted-lt}
use Rattle.word.specs.declared.Word.{Word}
use Rattle.word.specs.Words.{size_of, word_of}
use Rattle.walk.specs.States.{kept_of, running_of, state_of}
use Rattle.std.specs.Prelude.{Option, None, Some}
use Rattle.tree.specs.Empty.{first_empty}
use Rattle.tree.specs.Search.{search_answer}
use Rattle.tree.specs.Reading.{decoded_of}
use Rattle.walk.specs.declared.state.Walked.{Walked}
use Rattle.walk.proofs.Keeping.{has_best, no_best}

-- none by a test that picks none or some: the test passed; some: it failed, and picked that
test_none : (t : Bool) (x : State keep_best) → none ≡ cond t none (some x) → t ≡ true
test_none true x e = refl
test_none false x e = absurd (none-ne-some x e)

test_some : (t : Bool) (x y : State keep_best) → some y ≡ cond t none (some x) → (t ≡ false) × (y ≡ x)
test_some true x y e = absurd (none-ne-some y (sym e))
test_some false x y e = (refl, some-injective y x e)

-- a kept word that is there has the parts of the state, and a distance of 32 bits
record Kept (s : Walked) (p d : ℕ) : Type 0 where
  distance : s.distance ≡ p
  word : word_of s.word ≡ d
  small : s.distance < 2 ^ 32

kept_parts : (s : Walked) (p d : ℕ) → kept_of s ≡ best p d → Kept s p d
kept_parts s p d e = go (dec_lt s.distance (2 ^ 32))
  where
    go : Dec (s.distance < 2 ^ 32) → Kept s p d
    go (yes h) = let q : best s.distance (word_of s.word) ≡ best p d = sym (has_best s h) ∙ e in record { distance = cc; word = cc; small = h }
    go (no h) =
        let q : nothing ≡ best p d = sym (no_best s (omega arith)) ∙ e in
        let z : ◌≡◌ {A = ℕ} 0 1 = cc in absurd (omega arith)

module _ (n mask folding allowance : ℕ) (levels : List ℤ) where
  -- the least word, its distance and the walk's total
  abbrev finished : State keep_best
  finished =
      record {
        kept = best (word_distance n (level_cost levels) (least_word n mask (level_cost levels))) (least_word n mask (level_cost levels));
        visits = walk_visits n mask (level_cost levels) folding;
      }

  -- what the walk ended with
  abbrev pub Ends : Option Walked → Type 0
  Ends end = state_of end ≡ cond (ltb allowance (walk_visits n mask (level_cost levels) folding)) none (some finished)

  pub used_up : Ends None → ltb allowance (walk_visits n mask (level_cost levels) folding) ≡ true
  used_up ends = test_none _ finished ends

  module _ (end : Walked) (ends : Ends (Some end)) where
    parts : (ltb allowance (walk_visits n mask (level_cost levels) folding) ≡ false) × (running_of end ≡ finished)
    parts = test_some _ finished (running_of end) ends

    pub enough : ltb allowance (walk_visits n mask (level_cost levels) folding) ≡ false
    enough = parts.0

    kept : Kept end (word_distance n (level_cost levels) (least_word n mask (level_cost levels))) (least_word n mask (level_cost levels))
    kept = kept_parts end _ _ (ap (λ (s : State keep_best). s.kept) parts.1)

    visited : end.visits ≡ walk_visits n mask (level_cost levels) folding
    visited = ap (λ (s : State keep_best). s.visits) parts.1

    -- the distance and the visits fit their fields
    pub distance_fits : end.distance < 2 ^ 32
    distance_fits = kept.small

    pub visits_fit : allowance < 2 ^ 32 → end.visits < 2 ^ 32
    visits_fit h = omega (arith, h, visited, ltb-false allowance (walk_visits n mask (level_cost levels) folding) enough)

    -- the decoding's fields
    pub found_right : n ≤ largest → (message x : Word) → word_of message ≡ gather (size_of n) mask (word_of end.word) → word_of x ≡ codeword largest (word_of end.word)
        → decoded_of (record { message = message; d = end.word; x = x; distance = end.distance; visits = end.visits }) ≡ rules.decoded n levels mask folding
    unfolding rules.decoded
    found_right small message x is_message is_code =
        let own : size_of n ≡ n = omega arith in
        let d = least_word n mask (level_cost levels) in
        let m : word_of message ≡ gather n mask d = is_message ∙ ap (λ (k : ℕ). gather k mask (word_of end.word)) own ∙ ap (gather n mask) kept.word in
        let c : word_of x ≡ codeword n d =
        is_code ∙ ap (codeword largest) kept.word
        ∙ codeword_longer n largest d small (permitted-lt n mask d (least_word_least n mask (level_cost levels)).allowed)
        in
        λ i. record { message = m i; d = kept.word i; x = c i; distance = kept.distance i; visits = visited i }

-- the three answers of a search
module _ (n mask folding allowance : ℕ) (levels : List ℤ) where
  pub answer_seven : (level : ℕ) → first_empty n mask folding ≡ some level
      → refused (record { number = 7; values = level ∷ [] }) ≡ search_answer n levels mask folding allowance
  unfolding search_answer
  answer_seven level e = rw (ap (refuse_at 7) e)

  module _ (candidates : first_empty n mask folding ≡ none) where
    pub answer-eight : ltb allowance (walk_visits n mask (level_cost levels) folding) ≡ true
        → refused (record { number = 8; values = [] }) ≡ search_answer n levels mask folding allowance
    unfolding search_answer
    answer-eight e = rw (ap (refuse_at 7) candidates, e)

    pub answer-found : ltb allowance (walk_visits n mask (level_cost levels) folding) ≡ false → (found : rules.Decoded)
        → found ≡ rules.decoded n levels mask folding → done found ≡ search_answer n levels mask folding allowance
    unfolding search_answer
    answer-found e found right = rw (ap (refuse_at 7) candidates, e, right)
