-- Demand 2 for decoding, read off the answer: what a finished answer holds, and when there is one.
-- The message decoded is that of the least word under every folding, and decoding gives up exactly when the walk needs more
-- visits than are allowed: past refusals 1 to 6 there is such an answer or refusal 8, and neither comes from anywhere else.
use Rattle.std.specs.Prelude.{ℕ, ◌^◌, ◌≤◌, ◌<◌, ◌≡◌, refl, true, List, [], ℤ, length}
use Rattle.std.proofs.Common.{sym, ap, ◌∙◌}
use Rattle.std.specs.Int.Count.{ones}
use Rattle.rules.specs.Word.{codeword, gather}
use Rattle.rules.specs.Level.{in_range, level_at, level_cost, word_distance, Least}
use Rattle.rules.specs.Walk.{walk_visits}
use Rattle.rules.specs.Refusals.{refused, done}
use Rattle.rules.specs.Orders.{decode_order}
use Rattle.rules.specs.Answers.{Decoded, decoded, decode_answer}
use Rattle.laws.specs.Distance.Least.{least_word_least, least_unique}
use Rattle.laws.specs.Answers.Sizes.{size_right}
use Rattle.laws.specs.Answers.Orders.{passed, passed_done}
use Rattle.laws.specs.Answers.DecodeOrder.{DecodeRight, decode_right, decode_gives_up}

-- what refusals 1 to 6 let pass
pub record Accepted (n : ℕ) (levels : List ℤ) (mask folding : ℕ) : Type 0 where
  pub some_slots : 1 ≤ n
  pub small : n ≤ 6
  pub long : length levels ≡ 2 ^ n
  pub mask_fits : mask < 2 ^ (2 ^ n)
  pub folding_fits : folding < 2 ^ n
  pub few : ones folding ≤ 3
  pub ranged : (i : ℕ) → i < 2 ^ n → in_range (level_at levels i) ≡ true

-- what a finished answer holds: the least word, its message, codeword and distance, and the visits of the walk, as allowed
pub record HoldsLeast (n : ℕ) (levels : List ℤ) (mask folding allowance : ℕ) (a : Decoded) : Type 0 where
  pub least : Least n mask (level_cost levels) a.d
  pub message : a.message ≡ gather n mask a.d
  pub codeword : a.x ≡ codeword n a.d
  pub distance : a.distance ≡ word_distance n (level_cost levels) a.d
  pub visits : a.visits ≡ walk_visits n mask (level_cost levels) folding
  pub allowed : a.visits ≤ allowance

-- an input that refusals 1 to 7 let pass, by the parts of their order
accepted_right : {n : ℕ} {levels : List ℤ} {mask folding : ℕ} → DecodeRight n levels mask folding → Accepted n levels mask folding
accepted_right right =
    record {
      some_slots = right.folded.code.some_slots;
      small = right.folded.code.small;
      long = right.lent.long;
      mask_fits = right.folded.code.mask_fits;
      folding_fits = right.folded.sets.fits;
      few = right.folded.sets.few;
      ranged = right.ranged;
    }

-- and by its fields
right_accepted : {n : ℕ} {levels : List ℤ} {mask folding : ℕ} → Accepted n levels mask folding → DecodeRight n levels mask folding
right_accepted given =
    record {
      lent = record { size = size_right _ given.some_slots given.small; long = given.long };
      folded = record {
        code = record { some_slots = given.some_slots; small = given.small; mask_fits = given.mask_fits };
        sets = record { fits = given.folding_fits; few = given.few };
      };
      ranged = given.ranged;
    }

module _ (n : ℕ) (levels : List ℤ) (mask folding allowance : ℕ) where
  -- refusals 1 to 6 let the input pass, and the visits are allowed
  pub done_accepted : (a : Decoded) → decode_answer n levels mask folding allowance ≡ done a
      → Accepted n levels mask folding × (walk_visits n mask (level_cost levels) folding ≤ allowance) × (decoded n levels mask folding ≡ a)
  unfolding decode_answer
  done_accepted a e =
      let r = passed (decode_order n levels mask folding allowance) (decoded n levels mask folding) a e in
      let p = (decode_right n levels mask folding allowance).0 r.0 in
      (accepted_right p.0, p.1, r.1)

  -- refusal 8 comes only where refusals 1 to 6 let the input pass and the walk needs more visits than are allowed
  pub refused_eight : decode_answer n levels mask folding allowance ≡ refused (record { number = 8; values = [] })
      → Accepted n levels mask folding × (allowance < walk_visits n mask (level_cost levels) folding)
  unfolding decode_answer
  refused_eight e =
      let p = (decode_gives_up n levels mask folding allowance (decoded n levels mask folding)).0 e in
      (accepted_right p.0, p.1)

  -- a finished answer holds the least word
  pub done_least : (a : Decoded) → decode_answer n levels mask folding allowance ≡ done a → HoldsLeast n levels mask folding allowance a
  unfolding decoded
  done_least a e =
      let r = done_accepted a e in
      let own : HoldsLeast n levels mask folding allowance (decoded n levels mask folding) = record {
        least = least_word_least n mask (level_cost levels);
        message = refl;
        codeword = refl;
        distance = refl;
        visits = refl;
        allowed = r.1;
      } in
      rw r.2 at own

  module _ (given : Accepted n levels mask folding) where
    -- visits as allowed: there is a finished answer
    pub accepted_done : walk_visits n mask (level_cost levels) folding ≤ allowance
        → (a : Decoded) × (decode_answer n levels mask folding allowance ≡ done a) × HoldsLeast n levels mask folding allowance a
    unfolding decode_answer
    accepted_done enough =
        let e : decode_answer n levels mask folding allowance ≡ done (decoded n levels mask folding) =
        passed_done (decode_order n levels mask folding allowance) (decoded n levels mask folding)
        ((decode_right n levels mask folding allowance).1 (right_accepted given, enough))
        in
        (decoded n levels mask folding, e, done_least (decoded n levels mask folding) e)

    -- more visits than allowed: refusal 8
    pub accepted_gives_up : allowance < walk_visits n mask (level_cost levels) folding
        → decode_answer n levels mask folding allowance ≡ refused (record { number = 8; values = [] })
    unfolding decode_answer
    accepted_gives_up short =
        (decode_gives_up n levels mask folding allowance (decoded n levels mask folding)).1 (right_accepted given, short)

-- finished answers to the same levels and mask have the same words and distance, whatever the folding and the allowance
pub every_folding : (n : ℕ) (levels : List ℤ) (mask folding other allowance allowed : ℕ) (a b : Decoded)
    → decode_answer n levels mask folding allowance ≡ done a → decode_answer n levels mask other allowed ≡ done b
    → (a.message ≡ b.message) × (a.d ≡ b.d) × (a.x ≡ b.x) × (a.distance ≡ b.distance)
every_folding n levels mask folding other allowance allowed a b e f =
    let p = done_least n levels mask folding allowance a e in
    let q = done_least n levels mask other allowed b f in
    let same : a.d ≡ b.d = least_unique n mask (level_cost levels) a.d b.d p.least q.least in (
      p.message ∙ ap (gather n mask) same ∙ sym q.message,
      same,
      p.codeword ∙ ap (codeword n) same ∙ sym q.codeword,
      p.distance ∙ ap (word_distance n (level_cost levels)) same ∙ sym q.distance,
    )
