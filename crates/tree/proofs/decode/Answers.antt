-- `tree::decode` meets its contract: a refusal for the slice, for the code and the folding, for a level, then what the search
-- answers.
use Prim.Native.Nat.{ℕ, ◌^◌}
use mathlib.Core.Path.{◌≡◌, sym, ap, ◌∙◌}
use mathlib.Core.List.{List, ◌++◌}
use lib.IntN.{ℤ}
use borrow.Author.Tests.{ne_eqb}
use Rattle.std.proofs.lemmas.Result.{err_from_is_err_and}
use Rattle.rules.specs.Refusals.{answer, refuse_at}
use Rattle.rules.specs.Orders.{folded_order, walk_order}
use Rattle.rules.specs.Answers.{decoded, decode_answer}
use Rattle.laws.specs.Answers.Orders.{FoldedRight, folded_right, LentRight}
use Rattle.laws.specs.Answers.DecodeOrder.{decode_parts, after_lent, after_folded}
use Rattle.word.specs.Words.{word_of}
use Rattle.word.specs.Sizes.{slots_right}
use Rattle.checks.specs.Passing.{folded_passed, folded_refused_first}
use Rattle.tree.specs.Search.{search_answer}
use Rattle.tree.proofs.deciding.FirstOut.{range_is, all_in_range}
use Rattle.tree.proofs.decode.Goals as goal
use Rattle.tree.proofs.decode.Goals.{Else-levels-slots, In_ok-folded}

module _ (n : ℕ) (levels : List ℤ) (mask folding allowance : ℕ) where
  -- what is left to answer where the slice is right
  after-slice : LentRight n levels → decode_answer n levels mask folding allowance
      ≡ answer (folded_order n mask folding ++ walk_order n levels mask folding allowance) (decoded n levels mask folding)
  unfolding decode_answer
  after-slice lent = after_lent _ _ _ _ _ (decoded n levels mask folding) lent

  -- and where the code and the folding are right
  after-tests : LentRight n levels → FoldedRight n mask folding
      → decode_answer n levels mask folding allowance ≡ answer (walk_order n levels mask folding allowance) (decoded n levels mask folding)
  unfolding decode_answer
  after-tests lent right = after_folded _ _ _ _ _ (decoded n levels mask folding) lent right

-- the slice is right
all_slots : (c : Else-levels-slots) → c.slots-slots.result ≡ 2 ^ c.args.n
all_slots c = slots_right _ (sym c.wrong_size.ensures ∙ c.if-wrong_size.false) _ c.slots-slots.ensures

lent : (c : Else-levels-slots) → LentRight c.args.n c.args.levels.now
lent c = record { size = sym c.wrong_size.ensures ∙ c.if-wrong_size.false; long = c.if-levels-slots.false ∙ all_slots c }

-- the code and the folding are
right : (c : In_ok-folded) → FoldedRight c.args.n (word_of c.args.frozen) c.args.folding
right c = (folded_right _ _ _).0 (folded_passed _ _ _ c.folded.ensures c.in_ok-folded.was)

pub returns-then-wrong_size : goal.returns-then-wrong_size
unfolding decode_answer
returns-then-wrong_size c = sym (decode_parts _ _ _ _ _ _ ∙ rw (sym c.wrong_size.ensures ∙ c.if-wrong_size.true))

pub returns-then-levels-slots : goal.returns-then-levels-slots
unfolding decode_answer
returns-then-levels-slots c =
    let right = sym c.wrong_size.ensures ∙ c.if-wrong_size.false in
    sym
    (decode_parts _ _ _ _ _ _
    ∙ rw (right, ne_eqb _ _ (λ e. c.if-levels-slots.true (e ∙ sym (slots_right _ right _ c.slots-slots.ensures)))))

pub returns-in_err-folded : goal.returns-in_err-folded
returns-in_err-folded c =
    let passed_on = err_from_is_err_and c.from_residual.result c.from_residual.ensures.1 in
    rw (passed_on.1, passed_on.2)
    (folded_refused_first _ _ _ c.folded.ensures _ _ c.in_err-folded.was
    ∙ sym (after-slice _ _ _ _ c.args.allowance (lent (goal.at.returns-in_err-folded c).Else-levels-slots)))

pub returns-in-Some : goal.returns-in-Some
unfolding walk_order
returns-in-Some c =
    let at = goal.at.returns-in-Some c in
    let slice = lent at.Else-levels-slots in
    sym
    (after-tests _ _ _ _ _ slice (right at.In_ok-folded)
    ∙ rw (ap (refuse_at 6) (range_is c.args.levels.now (2 ^ c.args.n) slice.long c.in-Some.ensures.found)))

pub search-requires : goal.search-requires
search-requires c =
    let at = goal.at.search-requires c in
    let slice = lent at.Else-levels-slots in
    let folded = right at.In_ok-folded in
    record {
      small = folded.code.small;
      long = slice.long;
      fits = folded.sets.fits;
      few = folded.sets.few;
      ranged = all_in_range c.args.levels.now (2 ^ c.args.n) slice.long c.in_default.ensures.found;
    }

pub returns : goal.returns
unfolding walk_order search_answer
returns c =
    let at = goal.at.returns c in
    let slice = lent at.Else-levels-slots in
    let in_range = range_is c.args.levels.now (2 ^ c.args.n) slice.long c.in_default.ensures.found in
    c.search.ensures ∙ sym (after-tests _ _ _ _ _ slice (right at.In_ok-folded) ∙ rw (ap (refuse_at 6) in_range))
