-- The order of decoding, 1 to 8, by its parts: what passing it says of the input, and where its last refusal is given.
use Rattle.std.specs.Prelude.{ℕ, suc, ◌-◌, ◌^◌, ◌≤◌, ◌<◌, ◌≡◌, ◌↔◌, Bool, true, false, ℤ, length}
use Rattle.std.proofs.Math.Path.{refl, sym}
use Rattle.std.proofs.Common.{ap, ◌∙◌, arith, pow_pos}
use Rattle.std.proofs.Math.Bool.{not}
use Rattle.std.proofs.Math.Option.{none}
use mathlib.Core.List.{List, [], ◌∷◌, ◌++◌}
use borrow.Author.Tests.{ltb-true, ltb-false, not-false, lt-ltb, le-ltb}
use Rattle.rules.specs.Below.{first_below}
use Rattle.rules.specs.Level.{in_range, level_at, level_cost}
use Rattle.rules.specs.Folding.{group, groups}
use Rattle.rules.specs.Walk.{fillings, walk_visits}
use Rattle.rules.specs.Refusals.{Refusal, refused, answer, refuse, refuse_at, is_empty, wrong_size, wrong_length, wrong_mask, out_of_range, no_candidate}
use Rattle.rules.specs.Orders.{code_order, folding_order, folded_order, search_order, walk_order, decode_order}
use Rattle.laws.specs.Numbers.Sums.{none_at, none_of}
use Rattle.laws.specs.Walk.FillingCount.{unfrozen_in, fillings_number}
use Rattle.laws.specs.Answers.Orders.{Passed, passed, passed_done, parts, answer_after, answer_again, not_refused, not_refused_at, own_number_at, refused_after, FoldedRight, folded_right, folded_other, lent_order, LentRight, lent_right, lent_other}

-- a list of fillings is never empty
filled : (mask : ℕ) (is : List ℕ) → is_empty (fillings mask is) ≡ false
filled mask is = go (fillings mask is) (fillings_number mask is)
  where
    go : (l : List ℕ) → length l ≡ 2 ^ unfrozen_in mask is → is_empty l ≡ false
    go [] e = absurd (omega (arith, pow_pos (unfrozen_in mask is)))
    go (f ∷ fs) e = refl

-- so that refusal 7 is never given
pub never_seven : (n mask folding : ℕ) → no_candidate n mask folding ≡ none
never_seven n mask folding =
    ap (refuse_at 7) (none_of (groups n folding) _ (λ t l. filled mask (group n folding (groups n folding - suc t))))

-- every level of a block is in range
abbrev pub Ranged : ℕ → List ℤ → Type 0
Ranged n levels = (i : ℕ) → i < 2 ^ n → in_range (level_at levels i) ≡ true

-- 6 lets levels pass that are in range
range_right : (n : ℕ) (levels : List ℤ) → (out_of_range n levels ≡ none) ↔ Ranged n levels
range_right n levels = (
  λ e i l. not-false _ (none_at (2 ^ n) (λ j. not (in_range (level_at levels j))) (not_refused_at 6 _ e) i l),
  λ ranged. ap (refuse_at 6) (none_of (2 ^ n) _ (λ i l. ap not (ranged i l))),
)

-- refusal 8
abbrev pub eight : Refusal
eight = record { number = 8; values = [] }

-- where the test of 8 alone refuses, it is true
is_eight : {A : Type 0} (t : Bool) (a : A) → answer (refuse 8 t ∷ []) a ≡ refused eight → t ≡ true
is_eight true a e = refl
is_eight false a e = let z : ◌≡◌ {A = ℕ} 0 1 = cc in absurd (omega arith)

-- what 1 to 7 let pass
pub record DecodeRight (n : ℕ) (levels : List ℤ) (mask folding : ℕ) : Type 0 where
  pub lent : LentRight n levels
  pub folded : FoldedRight n mask folding
  pub ranged : Ranged n levels

module _ (n : ℕ) (levels : List ℤ) (mask folding allowance : ℕ) where
  -- 6, 7, 8 let pass: levels in range, and a walk that needs no more visits than are allowed
  walk_right : Passed (walk_order n levels mask folding allowance)
      ↔ Ranged n levels × (walk_visits n mask (level_cost levels) folding ≤ allowance)
  unfolding walk_order
  walk_right = (
    λ (ranged, (candidates, (enough, _))). ((range_right n levels).0 ranged, ltb-false allowance _ (not_refused 8 _ enough)),
    λ (ranged, enough). ((range_right n levels).1 ranged, (never_seven n mask folding, (ap (refuse 8) (le-ltb allowance _ enough), tt))),
  )

  -- 8 is given exactly where the levels are in range and the walk needs more visits than are allowed
  walk_gives_up : {A : Type 0} (a : A) → (answer (walk_order n levels mask folding allowance) a ≡ refused eight)
      ↔ Ranged n levels × (allowance < walk_visits n mask (level_cost levels) folding)
  unfolding walk_order
  walk_gives_up a = (
    λ e.
        let six = refused_after (out_of_range n levels ∷ []) (6 ∷ []) (own_number_at 6 (first_below (2 ^ n) (λ i. not (in_range (level_at levels i)))), tt)
        (search_order n levels mask folding allowance) a eight refl e
        in
        ((range_right n levels).0 six.0.0, ltb-true allowance _ (is_eight _ a (rw (never_seven n mask folding) at six.1))),
    λ (ranged, short). rw ((range_right n levels).1 ranged, never_seven n mask folding, lt-ltb allowance _ short),
  )

  -- decoding is refused for the slice, then for the code and the folding, then for the levels and the walk: 1, 2 and then
  -- 1, 3, 4, 5 and then 6, 7, 8
  pub decode_parts : {A : Type 0} (a : A) → answer (decode_order n levels mask folding allowance) a
      ≡ answer (lent_order n levels ++ (folded_order n mask folding ++ walk_order n levels mask folding allowance)) a
  unfolding decode_order folded_order code_order
  decode_parts a =
      sym
      (answer_again [] (wrong_size n) (wrong_length n levels ∷ [])
      (wrong_mask n mask ∷ folding_order n folding ++ walk_order n levels mask folding allowance) a)

  -- past the slice, the code and the folding decide
  pub after_lent : {A : Type 0} (a : A) → LentRight n levels → answer (decode_order n levels mask folding allowance) a
      ≡ answer (folded_order n mask folding ++ walk_order n levels mask folding allowance) a
  after_lent a lent =
      decode_parts a
      ∙ answer_after (lent_order n levels) (folded_order n mask folding ++ walk_order n levels mask folding allowance) a ((lent_right n levels).1 lent)

  -- past these too, the levels and the walk
  pub after_folded : {A : Type 0} (a : A) → LentRight n levels → FoldedRight n mask folding
      → answer (decode_order n levels mask folding allowance) a ≡ answer (walk_order n levels mask folding allowance) a
  after_folded a lent folded =
      after_lent a lent
      ∙ answer_after (folded_order n mask folding) (walk_order n levels mask folding allowance) a ((folded_right n mask folding).1 folded)

  -- decoding ends in success exactly where 1 to 7 let the input pass and the walk needs no more visits than are allowed
  pub decode_right : Passed (decode_order n levels mask folding allowance)
      ↔ DecodeRight n levels mask folding × (walk_visits n mask (level_cost levels) folding ≤ allowance)
  decode_right = (
    λ p.
        let e = sym (decode_parts (tt {0})) ∙ passed_done (decode_order n levels mask folding allowance) (tt {0}) p in
        let whole = (passed (lent_order n levels ++ (folded_order n mask folding ++ walk_order n levels mask folding allowance)) (tt {0}) (tt {0}) e).0 in
        let lent = (parts (lent_order n levels) (folded_order n mask folding ++ walk_order n levels mask folding allowance)).0 whole in
        let folded = (parts (folded_order n mask folding) (walk_order n levels mask folding allowance)).0 lent.1 in
        let walked = walk_right.0 folded.1 in (
          record { lent = (lent_right n levels).0 lent.0; folded = (folded_right n mask folding).0 folded.0; ranged = walked.0 },
          walked.1,
        ),
    λ (right, enough).
        let walked = passed_done (walk_order n levels mask folding allowance) (tt {0}) (walk_right.1 (right.ranged, enough)) in
        (passed (decode_order n levels mask folding allowance) (tt {0}) (tt {0}) (after_folded (tt {0}) right.lent right.folded ∙ walked)).0,
  )

  -- and in refusal 8 exactly where 1 to 7 let the input pass and the walk needs more
  pub decode_gives_up : {A : Type 0} (a : A) → (answer (decode_order n levels mask folding allowance) a ≡ refused eight)
      ↔ DecodeRight n levels mask folding × (allowance < walk_visits n mask (level_cost levels) folding)
  decode_gives_up a = (
    λ e.
        let lent = lent_other n levels (folded_order n mask folding ++ walk_order n levels mask folding allowance) a eight refl (sym (decode_parts a) ∙ e) in
        let folded = folded_other n mask folding (walk_order n levels mask folding allowance) a eight refl lent.1 in
        let walked = (walk_gives_up a).0 folded.1 in (
          record { lent = (lent_right n levels).0 lent.0; folded = (folded_right n mask folding).0 folded.0; ranged = walked.0 },
          walked.1,
        ),
    λ (right, short). after_folded a right.lent right.folded ∙ (walk_gives_up a).1 (right.ranged, short),
  )
