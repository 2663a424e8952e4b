-- `message::turned` meets its contract. Invariant: the bits of the unfrozen indices below i have been moved.
use Rattle.std.specs.Prelude.{ℕ, ◌^◌, ◌≤◌, ◌<◌, ◌≡◌, refl, Bool, true, false, cond}
use Rattle.std.proofs.Common.{sym, ◌∙◌, ap, arith}
use borrow.Author.Tests.{eq-eqb, ne_eqb}
use Rattle.rules.specs.Word.{bit, place, spread, gather}
use Rattle.rules.specs.Refusals.{largest}
use Rattle.word.specs.Words.{word_of, size_of}
use Rattle.laws.specs.Numbers.Bits.{bit_lt_two}
use Rattle.word.proofs.Shifts.{slots_le}
use Rattle.message.specs.Ends.{turned_word}
use Rattle.message.proofs.Moves.{moved_below, source, target, target_next, target_later, target_small, moved_none, moved-unfrozen, moved_frozen, moved_fits}
use Rattle.message.proofs.turned.Goals as goal
use Rattle.message.proofs.turned.Goals.{then-bit-eq0, else-bit-eq0}

-- the ends of a move, by how many places were counted
module _ (packs : Bool) (frozen i : ℕ) {placed from to : ℕ} (counted : placed ≡ place frozen i)
    (ends : (from ≡ cond packs i placed) × (to ≡ cond packs placed i)) where
  from_is : from ≡ source packs frozen i
  from_is = ends.0 ∙ ap (λ (p : ℕ). cond packs i p) counted

  to_is : to ≡ target packs frozen i
  to_is = ends.1 ∙ ap (λ (p : ℕ). cond packs p i) counted

  to_fits : placed ≤ i → i < 2 ^ largest → to < 2 ^ largest
  to_fits low inside =
      let no_higher = target_small packs frozen i (omega (arith, counted)) in
      omega (arith, to_is, no_higher)

-- all that has been moved is the message or the information word
all-turned : (n frozen w : ℕ) (packs : Bool)
    → moved_below frozen (λ j. bit w (source packs frozen j)) (target packs frozen) (2 ^ n) ≡ turned_word packs n frozen w
unfolding gather spread
all-turned n frozen w true = refl
all-turned n frozen w false = refl

pub loop-i-init : goal.loop-i-init
loop-i-init g c = (omega arith, λ packs goes. moved_none _ _ _)

pub moved-r-requires : goal.moved-r-requires
moved-r-requires g c =
    let before = c.loop-i.invariant.1 c.requires.way.0 c.requires.way.1 in
    let ends = c.requires.way.1 _ _ _ c.ends-from.ensures in (
      rw c.bit-then-bit-eq0.ensures (bit_lt_two _ _),
      to_fits _ _ _ before.counted ends c.loop-i.invariant.0 (omega (arith, slots_le c.args.n, c.slots-i-end.ensures, c.loop-i-test.true)),
    )

pub overflow_add-r : goal.overflow_add-r
overflow_add-r g c =
    let before = c.loop-i.invariant.1 c.requires.way.0 c.requires.way.1 in
    let ends = c.requires.way.1 _ _ _ c.ends-from.ensures in
    record {
      fits =
          rw c.moved-r.ensures
          (moved_fits before _ _ (to_is _ _ _ before.counted ends) (rw c.bit-then-bit-eq0.ensures (bit_lt_two _ _))
          (to_fits _ _ _ before.counted ends c.loop-i.invariant.0 (omega (arith, slots_le c.args.n, c.slots-i-end.ensures, c.loop-i-test.true))));
    }

pub loop-i-preserved : goal.loop-i-preserved
loop-i-preserved g c =
    let frozen = word_of c.args.frozen in
    let i = c.loop-i.i in
    elim c.if-bit-eq0.branch [
      | then-bit-eq0 w ↦ (
        omega arith,
        λ packs goes.
            let before = c.loop-i.invariant.1 packs goes in
            let ends = goes _ _ _ w.ends-from.ensures in
            let free = eq-eqb _ _ (sym c.bit.ensures ∙ w.if-bit-eq0.true) in
            rw (w.r-is, w.place-is, w.moved-r.ensures)
            (moved-unfrozen before _ _ (w.bit-then-bit-eq0.ensures ∙ ap (bit (word_of c.args.w)) (from_is _ _ _ before.counted ends)) (to_is _ _ _ before.counted ends)
            (rw w.bit-then-bit-eq0.ensures (bit_lt_two _ _)) free (target_next packs frozen i free)),
      )
      | else-bit-eq0 w ↦ (
        omega arith,
        λ packs goes.
            let shut = ne_eqb _ _ (λ e. w.if-bit-eq0.false (c.bit.ensures ∙ e)) in
            rw (w.r-is, w.place-is) (moved_frozen (c.loop-i.invariant.1 packs goes) shut (target_later packs frozen i shut)),
      )
    ]

pub returns : goal.returns
returns g c packs goes =
    let last : c.loop-i.i ≡ 2 ^ size_of c.args.n = omega (arith, c.slots-i-end.ensures) in
    c.from.ensures ∙ (c.loop-i.invariant.1 packs goes).moved ∙ ap (moved_below _ _ _) last
    ∙ all-turned (size_of c.args.n) (word_of c.args.frozen) (word_of c.args.w) packs
