-- `pieces::write` meets its contract. Invariant: what is written for the records that came off is put, in both buffers.
use mathlib.Core.Path.{◌≡◌, refl, sym, ◌∙◌}
use mathlib.Core.Bool.{true≢false}
use native.Mathlib.Omega.{arith}
use Rattle.std.proofs.Common.{inl, inr, rules}
use Rattle.pieces.specs.Programs.{size_of}
use Rattle.pieces.proofs.Passed.{passed_none, passed_room, passed_next, passed_all}
use Rattle.pieces.proofs.Through.{Cut}
use Rattle.pieces.proofs.write.Goals as goal

pub returns-then-not-has_room : goal.returns-then-not-has_room
returns-then-not-has_room c =
    record {
      small = λ no. (refl, refl, refl);
      wide = λ room. absurd (true≢false (sym room ∙ sym c.has_room.ensures ∙ c.if-not-has_room.true));
      fits = tt;
    }

pub loop-record-init : goal.loop-record-init
loop-record-init c =
    let rest : c.into_iter-record-iterator.result.a.rest.now ≡ c.args.bytes.now = search rules in
    let start : c.into_iter-record-iterator.result.b.start ≡ c.args.number = search rules in
    (search rules, search rules, rw (rest, start) (passed_none _ _ _ _ _ (sym c.has_room.ensures ∙ c.if-not-has_room.false)))

pub put-ends-requires : goal.put-ends-requires
put-ends-requires c = passed_room _ _ _ _ _ c.loop-record.invariant.2 c.in-Some.ensures.steps.0.1.2

pub loop-record-preserved : goal.loop-record-preserved
loop-record-preserved c =
    let state = c.loop-record.invariant in
    let next = c.in-Some.ensures.steps in
    let cut : Cut (size_of c.args.program) c.loop-record.record-iterator.a.rest.now c.in-Some.record.now c.next.new.self.a.rest.now =
    record { parts = next.0.1.0; long = rw state.0 at next.0.1.1; some = next.0.1.2 }
    in (
      next.0.0 ∙ state.0,
      next.1.0 ∙ state.1,
      rw next.1.1.2 (passed_next _ _ _ _ _ state.2 cut (omega arith) (rw next.1.1.1 at c.put-ends.ensures.shown) (rw next.1.1.1 at c.put-ends.ensures.told)),
    )

pub returns : goal.returns
returns c =
    let state = c.loop-record.invariant in
    elim c.in-None.ensures.steps [
      | inl ended ↦ passed_all _ _ _ _ _ state.2 (inl ended.1.1.0)
      | inr ended ↦ passed_all _ _ _ _ _ state.2 (inr (omega (arith, ended.1.1.0, state.1)))
    ]
