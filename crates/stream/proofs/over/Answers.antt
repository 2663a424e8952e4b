-- `stream::over` meets its contract: what the turns have read and written, and at the end the whole input.
use Prim.Native.Nat.{ℕ, ◌≤◌, ◌<◌}
use mathlib.Core.Path.{◌≡◌, sym}
use mathlib.Core.List.{List, ◌++◌}
use Rattle.std.specs.Prelude.{Option, None, Some, Ok, Err}
use Rattle.std.proofs.Common.{subst, arith, rules}
use Rattle.rules.specs.Text.{most_records}
use Rattle.pieces.specs.Programs.{size_of, size-some, shown_of}
use Rattle.pieces.specs.declared.Program.{Program}
use Rattle.stream.specs.Streams.{Passes, Runs}
use Rattle.stream.specs.declared.calls.Failure.{Failure}
use Rattle.stream.specs.declared.calls.Failure.TheVariants.{NotRead, NotWritten}
use Rattle.stream.proofs.Turns.{Turned, turned_none, turned_more, turned_all, turned_cut}
use Rattle.stream.proofs.over.Goals as goal

-- what was read and written before the turn that begins with this number, and what the turn does
module _ (program : Program) (number : ℕ) (input output mid between left after : Option (List ℕ))
    (turned : Turned (size_of program) (size-some program) (shown_of program) input output number mid between) where
  -- a turn that goes on
  more : {passed : Option ℕ} (next : ℕ) → passed ≡ Some next → Passes program number mid left between after (Ok passed)
      → (number < next) × (next ≤ most_records)
      × Turned (size_of program) (size-some program) (shown_of program) input output next left after
  more next is passes =
      let moved = subst (λ passed. Passes program number mid left between after (Ok passed)) is passes in (
        omega (arith, moved.3),
        omega (arith, moved.4),
        subst (λ n. Turned (size_of program) (size-some program) (shown_of program) input output n left after) (sym moved.3)
            (turned_more (size_of program) (size-some program) (shown_of program) input output number mid between left after turned moved.0 moved.1.0
            moved.2 (omega (arith, moved.3, moved.4)) moved.1.1),
      )

  -- the last one
  whole : {passed : Option ℕ} → passed ≡ None → number ≤ most_records → Passes program number mid left between after (Ok passed)
      → Runs program input left output after (Ok tt)
  whole is few passes =
      let moved = subst (λ passed. Passes program number mid left between after (Ok passed)) is passes in
      turned_all (size_of program) (size-some program) (shown_of program) input output number mid between left after turned moved.0 moved.1.0 moved.2
      moved.3 moved.4 few moved.1.1

  -- one in which a call of the system failed
  failed : (failure : Failure) → Passes program number mid left between after (Err failure) → Runs program input left output after (Err failure)
  failed (NotRead failure) moved = (
    turned.0 ++ moved.0,
    turned_cut (size_of program) (size-some program) (shown_of program) input output number mid between left after turned moved.0 moved.1.0 moved.1.1,
  )
  failed (NotWritten failure) moved = tt

pub loop-next-init : goal.loop-next-init
loop-next-init g c =
    let program = c.args.program in
    (omega arith, turned_none (size_of program) (size-some program) (shown_of program) _ _)

pub loop-next-preserved : goal.loop-next-preserved
loop-next-preserved g c =
    let state = c.loop-next.invariant in
    let turn = more c.args.program c.loop-next.number _ _ _ _ _ _ state.1 c.in-Some.next c.in-Some.is c.in_ok-next.ensures in
    (turn.1, turn.2)

pub loop-next-smaller : goal.loop-next-smaller
loop-next-smaller g c =
    let state = c.loop-next.invariant in
    let turn = more c.args.program c.loop-next.number _ _ _ _ _ _ state.1 c.in-Some.next c.in-Some.is c.in_ok-next.ensures in
    omega (arith, turn.0, turn.1)

pub returns : goal.returns
returns g c =
    let state = c.loop-next.invariant in
    whole c.args.program c.loop-next.number _ _ _ _ _ _ state.1 c.in_default.is state.0 c.in_ok-next.ensures

pub returns-in_err-next : goal.returns-in_err-next
returns-in_err-next g c =
    let state = c.loop-next.invariant in
    let same : c.from_residual.result ≡ Err c.in_err-next.field-0.0 = search rules in
    rw same (failed c.args.program c.loop-next.number _ _ _ _ _ _ state.1 c.in_err-next.field-0.0 c.in_err-next.ensures)
