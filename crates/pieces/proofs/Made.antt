-- A record that is written into the part of a buffer from a place on is put at that place.
use Prim.Native.Nat.{ℕ, ◌+◌, ◌-◌, ◌≤◌}
use mathlib.Core.Path.{◌≡◌, sym, ◌∙◌, ap}
use mathlib.Core.List.{List, [], ◌++◌, append_assoc, append-nil}
use native.Mathlib.Omega.{arith}
use lib.ListN.{length, take, drop, length-drop, drop_of_length-le}
use lib.Seq.{sets, sets-eq, take_all, drop-drop}
use Rattle.std.specs.Prelude.{Result, Ok}
use Rattle.std.proofs.Math.Option.{some}
use Rattle.rules.specs.Refusals.{done}
use Rattle.rules.specs.Record.{record_bytes}
use Rattle.rules.specs.Request.{Request, write_order, write_answer, record_of, write_left}
use Rattle.laws.specs.Answers.Orders.{Passed, passed_done}
use Rattle.laws.proofs.Answers.Requests.{write_right}
use Rattle.laws.proofs.Answers.WrittenRecord.{record_length}
use Rattle.text.specs.Within.{Within}
use Rattle.request.specs.Writing.{Wrote, written_injective}
use Rattle.request.specs.declared.written.NotWritten.{NotWritten}

module _ (r : Request) (right : Passed (write_order r)) where
  -- a buffer with room has the record in front
  wrote_front : {before after : List ℕ} {written : Result (Unit {0}) NotWritten} → record_bytes ≤ length before → Wrote r before written after
      → after ≡ record_of r ++ drop record_bytes before
  unfolding write_left write_answer
  wrote_front room wrote =
      let so : write_answer r ≡ done tt = passed_done (write_order r) tt right in
      rw so at (wrote.wide room).1

  -- and there is nothing that it could refuse
  pub wrote_ok : {before after : List ℕ} {written : Result (Unit {0}) NotWritten} → record_bytes ≤ length before → Wrote r before written after
      → written ≡ Ok tt
  unfolding write_answer
  wrote_ok {written = written} room wrote =
      let so : write_answer r ≡ done tt = passed_done (write_order r) tt right in
      written_injective written (Ok tt) ((wrote.wide room).0 ∙ ap some so)

  module _ (buffer : List ℕ) (at : ℕ) (room : at + record_bytes ≤ length buffer) where
    -- the part from the place on is all that is left of the buffer
    whole_part : take (length buffer - at) (drop at buffer) ≡ drop at buffer
    whole_part = take_all (length buffer - at) (drop at buffer) (omega (arith, length-drop at buffer))

    none_behind : drop (length buffer - at) (drop at buffer) ≡ []
    none_behind = drop_of_length-le (drop at buffer) {i = length buffer - at} (omega (arith, length-drop at buffer))

    -- with the record in its front, the buffer has it at the place
    put_back : take at buffer ++ (record_of r ++ drop record_bytes (drop at buffer) ++ []) ≡ sets buffer at (record_of r)
    put_back =
        let long = record_length r ((write_right r).0 right) in
        let cut = rw long at (sets-eq (record_of r) buffer at (omega (arith, long))) in
        ap (λ (rest : List ℕ). take at buffer ++ rest)
        (append-nil (record_of r ++ drop record_bytes (drop at buffer)) ∙ ap (λ (rest : List ℕ). record_of r ++ rest) (drop-drop record_bytes at buffer))
        ∙ sym (append_assoc (take at buffer) (record_of r) (drop (at + record_bytes) buffer))
        ∙ sym cut

    pub record_put : {written : Result (Unit {0}) NotWritten} {after : List ℕ} → Wrote r (take (length buffer - at) (drop at buffer)) written after
        → Within record_bytes buffer at (record_of r) (at + record_bytes) (take at buffer ++ (after ++ drop (length buffer - at) (drop at buffer)))
    record_put wrote =
        let long = record_length r ((write_right r).0 right) in
        let front = wrote_front (omega (arith, length-drop at buffer)) (rw whole_part at wrote) in
        record {
          put = record { ends = omega (arith, long); holds = rw (none_behind, front) put_back };
          short = omega (arith, long);
        }
