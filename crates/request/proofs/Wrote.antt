-- The three outcomes of writing a record: no room, a refusal, and the record, which is its header and then its levels slot by slot.
use Prim.Native.Nat.{ℕ, ◌^◌, ◌≤◌, ◌<◌}
use mathlib.Core.Path.{◌≡◌, refl, sym, ◌∙◌, ap}
use mathlib.Core.List.{List, ◌++◌}
use native.Mathlib.Decide.{dec_lt}
use native.Mathlib.Omega.{arith}
use lib.IntN.{ℤ, pos}
use lib.ListN.{length, get_or}
use lib.Seq.{sets, sets-eq}
use borrow.Author.Tests.{lt-ltb, le-ltb}
use Rattle.std.specs.Prelude.{Ok, Err}
use Rattle.rules.specs.Refusals as rules
use Rattle.rules.specs.Answers.{encoded}
use Rattle.rules.specs.Record.{record_bytes, record_slots}
use Rattle.rules.specs.Request.{Request, write_order, write_answer, level_bytes, record_levels, record_of, write_left}
use Rattle.laws.specs.Numbers.Each.{each_all}
use Rattle.laws.specs.Answers.Orders.{Passed, passed_done, refused_so}
use Rattle.laws.specs.Answers.Requests.{WriteRight}
use Rattle.laws.proofs.Answers.Requests.{write_right}
use Rattle.laws.specs.Answers.WrittenRecord.{header, levels_length, level_sent, level_zero}
use Rattle.laws.proofs.Answers.WrittenRecord.{record_length}
use Rattle.refusal.specs.Number.{refusal_of}
use Rattle.refusal.specs.declared.Refusal.{Refusal}
use Rattle.text.specs.Puts.{Put}
use Rattle.request.specs.Writing.{level_in, slot_bytes, Wrote}
use Rattle.request.specs.declared.written.NotWritten.TheVariants.{NoRoom, Refused}

-- the codeword that a request's record carries
abbrev sent : Request → ℕ
sent r = (encoded r.n r.mask r.message).x

-- a record is its header, and the levels of its slots in turn
record_parts : (r : Request) → WriteRight r → header r ++ slot_bytes (sent r) (2 ^ r.n) record_slots ≡ record_of r
unfolding record_of
record_parts r right =
    ap (λ (levels : List ℤ). header r ++ level_bytes levels)
    (sym (each_all (level_in (sent r) (2 ^ r.n)) (pos 0) (record_levels r) record_slots (levels_length r right) (λ i l. level i l (dec_lt i (2 ^ r.n)))))
  where
    level : (i : ℕ) → i < record_slots → Dec (i < 2 ^ r.n) → get_or (record_levels r) i (pos 0) ≡ level_in (sent r) (2 ^ r.n) i
    level i l (yes inside) = level_sent r right i inside ∙ sym (rw (lt-ltb i (2 ^ r.n) inside))
    level i l (no beyond) = level_zero r right i (omega arith) l ∙ sym (rw (le-ltb i (2 ^ r.n) (omega arith)))

module _ (r : Request) (before : List ℕ) where
  -- there is no room
  pub wrote_none : length before < record_bytes → Wrote r before (Err NoRoom) before
  wrote_none l = record { small = λ less. (refl, refl); wide = λ room. absurd (omega arith) }

  -- the request is refused
  pub wrote_refused : {A : Type 0} (a : A) (refusal : Refusal) → record_bytes ≤ length before → rules.answer (write_order r) a ≡ rules.refused (refusal_of refusal)
      → Wrote r before (Err (Refused refusal)) before
  unfolding write_answer write_left
  wrote_refused a refusal l e =
      let so : write_answer r ≡ rules.refused (refusal_of refusal) = refused_so (write_order r) a tt _ e in
      record { small = λ less. absurd (omega arith); wide = λ room. rw so (refl, refl) }

  -- the record is written
  pub wrote_record : {x slots end : ℕ} {after : List ℕ} → record_bytes ≤ length before → Passed (write_order r) → sent r ≡ x → slots ≡ 2 ^ r.n
      → Put before 0 (header r ++ slot_bytes x slots record_slots) end after → Wrote r before (Ok tt) after
  unfolding write_answer write_left
  wrote_record l right word all put =
      let so : write_answer r ≡ rules.done tt = passed_done (write_order r) tt right in
      let fields = (write_right r).0 right in
      let whole = rw (word, ← all) at (record_parts r fields) in
      let long = record_length r fields in
      let front = rw long at (sets-eq (record_of r) before 0 (omega (arith, long))) in
      record {
        small = λ less. absurd (omega arith);
        wide = λ room. rw so (refl, put.holds ∙ ap (λ (bytes : List ℕ). sets before 0 bytes) whole ∙ front);
      }
