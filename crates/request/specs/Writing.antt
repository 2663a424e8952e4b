-- What writing a record leaves: the record in front of the buffer, or nothing where there is no room or the request is refused.
-- Before that, the levels of a record as they are written, slot by slot.
use Rattle.std.specs.Prelude.{ℕ, ◌≤◌, ◌<◌, ◌≡◌, refl, true, cond, List, map, ltb, ℤ, pos, length, Result, Ok, Err}
use Rattle.std.proofs.Common.{ap, arith}
use Rattle.std.proofs.Math.Option.{Option, none, some}
use Rattle.std.proofs.Math.Decide.{dec_le}
use Rattle.rules.specs.Below.{list_below}
use Rattle.rules.specs.Word.{bit}
use Rattle.rules.specs.Level.{ideal}
use Rattle.rules.specs.Refusals as rules
use Rattle.rules.specs.Record.{record_bytes}
use Rattle.rules.specs.Request.{Request, write_answer, level_bytes, write_left}
use Rattle.laws.specs.Answers.OneAnswer.{one_answer}
use Rattle.refusal.specs.Number.{refusal_of}
use Rattle.refusal.specs.Unique.{refusal_injective}
use Rattle.refusal.specs.declared.Refusal.{Refusal}
use Rattle.request.specs.declared.written.NotWritten.{NotWritten}
use Rattle.request.specs.declared.written.NotWritten.TheVariants.{NoRoom, Refused}

-- the level of a slot: the ideal one of its bit of x, and 0 beyond the block's slots
abbrev pub level_in : ℕ → ℕ → ℕ → ℤ
level_in x slots slot = cond (ltb slot slots) (ideal (bit x slot)) (pos 0)

-- the bytes of the first `count` slots
abbrev pub slot_bytes : ℕ → ℕ → ℕ → List ℕ
slot_bytes x slots count = level_bytes (map (level_in x slots) (list_below count (λ i. true)))

-- what `write` says of the request, which is nothing where there is no room
abbrev pub written_of : Result (Unit {0}) NotWritten → Option (rules.Answer (Unit {0}))
written_of (Ok success) = some (rules.done tt)
written_of (Err NoRoom) = none
written_of (Err (Refused refusal)) = some (rules.refused (refusal_of refusal))

-- the answer, and the buffer afterwards
pub record Wrote (request : Request) (before : List ℕ) (written : Result (Unit {0}) NotWritten) (after : List ℕ) : Type 0 where
  pub small : length before < record_bytes → (written_of written ≡ none) × (after ≡ before)
  pub wide : record_bytes ≤ length before
      → (written_of written ≡ some (write_answer request)) × (after ≡ write_left request before)

-- the reading determines what is read
pub written_injective : (r s : Result (Unit {0}) NotWritten) → written_of r ≡ written_of s → r ≡ s
written_injective (Ok a) (Ok b) same = refl
written_injective (Ok a) (Err NoRoom) same = cc
written_injective (Ok a) (Err (Refused q)) same = cc
written_injective (Err NoRoom) (Ok b) same = cc
written_injective (Err NoRoom) (Err NoRoom) same = refl
written_injective (Err NoRoom) (Err (Refused q)) same = cc
written_injective (Err (Refused p)) (Ok b) same = cc
written_injective (Err (Refused p)) (Err NoRoom) same = cc
written_injective (Err (Refused p)) (Err (Refused q)) same =
    ap (λ (refusal : Refusal). Err (Refused refusal)) (refusal_injective p q (cc))

-- the answer and the buffer are determined
pub one_wrote : {request : Request} {before : List ℕ} {r s : Result (Unit {0}) NotWritten} {after other : List ℕ} → Wrote request before r after
    → Wrote request before s other → (r ≡ s) × (after ≡ other)
one_wrote {request} {before} {r} {s} {after} {other} p q = go (dec_le record_bytes (length before))
  where
    go : Dec (record_bytes ≤ length before) → (r ≡ s) × (after ≡ other)
    go (yes l) = (written_injective r s (one_answer (p.wide l).0 (q.wide l).0), one_answer (p.wide l).1 (q.wide l).1)
    go (no l) =
        let small : length before < record_bytes = omega arith in
        (written_injective r s (one_answer (p.small small).0 (q.small small).0), one_answer (p.small small).1 (q.small small).1)
