-- What is written for the records of a piece in turn, to each of the two buffers: before the first record, one record more, and where
-- it is all that is to be written.
use Prim.Native.Nat.{ℕ, ◌+◌, ◌*◌, ◌/◌, ◌≤◌, ◌<◌, min}
use mathlib.Core.Path.{◌≡◌, refl, sym, ◌∙◌, ap}
use mathlib.Core.List.{List, [], ◌++◌, append_assoc, append-nil}
use native.Mathlib.Nat.{add-mul, sub-zero}
use native.Mathlib.Omega.{arith}
use lib.ListN.{length, take, drop, length-append}
use lib.Seq.{take_at, drop_at}
use Rattle.rules.specs.Text.{most_records, written_from}
use Rattle.laws.specs.Answers.Texts.{record_end}
use Rattle.laws.proofs.Answers.Texts.{written_from_lem}
use Rattle.text.specs.Puts.{Put, put_none, put-length, put_then}
use Rattle.text.specs.Within.{Within}
use Rattle.pieces.proofs.Room.{next_fits}

-- a record of at most so many bytes comes off the front of the bytes that are left
pub record Cut (size : ℕ) (rest part left : List ℕ) : Type 0 where
  pub parts : rest ≡ part ++ left
  pub long : length part ≡ min size (length rest)
  pub some : 0 < length rest

-- so many records came off, and these bytes are left
pub record Reached (size : ℕ) (bytes rest : List ℕ) (passed : ℕ) : Type 0 where
  pub before : 0 < length rest → passed * size + length rest ≡ length bytes

pub reached_none : (size : ℕ) (bytes : List ℕ) → Reached size bytes bytes 0
reached_none size bytes = record { before = λ _. omega arith }

-- one record more
pub reached_next : {size : ℕ} {bytes rest part left : List ℕ} {passed : ℕ} → Reached size bytes rest passed → Cut size rest part left
    → Reached size bytes left (passed + 1)
reached_next {size} {bytes} {rest} {part} {left} {passed} r cut =
    let lengths : length rest ≡ length part + length left = ap length cut.parts ∙ length-append part left in
    record { before = λ more. omega (arith, lengths, cut.long, r.before cut.some, add-mul passed 1 size) }

-- what is written for the first record, then for the others
written_cut : (size : ℕ) (written : ℕ → List ℕ → List ℕ) (k : ℕ) {rest part left : List ℕ} → Cut size rest part left → k < most_records
    → written_from size written k rest ≡ written k part ++ written_from size written (k + 1) left
written_cut size written k {rest} {part} {left} cut few =
    let first : take (length part) rest ≡ part = rw (cut.parts) (take_at part left (length part) refl) in
    let others : drop (length part) rest ≡ left = rw (cut.parts) (drop_at part left (length part) refl) in
    let end : length part ≡ record_end size rest 0 = omega (arith, cut.long) in
    written_from_lem size written k 0 (length part) rest end few cut.some ∙ rw (sub-zero, first, others)

module _ (size : ℕ) (written : ℕ → List ℕ → List ℕ) (longest : ℕ) (bytes : List ℕ) (number : ℕ) (before : List ℕ) where
  -- what is written for the records that came off is put; what is to be written for the bytes that are left is to come
  pub record Through (rest : List ℕ) (passed end k : ℕ) (out : List ℕ) : Type 0 where
    pub text : List ℕ
    pub put : Put before 0 text end out
    pub whole : text ++ written_from size written k rest ≡ written_from size written number bytes
    pub room : end ≤ passed * longest
    pub fits : end ≤ length before

  pub through_none : Through bytes 0 0 number before
  through_none = record { text = []; put = put_none before 0; whole = refl; room = omega arith; fits = omega arith }

  module _ {rest : List ℕ} {passed end k : ℕ} {out : List ℕ} (t : Through rest passed end k out) where
    -- what is written for the next record has room
    pub through_room : 0 < size → Reached size bytes rest passed → 0 < length rest → (length bytes / size + 1) * longest ≤ length before
        → end + longest ≤ length out
    through_room positive at some wide =
        let fits = next_fits size (length bytes) (passed * size) passed longest (length before) positive refl (omega (arith, at.before some)) wide in
        omega (arith, fits, t.room, put-length t.put)

    -- one record more
    pub through_next : {part left after : List ℕ} {last : ℕ} → Cut size rest part left → k < most_records → end + longest ≤ length out
        → Within longest out end (written k part) last after → Through left (passed + 1) last (k + 1) after
    through_next {part} {left} {after} {last} cut few wide more =
        record {
          text = t.text ++ written k part;
          put = put_then t.put more.put;
          whole =
              append_assoc t.text (written k part) (written_from size written (k + 1) left)
              ∙ ap (λ (r : List ℕ). t.text ++ r) (sym (written_cut size written k cut few))
              ∙ t.whole;
          room = omega (arith, t.room, more.short, more.put.ends, add-mul passed 1 longest);
          fits = omega (arith, wide, put-length t.put, more.short, more.put.ends);
        }

    -- where nothing is left to be written, the buffer has all of it
    pub through_put : written_from size written k rest ≡ [] → Put before 0 (written_from size written number bytes) end out
    through_put none =
        let all : t.text ≡ written_from size written number bytes =
        sym (append-nil t.text) ∙ ap (λ (r : List ℕ). t.text ++ r) (sym none) ∙ t.whole
        in
        rw all at t.put
