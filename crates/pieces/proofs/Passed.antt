-- The records of a piece in turn, with both buffers: so many came off, one more does, and all have.
use Prim.Native.Nat.{ℕ, ◌+◌, ◌≤◌, ◌<◌}
use mathlib.Core.Path.{◌≡◌, sym, ◌∙◌}
use mathlib.Core.Bool.{true, true≢false}
use mathlib.Core.List.{List, []}
use native.Mathlib.Omega.{arith}
use lib.ListN.{length}
use Rattle.std.specs.Prelude.{◌⊎◌, Some}
use Rattle.std.proofs.Common.{inl, inr}
use Rattle.std.proofs.lemmas.List.{nil_from_length}
use Rattle.rules.specs.Text.{most_records, written_from}
use Rattle.laws.specs.Answers.Texts.{written_none, written_stops}
use Rattle.text.specs.Within.{Within}
use Rattle.pieces.specs.Programs.{size_of, size-some, shown_of, said_of, longest_shown, longest_said, has_room}
use Rattle.pieces.specs.Pieces.{Piece}
use Rattle.pieces.specs.declared.Ends.{Ends}
use Rattle.pieces.specs.declared.Program.{Program}
use Rattle.pieces.proofs.Room.{roomy_both}
use Rattle.pieces.proofs.Through.{Cut, Reached, reached_none, reached_next, Through, through_none, through_room, through_next, through_put}

ends_are : {e : Ends} {v w : ℕ} → e.out ≡ v → e.said ≡ w → Some e ≡ Some (record { out = v; said = w })
ends_are p q i = Some (record { out = p i; said = q i })

module _ (program : Program) (bytes : List ℕ) (number : ℕ) (out₀ said₀ : List ℕ) where
  -- so many records came off, and what is written for them is put in both buffers, which have room for all
  pub record Passed (rest : List ℕ) (ends : Ends) (k : ℕ) (out said : List ℕ) : Type 0 where
    pub passed : ℕ
    pub roomy : has_room program (length bytes) (length out₀) (length said₀) ≡ true
    pub reached : Reached (size_of program) bytes rest passed
    pub shown : Through (size_of program) (shown_of program) (longest_shown program) bytes number out₀ rest passed ends.out k out
    pub told : Through (size_of program) (said_of program) (longest_said program) bytes number said₀ rest passed ends.said k said

  pub passed_none : has_room program (length bytes) (length out₀) (length said₀) ≡ true
      → Passed bytes (record { out = 0; said = 0 }) number out₀ said₀
  passed_none roomy =
      record {
        passed = 0;
        roomy = roomy;
        reached = reached_none (size_of program) bytes;
        shown = through_none (size_of program) (shown_of program) (longest_shown program) bytes number out₀;
        told = through_none (size_of program) (said_of program) (longest_said program) bytes number said₀;
      }

  module _ {rest : List ℕ} {ends : Ends} {k : ℕ} {out said : List ℕ} (p : Passed rest ends k out said) where
    -- what is written for the next record has room
    pub passed_room : 0 < length rest → (ends.out + longest_shown program ≤ length out) × (ends.said + longest_said program ≤ length said)
    passed_room some =
        let room = roomy_both program (length bytes) (length out₀) (length said₀) p.roomy in (
          through_room _ _ _ _ _ _ p.shown (size-some program) p.reached some room.0,
          through_room _ _ _ _ _ _ p.told (size-some program) p.reached some room.1,
        )

    -- one record more
    pub passed_next : {part left out_after said_after : List ℕ} {last : Ends} → Cut (size_of program) rest part left → k < most_records
        → Within (longest_shown program) out ends.out (shown_of program k part) last.out out_after
        → Within (longest_said program) said ends.said (said_of program k part) last.said said_after → Passed left last (k + 1) out_after said_after
    passed_next cut few shown told =
        record {
          passed = p.passed + 1;
          roomy = p.roomy;
          reached = reached_next p.reached cut;
          shown = through_next _ _ _ _ _ _ p.shown cut few (passed_room cut.some).0 shown;
          told = through_next _ _ _ _ _ _ p.told cut few (passed_room cut.some).1 told;
        }

    -- where nothing is left to be written, since no bytes are left or the record numbers are at their end, the piece is written
    pub passed_all : (length rest ≡ 0) ⊎ (most_records ≤ k) → Piece program bytes number out₀ said₀ (Some ends) out said
    passed_all over =
        let a = through_put _ _ _ _ _ _ p.shown (none (shown_of program) over) in
        let b = through_put _ _ _ _ _ _ p.told (none (said_of program) over) in
        record {
          small = λ no. absurd (true≢false (sym p.roomy ∙ no));
          wide = λ room. (ends_are (omega (arith, a.ends)) (omega (arith, b.ends)), a.holds, b.holds);
          fits = (p.shown.fits, p.told.fits);
        }
      where
        none : (written : ℕ → List ℕ → List ℕ) → (length rest ≡ 0) ⊎ (most_records ≤ k) → written_from (size_of program) written k rest ≡ []
        none written (inl l) = rw (nil_from_length rest l) (written_none (size_of program) written k)
        none written (inr l) = written_stops (size_of program) written k rest l
