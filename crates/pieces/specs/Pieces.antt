-- What writing a piece leaves: the program's output for its bytes in front of both buffers, or nothing where one of them has no room.
use Rattle.std.specs.Prelude.{ℕ, ◌≤◌, ◌≡◌, refl, Bool, true, false, Option, None, Some, IfSome, List, length}
use Rattle.std.proofs.lemmas.List.Edits.{sets}
use Rattle.laws.specs.Answers.OneAnswer.{one_answer}
use Rattle.pieces.specs.Programs.{has_room, shown_from, said_from}
use Rattle.pieces.specs.declared.Program.{Program}
use Rattle.pieces.specs.declared.Ends.{Ends}

module _ (program : Program) (bytes : List ℕ) (number : ℕ) (out said : List ℕ) where
  -- whether the buffers have room
  abbrev pub roomy : Bool
  roomy = has_room program (length bytes) (length out) (length said)

  -- where all of it ends
  abbrev pub all_ends : Ends
  all_ends = record { out = length (shown_from program number bytes); said = length (said_from program number bytes) }

  -- the answer, and the buffers afterwards
  pub record Piece (written : Option Ends) (out_after said_after : List ℕ) : Type 0 where
    pub small : roomy ≡ false → (written ≡ None) × (out_after ≡ out) × (said_after ≡ said)
    pub wide : roomy ≡ true
        → (written ≡ Some all_ends)
        × (out_after ≡ sets out 0 (shown_from program number bytes))
        × (said_after ≡ sets said 0 (said_from program number bytes))
    pub fits : IfSome written (λ ends. (ends.out ≤ length out) × (ends.said ≤ length said))

  -- they are determined
  pub one_piece : {r s : Option Ends} {out_after out_other said_after said_other : List ℕ} → Piece r out_after said_after → Piece s out_other said_other
      → (r ≡ s) × (out_after ≡ out_other) × (said_after ≡ said_other)
  one_piece {r} {s} {out_after} {out_other} {said_after} {said_other} p q = go roomy refl
    where
      go : (room : Bool) → roomy ≡ room → (r ≡ s) × (out_after ≡ out_other) × (said_after ≡ said_other)
      go true e =
          let a = p.wide e in
          let b = q.wide e in
          (one_answer a.0 b.0, one_answer a.1 b.1, one_answer a.2 b.2)
      go false e =
          let a = p.small e in
          let b = q.small e in
          (one_answer a.0 b.0, one_answer a.1 b.1, one_answer a.2 b.2)
