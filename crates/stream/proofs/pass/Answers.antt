-- `stream::pass` meets its contract: the bytes that it has read stand at the front of its buffer, and so does what it writes for them.
use Prim.Native.Nat.{ℕ, ◌+◌, ◌≤◌, ◌<◌}
use mathlib.Core.Path.{◌≡◌, refl, sym, ap, ◌∙◌}
use mathlib.Core.Bool.{Bool, true, false, true≢false}
use mathlib.Core.List.{List, ◌++◌}
use native.Mathlib.Omega.{arith}
use borrow.Author.Tests.{leb-true, ltb-true}
use borrow.Rule.Slice.PartMut.{post_of}
use lib.Dec.{leb, ltb}
use lib.ListN.{length, take, drop}
use lib.Seq.{sets-eq, take-take, take-append-le, length-take-le}
use Rattle.std.specs.Prelude.{Option, None, Some, Ok, cond}
use Rattle.std.specs.Io.KnownBytes.{Consumes, Appends, IsAtEnd}
use Rattle.std.proofs.Common.{subst, le_refl, rules}
use Rattle.std.proofs.lemmas.Bool.{and_parts}
use Rattle.std.proofs.Math.Decide.{dec_lt}
use Rattle.std.proofs.Math.Seq.{take-append_seam}
use Rattle.rules.specs.Text.{most_records}
use Rattle.laws.specs.Answers.Pieces.{piece_records, piece_bytes, taken_of, has_next, taken-le, next_more}
use Rattle.text.specs.Puts.{Put}
use Rattle.pieces.specs.Programs.{size_of, shown_from}
use Rattle.pieces.specs.declared.Program.{Program}
use Rattle.stream.specs.Pieces.{next_piece}
use Rattle.stream.specs.Streams.{Moves, MovesCut, Passes}
use Rattle.stream.proofs.pass.Goals as goal

-- what is put at the front of a buffer stands there
put_front : {before after : List ℕ} {text : List ℕ} {end : ℕ} → Put before 0 text end after → end ≤ length before → take end after ≡ text
put_front {before} {after} {text} {end} put room =
    let long : end ≡ length text = omega (arith, put.ends) in
    ap (take end) (put.holds ∙ sets-eq text before 0 (omega (arith, put.ends)))
    ∙ ap (λ n. take n (text ++ drop (0 + length text) before)) long
    ∙ take-append_seam text (drop (0 + length text) before)

module _ (program : Program) (number : ℕ) (input left output after : Option (List ℕ)) (bytes behind : List ℕ) (got taken : ℕ)
    (fits : got ≤ length bytes) {before out : List ℕ} {end : ℕ} (read : Consumes input left (take got bytes))
    (put : Put before 0 (shown_from program number (take taken (bytes ++ behind))) end out) (room : end ≤ length before)
    (wrote : Appends output after (take end out)) where
  -- the bytes that count stand at the front of those that were read
  moves : taken ≤ got → Moves program number input left output after (take got bytes) (take taken (take got bytes))
  moves few =
      let counted : take end out ≡ shown_from program number (take taken (take got bytes)) =
      put_front put room
      ∙ ap (shown_from program number) (take-append-le taken bytes behind (omega arith) ∙ sym (take-take taken got bytes few))
      in
      (read, subst (Appends output after) counted wrote)

  -- those of whole records
  moves_cut : taken ≡ taken_of (size_of program) true got → MovesCut program number input left output after
  moves_cut e =
      let size = size_of program in
      let long : got ≡ length (take got bytes) = sym (length-take-le got bytes fits) in (
        take got bytes,
        subst (λ n. Moves program number input left output after (take got bytes) (take n (take got bytes)))
            (e ∙ ap (taken_of size true) long) (moves (omega (arith, e, taken-le size true got))),
      )

  -- all of them, by what comes after the piece
  moves_all : taken ≡ got → got ≤ piece_bytes (size_of program) number → (got < piece_bytes (size_of program) number → IsAtEnd left)
      → Passes program number input left output after (Ok (next_piece program number got))
  moves_all e most ends = go (has_next (size_of program) number got) refl
    where
      full : ℕ
      full = piece_bytes (size_of program) number

      all : Moves program number input left output after (take got bytes) (take got bytes)
      all =
          let same : take taken (take got bytes) ≡ take got bytes =
          ap (λ n. take n (take got bytes)) e ∙ take-take got got bytes (le_refl got)
          in
          subst (Moves program number input left output after (take got bytes)) same (moves (omega (arith, e)))

      long : length (take got bytes) ≡ got
      long = length-take-le got bytes fits

      go : (more : Bool) → has_next (size_of program) number got ≡ more
          → Passes program number input left output after (Ok (cond more (Some (number + piece_records)) None))
      go true is =
          let tests = and_parts (leb full got) (ltb (number + piece_records) most_records) is in
          (take got bytes, all, omega (arith, long, leb-true _ _ tests.0), refl, ltb-true _ _ tests.1)
      go false is = (
        take got bytes,
        all,
        omega (arith, long),
        (λ short. ends (omega (arith, long, short))),
        (λ whole. last (dec_lt (number + piece_records) most_records) (omega (arith, long, whole))),
      )
        where
          last : Dec (number + piece_records < most_records) → full ≤ got → most_records ≤ number + piece_records
          last (no l) whole = omega arith
          last (yes l) whole = absurd (true≢false (sym (next_more (size_of program) number got whole l) ∙ is))

pub returns-in-Some : goal.returns-in-Some
returns-in-Some g c =
    let failed : c.is_some.result ≡ true = search rules in
    moves_cut c.args.piece.program c.args.piece.number (g.R.Read.remaining c.args.streams.now.input) (g.R.Read.remaining c.fill-got.new.input)
    (g.W.Write.contents c.args.streams.now.output) (g.W.Write.contents c.put-2.new.output) c.fill-got.new.bytes (post_of 0 c.bytes.result c.args.buffers.now.bytes) c.fill-got.result.len
    c.taken-taken.result (search rules) c.fill-got.ensures.read c.written-ends.ensures.shown c.written-ends.ensures.within.0
    (search rules) (rw failed at c.taken-taken.ensures)

pub returns : goal.returns
returns g c =
    let sound : c.is_some.result ≡ false = search rules in
    rw c.after.ensures
    (moves_all c.args.piece.program c.args.piece.number (g.R.Read.remaining c.args.streams.now.input) (g.R.Read.remaining c.fill-got.new.input)
    (g.W.Write.contents c.args.streams.now.output) (g.W.Write.contents c.put-2.new.output) c.fill-got.new.bytes (post_of 0 c.bytes.result c.args.buffers.now.bytes) c.fill-got.result.len
    c.taken-taken.result (search rules) c.fill-got.ensures.read c.written-ends.ensures.shown c.written-ends.ensures.within.0
    (search rules) (rw sound at c.taken-taken.ensures) (omega (arith, c.bytes.ensures))
    (λ short. c.fill-got.ensures.end (omega (arith, short, c.bytes.ensures)) (search rules)))
