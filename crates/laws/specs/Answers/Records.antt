-- Reading a record and then decoding its fields answers what the record answers.
use Rattle.std.specs.Prelude.{ℕ, ◌^◌, ◌≡◌, refl, List, [], ◌∷◌, ◌++◌, length}
use Rattle.std.proofs.Common.{sym, ◌∙◌, pow_mono, length-take-le}
use Rattle.std.proofs.Math.Option.{Option}
use Rattle.rules.specs.Refusals.{Refusal, refused, done, answer, wrong_size, wrong_mask}
use Rattle.rules.specs.Orders.{code_order, folding_order, folded_order, walk_order}
use Rattle.rules.specs.Answers.{decoded, decode_answer}
use Rattle.rules.specs.Record.{Fields, fields_of, block_levels, record_slots, slot_level, short_record, not_zero, read_order, read_answer, record_order, record_answer}
use Rattle.laws.specs.Numbers.Each.{each-length}
use Rattle.laws.specs.Answers.Sizes.{size_right}
use Rattle.laws.specs.Answers.Orders.{passed, parts, answer_after, answer_refused, answer_again, FoldedRight, folded_right, LentRight}
use Rattle.laws.specs.Answers.DecodeOrder.{after_folded}

-- 13, 1, 12: the first part of reading
abbrev pub bytes_order : List ℕ → List (Option Refusal)
bytes_order bytes = short_record bytes ∷ wrong_size (fields_of bytes).n ∷ not_zero bytes (fields_of bytes).n ∷ []

-- reading is refused for the bytes, then for the code and the folding: 13, 1, 12 and then 1, 3, 4, 5
pub read_parts : {A : Type 0} (bytes : List ℕ) (a : A) → answer (read_order bytes) a
    ≡ answer (bytes_order bytes ++ folded_order (fields_of bytes).n (fields_of bytes).mask (fields_of bytes).folding) a
unfolding read_order folded_order code_order
read_parts bytes a =
    let f = fields_of bytes in
    sym
    (answer_again (short_record bytes ∷ []) (wrong_size f.n) (not_zero bytes f.n ∷ [])
    (wrong_mask f.n f.mask ∷ folding_order f.n f.folding) a)

-- a record that reading refuses is refused so
pub read-refused : (bytes : List ℕ) (r : Refusal) → read_answer bytes ≡ refused r → record_answer bytes ≡ refused r
unfolding read_answer record_answer record_order
read-refused bytes r e = answer_refused (read_order bytes) _ _ _ r e

-- the fields of a record that is read: the record's own, of a right code and folding, with every level
pub record Taken (bytes : List ℕ) (f : Fields) : Type 0 where
  pub fields : fields_of bytes ≡ f
  pub right : FoldedRight f.n f.mask f.folding
  pub long : length f.levels ≡ record_slots

-- reading takes no others
pub read_taken : (bytes : List ℕ) (f : Fields) → read_answer bytes ≡ done f → Taken bytes f
unfolding read_answer fields_of
read_taken bytes f e =
    let g = fields_of bytes in
    let tests = folded_order g.n g.mask g.folding in
    let read = passed (bytes_order bytes ++ tests) g f (sym (read_parts bytes g) ∙ e) in
    let own : Taken bytes g = record {
      fields = refl;
      right = (folded_right g.n g.mask g.folding).0 ((parts (bytes_order bytes) tests).0 read.0).1;
      long = each-length (slot_level bytes) record_slots;
    } in
    rw read.1 at own

-- the levels of the N slots are N
block_length : (f : Fields) → FoldedRight f.n f.mask f.folding → length f.levels ≡ record_slots → length (block_levels f) ≡ 2 ^ f.n
block_length f right long = length-take-le _ _ (rw long (pow_mono {j = 6} right.code.small))

-- a record that reading takes answers what decoding its fields answers
pub read_decoded : (bytes : List ℕ) (f : Fields) → read_answer bytes ≡ done f
    → record_answer bytes ≡ decode_answer f.n (block_levels f) f.mask f.folding f.allowance
unfolding read_answer record_answer record_order decode_answer
read_decoded bytes f e =
    let taken = read_taken bytes f e in
    let right = taken.right in
    let success = decoded f.n (block_levels f) f.mask f.folding in
    let slice : LentRight f.n (block_levels f) = record {
      size = size_right f.n right.code.some_slots right.code.small;
      long = block_length f right taken.long;
    } in
    rw taken.fields
    (answer_after (read_order bytes) (walk_order f.n (block_levels f) f.mask f.folding f.allowance) success
    (passed (read_order bytes) (fields_of bytes) f e).0
    ∙ sym (after_folded f.n (block_levels f) f.mask f.folding f.allowance success slice right))
