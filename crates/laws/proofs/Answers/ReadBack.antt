-- The record that is written for a request, read: it gives the request's fields and the levels sent back.
use Rattle.std.specs.Prelude.{◌^◌, ◌<◌, ◌≡◌, ◌++◌}
use Rattle.std.proofs.Math.Path.{sym, ap}
use Rattle.std.proofs.Common.{◌∙◌, le_of_eq, arith, le-ltb}
use Rattle.std.proofs.Math.Pow.{pow_mono}
use Rattle.rules.specs.Refusals.{done, refuse}
use Rattle.rules.specs.Orders.{folded_order}
use Rattle.rules.specs.Record.{fields_of, read_answer}
use Rattle.rules.specs.Request.{Request, bytes_of, record_of}
use Rattle.laws.proofs.Answers.WrittenRecord.{levels_back, quiet, record_length}
use Rattle.laws.specs.Answers.Orders.{Passed, folded_right, parts, passed_done}
use Rattle.laws.specs.Answers.Records.{bytes_order, read_parts}
use Rattle.laws.specs.Answers.Requests.{WriteRight}
use Rattle.laws.specs.Answers.Sizes.{size_right}
use Rattle.laws.specs.Answers.WrittenRecord.{slots_few, written_fields}
use Rattle.laws.specs.Numbers.BytesOf.{field_back}

module _ (r : Request) (right : WriteRight r) where
  module _ (small : r.allowance < 256 ^ 4) where
    -- each field is read where it was written
    fields_back : fields_of (record_of r) ≡ written_fields r
    unfolding fields_of record_of bytes_of
    fields_back = λ i. record {
      n = field_back 1 r.n (omega (arith, right.folded.code.small)) i;
      folding = field_back 1 r.folding (omega (arith, right.folded.sets.fits, (slots_few r right))) i;
      allowance = field_back 4 r.allowance small i;
      mask = field_back 8 r.mask (omega (arith, right.folded.code.mask_fits, pow_mono {j = 64} (slots_few r right))) i;
      levels = (levels_back r right) i;
    }

    -- and no refusal is given
    bytes-passed : Passed (bytes_order (record_of r))
    bytes-passed =
        rw fields_back (
          ap (refuse 13) (le-ltb _ _ (le_of_eq (sym (record_length r right)))),
          (ap (refuse 1) (size_right r.n right.folded.code.some_slots right.folded.code.small), ((quiet r right), tt)),
        )

    -- reading a written record gives the request's fields, with the levels written
    pub read_back : read_answer (record_of r) ≡ done (written_fields r)
    unfolding read_answer
    read_back =
        let f = fields_of (record_of r) in
        let tests = folded_order f.n f.mask f.folding in
        let folded : Passed tests = rw fields_back ((folded_right r.n r.mask r.folding).1 right.folded) in
        read_parts (record_of r) f
        ∙ passed_done (bytes_order (record_of r) ++ tests) f ((parts (bytes_order (record_of r)) tests).1 (bytes-passed, folded))
        ∙ ap done fields_back
