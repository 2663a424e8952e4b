-- The reading of a read record determines what is read.
use Rattle.std.specs.Prelude.{◌≡◌, Result}
use Rattle.std.proofs.Common.{ap}
use Rattle.rules.specs.Record as records
use Rattle.refusal.specs.Results.{answer_by_injective}
use Rattle.refusal.specs.declared.Refusal.{Refusal}
use Rattle.word.specs.Unique.{word_injective}
use Rattle.record.specs.Reading.{fields_in, answer_of}
use Rattle.record.specs.declared.Fields.{Fields}

fields_injective : (r s : Fields) → fields_in r ≡ fields_in s → r ≡ s
fields_injective r s same i =
    record {
      n = (same i).n;
      folding = (same i).folding;
      allowance = (same i).allowance;
      mask = word_injective r.mask s.mask (ap (λ (f : records.Fields). f.mask) same) i;
      levels = (same i).levels;
    }

pub answer_injective : (r s : Result Fields Refusal) → answer_of r ≡ answer_of s → r ≡ s
answer_injective = answer_by_injective fields_in fields_injective
