-- The answer of `read` as an answer of the rules, whose success are the fields.
use Rattle.std.specs.Prelude.{ℕ, ◌+◌, ◌*◌, Bool, ◌&&◌, ◌||◌, List, ltb, eqb, Result}
use Rattle.rules.specs.Below.{all_below}
use Rattle.rules.specs.Refusals.{Answer}
use Rattle.rules.specs.Record as records
use Rattle.refusal.specs.Results.{answer_by}
use Rattle.refusal.specs.declared.Refusal.{Refusal}
use Rattle.word.specs.Words.{word_of}
use Rattle.record.specs.declared.Fields.{Fields}

-- the fields as the rules have them
abbrev pub fields_in : Fields → records.Fields
fields_in f = record { n = f.n; folding = f.folding; allowance = f.allowance; mask = word_of f.mask; levels = f.levels }

abbrev pub answer_of : Result Fields Refusal → Answer records.Fields
answer_of = answer_by fields_in

-- whether what has to be zero in a record with so many slots is
abbrev pub zeros_at : List ℕ → ℕ → Bool
zeros_at bytes slots =
    eqb (records.number_at bytes 2 2) 0
    && all_below records.record_slots (λ i. ltb i slots || eqb (records.number_at bytes (16 + 2 * i) 2) 0)
