-- `lines::block::decode` meets its contract: what reading refuses is refused so, and what it takes answers as its fields do.
use Prim.Native.Nat.{ℕ, ◌^◌, ◌≤◌}
use mathlib.Core.List.{List}
use mathlib.Core.Path.{◌≡◌, sym, ap, ◌∙◌}
use native.Mathlib.Omega.{arith}
use lib.ListN.{take}
use lib.Pow.{pow_mono}
use Rattle.std.specs.Prelude.{Err}
use Rattle.std.proofs.Common.{rules}
use Rattle.rules.specs.Answers.{decode_answer}
use Rattle.rules.specs.Record.{Fields}
use Rattle.rules.specs.Refusals.{largest}
use Rattle.laws.specs.Answers.Records.{Taken, read-refused, read_decoded, read_taken}
use Rattle.word.specs.Words.{word_of, size_of}
use Rattle.word.specs.Sizes.{slots_are}
use Rattle.lines.proofs.block.decode.Goals as goal
use Rattle.lines.proofs.block.decode.Goals.{In_ok-fields}

-- a record that was taken has no more slots than levels
held : {bytes : List ℕ} {f : Fields} → Taken bytes f → (slots : ℕ) → slots ≡ 2 ^ size_of f.n → slots ≤ 2 ^ largest
held {f = f} taken slots count =
    omega (arith, slots_are f.n slots taken.right.code.small count, pow_mono {i = f.n} {j = largest} taken.right.code.small)

pub returns-in_err-fields : goal.returns-in_err-fields
returns-in_err-fields c =
    let same : c.from_residual.result ≡ Err c.in_err-fields.field-0.0 = search rules in
    rw same (sym (read-refused _ _ (sym c.in_err-fields.ensures)))

pub shared_ref_as_front-decode : goal.shared_ref_as_front-decode
shared_ref_as_front-decode c = held (read_taken _ _ (sym c.in_ok-fields.ensures)) _ c.slots.ensures

pub returns : goal.returns
returns c =
    let read = sym c.in_ok-fields.ensures in
    let fields = c.in_ok-fields.fields in
    c.decode.ensures
    ∙ ap (λ (m : ℕ). decode_answer fields.n (take m fields.levels) (word_of fields.mask) fields.folding fields.allowance)
    (slots_are _ _ (read_taken _ _ read).right.code.small c.slots.ensures)
    ∙ sym (read_decoded _ _ read)
