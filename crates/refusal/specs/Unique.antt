-- No two refusals have one number and the same values, so what a contract says of a number and its values determines the case.
use Rattle.std.specs.Prelude.{ℕ, ◌-◌, ◌≡◌, refl, List, [], ◌∷◌, get_or}
use Rattle.std.proofs.Common.{sym, ap, ◌∙◌}
use Rattle.rules.specs.Refusals as rules
use Rattle.refusal.specs.Number.{refusal_of}
use Rattle.refusal.specs.declared.Refusal.{Refusal}
use Rattle.refusal.specs.declared.Refusal.TheVariants.{Size, Length, Mask, Folding, WideFolding, Range, NoCandidate, Allowance, Message, NoRoom, NotFinite, NotZero, Short, NotFull}

-- the cases in the order of their numbers, each at the same value
cases_at : ℕ → List Refusal
cases_at v =
    Size ∷ Length ∷ Mask ∷ Folding ∷ WideFolding ∷ Range v ∷ NoCandidate v ∷ Allowance ∷ Message ∷ NoRoom ∷ NotFinite v
    ∷ NotZero ∷ Short ∷ NotFull ∷ []

-- the case of a number and its values
case_of : rules.Refusal → Refusal
unfolding cases_at
case_of r = get_or (cases_at (get_or r.values 0 0)) (r.number - 1) Size

case_of_refusal : (r : Refusal) → case_of (refusal_of r) ≡ r
unfolding case_of
case_of_refusal Size = refl
case_of_refusal Length = refl
case_of_refusal Mask = refl
case_of_refusal Folding = refl
case_of_refusal WideFolding = refl
case_of_refusal (Range slot) = refl
case_of_refusal (NoCandidate level) = refl
case_of_refusal Allowance = refl
case_of_refusal Message = refl
case_of_refusal NoRoom = refl
case_of_refusal (NotFinite sample) = refl
case_of_refusal NotZero = refl
case_of_refusal Short = refl
case_of_refusal NotFull = refl

pub refusal_injective : (r s : Refusal) → refusal_of r ≡ refusal_of s → r ≡ s
refusal_injective r s e = sym (case_of_refusal r) ∙ ap case_of e ∙ case_of_refusal s
