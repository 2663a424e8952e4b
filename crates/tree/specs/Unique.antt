-- The reading of this crate's answer determines the answer.
use Rattle.std.specs.Prelude.{ℕ, ◌≡◌, refl, Result, Ok, Err}
use Rattle.std.proofs.Common.{ap, arith}
use Rattle.rules.specs.Refusals.{done}
use Rattle.rules.specs.Answers as rules
use Rattle.refusal.specs.Results.{answer_by_injective}
use Rattle.refusal.specs.declared.Refusal.{Refusal}
use Rattle.word.specs.Unique.{word_injective}
use Rattle.tree.specs.Reading.{decoded_of, answer_of}
use Rattle.tree.specs.declared.Decoded.{Decoded}

pub decoded_injective : (r s : Decoded) → decoded_of r ≡ decoded_of s → r ≡ s
decoded_injective r s same i =
    record {
      message = word_injective r.message s.message (ap (λ (k : rules.Decoded). k.message) same) i;
      d = word_injective r.d s.d (ap (λ (k : rules.Decoded). k.d) same) i;
      x = word_injective r.x s.x (ap (λ (k : rules.Decoded). k.x) same) i;
      distance = (same i).distance;
      visits = (same i).visits;
    }

pub answer_injective : (r s : Result Decoded Refusal) → answer_of r ≡ answer_of s → r ≡ s
answer_injective = answer_by_injective decoded_of decoded_injective

-- an answer read as a success is one, and holds what it was read as
pub is_found : (r : Result Decoded Refusal) (k : rules.Decoded) → answer_of r ≡ done k
    → (found : Decoded) × (r ≡ Ok found) × (decoded_of found ≡ k)
is_found (Ok found) k e = (found, refl, cc)
is_found (Err r) k e = let z : ◌≡◌ {A = ℕ} 0 1 = cc in absurd (omega arith)
