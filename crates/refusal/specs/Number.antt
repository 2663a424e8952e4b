-- Each refusal's number and values in document 01, and the refusal of the rules that they make.
use Rattle.std.specs.Prelude.{ℕ, ◌<◌, List, [], ◌∷◌}
use Rattle.std.proofs.Common.{arith}
use Rattle.rules.specs.Refusals as rules
use Rattle.refusal.specs.declared.Refusal.{Refusal}
use Rattle.refusal.specs.declared.Refusal.TheVariants.{Size, Length, Mask, Folding, WideFolding, Range, NoCandidate, Allowance, Message, NoRoom, NotFinite, NotZero, Short, NotFull}

-- the number of a refusal
abbrev pub number_of : Refusal → ℕ
number_of Size = 1
number_of Length = 2
number_of Mask = 3
number_of Folding = 4
number_of WideFolding = 5
number_of (Range slot) = 6
number_of (NoCandidate level) = 7
number_of Allowance = 8
number_of Message = 9
number_of NoRoom = 10
number_of (NotFinite sample) = 11
number_of NotZero = 12
number_of Short = 13
number_of NotFull = 14

-- the slot, level or sample that a refusal names
abbrev pub values_of : Refusal → List ℕ
values_of Size = []
values_of Length = []
values_of Mask = []
values_of Folding = []
values_of WideFolding = []
values_of (Range slot) = slot ∷ []
values_of (NoCandidate level) = level ∷ []
values_of Allowance = []
values_of Message = []
values_of NoRoom = []
values_of (NotFinite sample) = sample ∷ []
values_of NotZero = []
values_of Short = []
values_of NotFull = []

-- the refusal as the rules have it
abbrev pub refusal_of : Refusal → rules.Refusal
refusal_of r = record { number = number_of r; values = values_of r }

-- no number has more than two digits
pub number_short : (r : Refusal) → number_of r < 100
number_short Size = omega arith
number_short Length = omega arith
number_short Mask = omega arith
number_short Folding = omega arith
number_short WideFolding = omega arith
number_short (Range slot) = omega arith
number_short (NoCandidate level) = omega arith
number_short Allowance = omega arith
number_short Message = omega arith
number_short NoRoom = omega arith
number_short (NotFinite sample) = omega arith
number_short NotZero = omega arith
number_short Short = omega arith
number_short NotFull = omega arith
