-- How the values of this crate read as those of the rules. The contracts speak through these definitions.
use Rattle.std.specs.Prelude.{ℕ, ◌^◌, ◌≡◌, List, ℤ, Result, Ok, Err}
use Rattle.rules.specs.Assembling as rules
use Rattle.rules.specs.Refusals.{Answer, largest}
use Rattle.rules.specs.Answers.{new_answer, give_answer, give_left}
use Rattle.refusal.specs.Results.{answer_by}
use Rattle.refusal.specs.declared.Refusal.{Refusal}
use Rattle.light.specs.declared.Reading.{Reading}
use Rattle.light.specs.declared.Reading.TheVariants.{Single, Pair, Erased}
use Rattle.light.specs.declared.Assembler.{Assembler}
use Rattle.light.specs.declared.Refused.{Refused}

-- the reading
abbrev pub reading_of : Reading → rules.Reading
reading_of (Single s) = rules.single s
reading_of (Pair p) = rules.pair p.in_phase p.quadrature
reading_of Erased = rules.erased

-- the assembler
abbrev pub assembler_of : Assembler → rules.Assembler
assembler_of a = record { n = a.n; filled = a.filled; levels = a.levels }

-- how many levels an assembler has room for
abbrev pub room : ℕ
room = 2 ^ largest

-- the result without the assembler that a refusal hands back
abbrev pub verdict_of : Result Assembler Refused → Result Assembler Refusal
verdict_of (Ok a) = Ok a
verdict_of (Err r) = Err r.why

-- the assembler that is handed back, with a success or a refusal
abbrev pub handed_of : Result Assembler Refused → Assembler
handed_of (Ok a) = a
handed_of (Err r) = r.assembler

-- the answer of a call that hands an assembler back, whose success is read by a function
abbrev pub answer_of : {A : Type 0} → (Assembler → A) → Result Assembler Refused → Answer A
answer_of f r = answer_by f (verdict_of r)

-- what is handed back: the answer, and the assembler
pub record Hands (answer : Answer (Unit {0})) (state : rules.Assembler) (r : Result Assembler Refused) : Type 0 where
  pub verdict : answer_of (λ a. tt) r ≡ answer
  pub left : assembler_of (handed_of r) ≡ state

-- what a new assembler is handed back as: the answer, and on refusal too the empty assembler of that n
pub record Starts (n : ℕ) (r : Result Assembler Refused) : Type 0 where
  pub verdict : answer_of assembler_of r ≡ new_answer room n
  pub left : assembler_of (handed_of r) ≡ rules.start room n

-- what giving out leaves: the answer, and the slice afterwards
pub record Gives (a : rules.Assembler) (before after : List ℤ) (r : Result (Unit {0}) Refusal) : Type 0 where
  pub verdict : answer_by (λ u. tt) r ≡ give_answer a before
  pub left : after ≡ give_left a before
