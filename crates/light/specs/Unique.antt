-- No second answer: two results that meet the contract of a public function are equal, and so is what they leave in lent memory.
use Rattle.std.specs.Prelude.{ℕ, ◌≡◌, refl, List, ℤ, Result, Ok, Err}
use Rattle.std.proofs.Common.{ap}
use Rattle.rules.specs.Assembling as rules
use Rattle.rules.specs.Answers.{take_answer, take_left}
use Rattle.refusal.specs.Number.{refusal_of}
use Rattle.refusal.specs.Results.{answer_by_injective}
use Rattle.refusal.specs.Unique.{refusal_injective}
use Rattle.refusal.specs.declared.Refusal.{Refusal}
use Rattle.laws.specs.Answers.OneAnswer.{one_answer}
use Rattle.light.specs.Values.{assembler_of, answer_of, handed_of, Hands, Starts, Gives}
use Rattle.light.specs.declared.Assembler.{Assembler}
use Rattle.light.specs.declared.Refused.{Refused}

-- ---- each reading of a value is one to one

assembler_injective : (a b : Assembler) → assembler_of a ≡ assembler_of b → a ≡ b
assembler_injective a b e = ap back e
  where
    back : rules.Assembler → Assembler
    back a = record { n = a.n; filled = a.filled; levels = a.levels }

refused_equal : (p q : Refused) → refusal_of p.why ≡ refusal_of q.why → p.assembler ≡ q.assembler → p ≡ q
refused_equal p q w a = let why = refusal_injective p.why q.why w in λ i. record { why = why i; assembler = a i }

-- a result that hands an assembler back, by its answer and that assembler
handed_equal : {A : Type 0} (f : Assembler → A) (q r : Result Assembler Refused) → answer_of f q ≡ answer_of f r
    → assembler_of (handed_of q) ≡ assembler_of (handed_of r) → q ≡ r
handed_equal f (Ok a) (Ok b) v e = ap Ok (assembler_injective a b e)
handed_equal f (Ok a) (Err q) v e = cc
handed_equal f (Err p) (Ok b) v e = cc
handed_equal f (Err p) (Err q) v e = ap Err (refused_equal p q (cc) (assembler_injective p.assembler q.assembler e))

-- ---- each contract has one result

-- `Assembler::new`
pub one_start : (n : ℕ) (q r : Result Assembler Refused) → Starts n q → Starts n r → q ≡ r
one_start n q r c d = handed_equal assembler_of q r (one_answer c.verdict d.verdict) (one_answer c.left d.left)

-- `Assembler::take`
pub one_taken : (a : rules.Assembler) (reading : rules.Reading) (q r : Result Assembler Refused) → Hands (take_answer a reading) (take_left a reading) q
    → Hands (take_answer a reading) (take_left a reading) r → q ≡ r
one_taken a reading q r c d = handed_equal (λ a. tt {0}) q r (one_answer c.verdict d.verdict) (one_answer c.left d.left)

-- `Assembler::give`
pub one_given : (a : rules.Assembler) (before m n : List ℤ) (q r : Result (Unit {0}) Refusal) → Gives a before m q → Gives a before n r
    → (q ≡ r) × (m ≡ n)
one_given a before m n q r c d =
    (answer_by_injective (λ u. tt {0}) (λ u v e. refl) q r (one_answer c.verdict d.verdict), one_answer c.left d.left)
