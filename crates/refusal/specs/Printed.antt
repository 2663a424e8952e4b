-- A refusal as a line of text: its number, and the slot, level or sample that it names.
use Rattle.std.specs.Prelude.{ℕ, List, [], ◌++◌, codes}
use Rattle.std.specs.Fmt.{decimal}
use Rattle.refusal.specs.Number.{number_of}
use Rattle.refusal.specs.declared.Refusal.{Refusal}
use Rattle.refusal.specs.declared.Refusal.TheVariants.{Range, NoCandidate, NotFinite}

-- what a refusal names, with the word for it
abbrev pub named : Refusal → List ℕ
named (Range slot) = codes " slot " ++ decimal slot
named (NoCandidate level) = codes " level " ++ decimal level
named (NotFinite sample) = codes " sample " ++ decimal sample
named r = []

abbrev pub printed : Refusal → List ℕ
printed r = codes "refused " ++ decimal (number_of r) ++ named r
