-- An option of the code as an option of the rules.
use Rattle.std.specs.Prelude.{◌≡◌, Option, None, Some, refl}
use Rattle.std.proofs.Math.Option as rules

-- what the code holds in an option, as the rules hold it
abbrev pub option_of : {A : Type 0} → Option A → rules.Option A
option_of None = rules.none
option_of (Some a) = rules.some a

-- the reading determines the option
pub option_injective : {A : Type 0} (r s : Option A) → option_of r ≡ option_of s → r ≡ s
option_injective None None e = refl
option_injective None (Some b) e = cc
option_injective (Some a) None e = cc
option_injective (Some a) (Some b) e = cc
