-- Each reading of this crate determines what is read.
use Rattle.std.specs.Prelude.{ℕ, ◌≡◌, Option, Result, Ok, Err, get_or}
use Rattle.std.proofs.Common.{ap}
use Rattle.rules.specs.Refusals.{Answer, refused, done}
use Rattle.word.specs.Options.{option_of, option_injective}
use Rattle.level.specs.Measuring.{measured_of}
use Rattle.level.specs.declared.OutOfRange.{OutOfRange}
use Rattle.level.specs.declared.Slot.{Slot}

-- what a search found
pub found_injective : (r s : Option ℕ) → option_of r ≡ option_of s → r ≡ s
found_injective = option_injective

-- what was measured
pub measured_injective : (r s : Result ℕ OutOfRange) → measured_of r ≡ measured_of s → r ≡ s
measured_injective (Ok a) (Ok b) e = cc
measured_injective (Ok a) (Err p) e = cc
measured_injective (Err p) (Ok b) e = cc
measured_injective (Err p) (Err q) e = ap (λ (slot : ℕ). Err (record { slot = slot })) (ap slot_in e)
  where
    slot_in : Answer ℕ → ℕ
    slot_in (done d) = d
    slot_in (refused r) = get_or r.values 0 0

-- a slot by its three numbers
pub slot_injective : (r s : Slot) → r.nearest ≡ s.nearest → r.zero ≡ s.zero → r.one ≡ s.one → r ≡ s
slot_injective r s p q t = λ i. record { nearest = p i; zero = q i; one = t i }
