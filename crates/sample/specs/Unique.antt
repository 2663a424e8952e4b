-- The reading of a sample's level determines it.
use Rattle.std.specs.Prelude.{◌≡◌, refl, ℤ, Option, Some, None}
use Rattle.sample.specs.Steps.{quantised_of}

pub quantised_injective : (q r : Option ℤ) → quantised_of q ≡ quantised_of r → q ≡ r
quantised_injective (Some y) (Some z) e = cc
quantised_injective (Some y) None e = cc
quantised_injective None (Some z) e = cc
quantised_injective None None e = refl
