-- Levels joined by commas are the first, and each other one behind a comma.
use Rattle.std.proofs.Common.{◌≡◌, ◌≤◌, ◌-◌, ℕ, List, [], ◌∷◌, ◌++◌, take, drop, get_or, length, ℤ, pos, ap, ◌∙◌, arith}
use Rattle.std.proofs.lemmas.List.{append-nil, take_all, take_rest}
use Rattle.std.specs.List.{flat_map}
use Rattle.std.specs.Fmt.{signed_decimal}
use Rattle.printing.specs.Printed.{printed}

abbrev pub behind_commas : List ℤ → List ℕ
behind_commas levels = flat_map (λ z. 44 ∷ signed_decimal z) levels

joined : (z : ℤ) (zs : List ℤ) → signed_decimal z ++ behind_commas zs ≡ printed (z ∷ zs)
joined z [] = append-nil (signed_decimal z)
joined z (y ∷ zs) = ap (λ s. signed_decimal z ++ (44 ∷ s)) (joined y zs)

-- the others, as they are cut off behind the first
abbrev pub others : List ℤ → List ℤ
others levels = take (length levels - 1) (drop 1 levels)

pub all_passed : (levels : List ℤ) (i : ℕ) → 1 ≤ length levels → length (others levels) ≤ i → signed_decimal (get_or levels 0 (pos 0)) ++ behind_commas (take i (others levels)) ≡ printed levels
all_passed [] i some end = absurd (omega (arith, some))
all_passed (z ∷ zs) i some end =
    let cut : others (z ∷ zs) ≡ zs = take_rest (z ∷ zs) 1 in
    let whole : take i (others (z ∷ zs)) ≡ zs = take_all i (others (z ∷ zs)) end ∙ cut in
    ap (λ s. signed_decimal z ++ behind_commas s) whole ∙ joined z zs
