-- The fillings of a group in seat order: the values of its block with no frozen bit. Patterns and branches place by place.
-- What rests on the statements here stands in proofs/Seats/SeatedFillings.antt.
use Prim.Native.Nat.{ℕ, zero, suc, ◌+◌, ◌/◌, ◌^◌, ◌<◌}
use Rattle.std.specs.Prelude.{◌≡◌, refl, List, [], ◌∷◌, length, get_or}
use Rattle.std.proofs.Math.Path.{sym, ap}
use Rattle.std.proofs.Common.{◌∙◌, one-add, arith}
use Rattle.std.proofs.Math.Nat.{two-pow-succ}
use Rattle.rules.specs.Below.{sum_below}
use Rattle.rules.specs.Word.{bit, code_bit}
use Rattle.rules.specs.Walk.{pattern, branch}
use Rattle.laws.specs.Numbers.Bits.{bit-div}

-- the pattern of a list of indices is the number with their codeword bits
pub pattern_is : (n d u : ℕ) (is : List ℕ) → u < 2 ^ length is
    → ((t : ℕ) → t < length is → code_bit n d (get_or is t 0) ≡ bit u t) → pattern n d is ≡ u
unfolding pattern
pattern_is n d u [] l h = omega arith
pattern_is n d u (i ∷ is) l h =
    let rest : pattern n d is ≡ u / 2
    = pattern_is n d (u / 2) is (omega (arith, two-pow-succ (length is))) (λ t m. h (suc t) (omega arith) ∙ ap (bit u) (sym (one-add t)) ∙ sym (bit-div u 1 t)) in
    omega (arith, h 0 (omega arith))

-- a sum with its first number apart
pub sum_first : (m : ℕ) (f : ℕ → ℕ) → sum_below (suc m) f ≡ f 0 + sum_below m (λ i. f (suc i))
unfolding sum_below
sum_first zero f = omega arith
sum_first (suc m) f = omega (arith, sum_first m f)

-- the branch of a list of indices is a sum over its places
pub branch_is : (n : ℕ) (cost : ℕ → ℕ → ℕ) (d : ℕ) (is : List ℕ)
    → branch n cost d is ≡ sum_below (length is) (λ t. cost (get_or is t 0) (code_bit n d (get_or is t 0)))
unfolding branch sum_below
branch_is n cost d [] = refl
branch_is n cost d (i ∷ is) =
    ap (λ (x : ℕ). cost i (code_bit n d i) + x) (branch_is n cost d is)
    ∙ sym (sum_first (length is) (λ t. cost (get_or (i ∷ is) t 0) (code_bit n d (get_or (i ∷ is) t 0))))
