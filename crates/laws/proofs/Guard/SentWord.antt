-- Demand 3: below the guard the least word is the word sent; at the guard it need not be.
use Rattle.std.specs.Prelude.{ℕ, ◌*◌, ◌^◌, ◌≤◌, ◌<◌, ◌≡◌, true, List, ℤ}
use Rattle.std.proofs.Common.{sym, ap, ◌∙◌, le_refl, le_of_lt, arith, pow_pos}
use Rattle.std.proofs.Math.Option.{some}
use Rattle.std.proofs.Math.Decide.{ℕ_discrete}
use Rattle.rules.specs.Word.{codeword, permitted}
use Rattle.rules.specs.Level.{level_cost, word_distance, Least}
use Rattle.rules.specs.Guard.{guard_of}
use Rattle.laws.proofs.Codewords.Weight.{weight_single}
use Rattle.laws.proofs.Guard.Farther.{farther, zero_of_gather}
use Rattle.laws.proofs.Guard.Tight.{halfway-length, halfway-moved, halfway_least, halfway_range}
use Rattle.laws.specs.Code.Permitted.{permitted-pow}
use Rattle.laws.specs.Guard.Fewest.{guard_fewest}
use Rattle.laws.specs.Guard.Margin.{total_moved}
use Rattle.laws.specs.Guard.SentWord.{LostAtGuard}
use Rattle.laws.specs.Guard.Tight.{halfway_levels}

-- levels moved from a permitted word by a total below the guard: that word is the least word
pub below_guard : (n mask g s : ℕ) (levels : List ℤ) → guard_of n mask ≡ some g → permitted n mask s ≡ true → total_moved n levels s < g
    → Least n mask (level_cost levels) s
below_guard n mask g s levels given allowed under = record {
  allowed = allowed;
  nearest = λ e p. near e p (ℕ_discrete e s);
  smallest = λ e p q. small e p q (ℕ_discrete e s);
}
  where
    near : (e : ℕ) → permitted n mask e ≡ true → Dec (e ≡ s) → word_distance n (level_cost levels) s ≤ word_distance n (level_cost levels) e
    near e p (yes q) = rw q (le_refl (word_distance n (level_cost levels) s))
    near e p (no z) = le_of_lt (farther n mask g s levels given allowed under e p z)

    small : (e : ℕ) → permitted n mask e ≡ true → word_distance n (level_cost levels) s ≡ word_distance n (level_cost levels) e → Dec (e ≡ s) → s ≤ e
    small e p q (yes t) = omega arith
    small e p q (no z) = absurd (omega (arith, farther n mask g s levels given allowed under e p z))

-- and no other word is
pub below_guard_only : (n mask g s : ℕ) (levels : List ℤ) → guard_of n mask ≡ some g → permitted n mask s ≡ true → total_moved n levels s < g
    → (d : ℕ) → Least n mask (level_cost levels) d → d ≡ s
below_guard_only n mask g s levels given allowed under d r = go (ℕ_discrete d s)
  where
    go : Dec (d ≡ s) → d ≡ s
    go (yes q) = q
    go (no z) = absurd (omega (arith, r.nearest s allowed, farther n mask g s levels given allowed under d r.allowed z))

-- for every mask with a guard there are such a word and such levels: no greater guard would do
pub at_guard : (n mask g : ℕ) → guard_of n mask ≡ some g → LostAtGuard n mask g
at_guard n mask g e =
    let r = guard_fewest n mask g e in
    let j = r.2.index in
    let x = codeword n (2 ^ j) in
    record {
      sent = 2 ^ j;
      levels = halfway_levels n x;
      allowed = permitted-pow n mask j r.2.inside r.2.passes;
      long = halfway-length n x;
      ranged = halfway_range n x;
      moved = halfway-moved n x ∙ ap (λ (y : ℕ). 256 * y) (weight_single n j r.2.inside ∙ ap (λ (y : ℕ). 2 ^ y) r.2.value) ∙ sym r.1;
      least = halfway_least n x mask;
      other = λ z. omega (arith, pow_pos j, zero_of_gather n mask (2 ^ j) (permitted-pow n mask j r.2.inside r.2.passes) z);
    }
