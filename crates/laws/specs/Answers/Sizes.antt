-- An n that is not wrong: it is 1 at least and the largest at most.
use Rattle.std.specs.Prelude.{ℕ, ◌≤◌, ◌≡◌, refl, Bool, true, false, ◌||◌, ltb}
use Rattle.std.proofs.Common.{true≢false, ltb-false, le-ltb}
use Rattle.rules.specs.Refusals.{is_wrong_size, largest}

-- neither of two tests that are false together is true
pub or_left : (a b : Bool) → (a || b) ≡ false → a ≡ false
or_left true b e = e
or_left false b e = refl

pub or_right : (a b : Bool) → (a || b) ≡ false → b ≡ false
or_right true b e = absurd (true≢false e)
or_right false b e = e

-- it has slots
pub size-some : (n : ℕ) → is_wrong_size n ≡ false → 1 ≤ n
size-some n e = ltb-false n 1 (or_left (ltb n 1) (ltb largest n) e)

-- and not more than the largest
pub size-le : (n : ℕ) → is_wrong_size n ≡ false → n ≤ largest
size-le n e = ltb-false largest n (or_right (ltb n 1) (ltb largest n) e)

-- and every such n is right
pub size_right : (n : ℕ) → 1 ≤ n → n ≤ largest → is_wrong_size n ≡ false
size_right n least most = rw (le-ltb n 1 least, le-ltb largest n most)
