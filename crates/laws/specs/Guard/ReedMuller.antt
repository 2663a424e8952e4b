-- The mask of RM(64,57): at n = 6 it freezes exactly the indices with fewer than two ones, and K = 57, W = 2, guard 1024.
use Rattle.std.specs.Prelude.{ℕ, ◌<◌, ◌≡◌, refl, Bool, true, false, leb}
use Rattle.std.proofs.Common.{ap}
use Rattle.std.specs.Bool.{beq}
use Rattle.std.proofs.Math.Option.{some}
use Rattle.std.specs.Int.Count.{ones}
use Rattle.rules.specs.Below.{count_below, all_below, least_below}
use Rattle.rules.specs.Word.{unfrozen, message_bits}
use Rattle.rules.specs.Guard.{fewest_ones, guard_for, guard_of}
use Rattle.laws.specs.Numbers.Sums.{all-at}

-- the mask of RM(64,57)
abbrev pub rm_mask : ℕ
rm_mask = 0x0000000100010117

same : (a b : Bool) → beq a b ≡ true → a ≡ b
same true true e = refl
same true false e = cc
same false true e = cc
same false false e = refl

agrees : ℕ → Bool
agrees i = beq (unfrozen rm_mask i) (leb 2 (ones i))

all_agree : all_below 64 agrees ≡ true
unfolding all_below agrees ones
all_agree = refl

-- the unfrozen indices are those with two ones or more
pub rm_unfrozen : (i : ℕ) → i < 64 → unfrozen rm_mask i ≡ leb 2 (ones i)
unfolding agrees
rm_unfrozen i l = same (unfrozen rm_mask i) (leb 2 (ones i)) (all-at 64 agrees all_agree i l)

-- there are 57 of them
pub rm_bits : message_bits 6 rm_mask ≡ 57
unfolding count_below
rm_bits = refl

-- the fewest ones in an unfrozen index are two
pub rm_fewest : fewest_ones 6 rm_mask ≡ some 2
unfolding least_below ones
rm_fewest = refl

-- so the guard is 1024
pub rm_guard : guard_of 6 rm_mask ≡ some 1024
unfolding guard_of
rm_guard = ap guard_for rm_fewest
