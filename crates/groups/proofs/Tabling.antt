-- Facts on the tree of a folding as the code holds it, and the steps of the loops that put ones at the indices of its groups.
use Prim.Native.Nat.{ℕ, suc, ◌+◌, ◌-◌, ◌*◌, ◌%◌, ◌^◌, ◌≤◌, ◌<◌}
use mathlib.Core.Path.{◌≡◌, sym, ap, ap₂, ◌∙◌}
use mathlib.Core.List.{List}
use native.Mathlib.Nat.{add-zero, zero-mul, one-mul, mul-one, two-pow-succ, mul-le-mul_left, mul-lt-mul_of_pos_right, mod-eq_of_lt, le_dest, lt_of_lt_of_le}
use native.Mathlib.Omega.{arith}
use lib.Bits.{bit_and, bit_xor}
use lib.Count.{ones, ones-le}
use lib.ListN.{get_or}
use lib.Pow.{pow_pos, pow-lt, pow_mono, ones_lt, ones_split}
use Rattle.rules.specs.Below.{sum_below}
use Rattle.rules.specs.Word.{bit}
use Rattle.rules.specs.Refusals.{largest}
use Rattle.laws.specs.Numbers.Sums.{sum-zero, sum_split}
use Rattle.laws.specs.Numbers.Bits.{bit_beyond, bit_high}
use Rattle.laws.specs.Rows.SlotsInGroup.{GroupSize, eight_at_most}
use Rattle.laws.specs.Walk.GroupSizes.{groups_all}
use Rattle.laws.specs.Seats.Seats.{seat_index}
use Rattle.laws.specs.Seats.SeatWords.{seat, unseat, unseat_below, unseat-lt}
use Rattle.laws.specs.Seats.SeatedRow.{block_of}
use Rattle.laws.proofs.Seats.SeatedBlocks.{unseat_block}
use Rattle.laws.specs.Seats.Decided.{shut_of}
use Rattle.laws.proofs.Seats.Decided.{shut_block}
use Rattle.laws.proofs.Seats.Copied.{shut_is}
use Rattle.word.specs.declared.Word.{Word}
use Rattle.word.specs.Words.{word_at}
use Rattle.groups.specs.declared.Tree.{Tree}
use Rattle.groups.specs.Grouping.{Grouped, Shut}
use Rattle.groups.specs.Seating.{Seated}
use Rattle.groups.proofs.SeatLoops.{index_at, index_fits, unseat_next}

-- the number of m ones has a one at each index below m
bit-ones : (m t : ℕ) → t < m → bit (2 ^ m - 1) t ≡ 1
bit-ones m t l =
    let d = le_dest {n = suc t} {m = m} l in
    let e : m ≡ suc d.0 + t = omega (arith, d.1) in
    rw (e, ones_split (suc d.0) t)
    (rw add-zero at (bit_high (2 ^ suc d.0 - 1) t (ones_lt t) 0) ∙ omega (arith, two-pow-succ d.0, pow_pos d.0))

module _ {g : Tree} (given : Grouped g) where
  -- a group has an index
  pub some_size : 0 < g.size
  some_size = rw given.sized (pow_pos (ones g.folding))

  -- 1, 2, 4 or 8 of them
  pub shape : GroupSize g.size
  shape = (ones g.folding, given.few, given.sized)

  -- at most 8
  pub size_small : g.size ≤ 8
  size_small = eight_at_most shape

  -- the groups have all indices
  pub all_indices : g.groups * g.size ≡ 2 ^ g.n
  all_indices = ap₂ (λ (a b : ℕ). a * b) given.all given.sized ∙ groups_all g.n g.folding given.fits

  -- there are no more groups than slots in the largest block
  pub few_groups : g.groups ≤ 2 ^ largest
  few_groups = omega (arith, mul-le-mul_left g.groups some_size, mul-one g.groups, all_indices, pow_mono {j = largest} given.small)

  -- a group's frozen indices are those of the mask, in seat order too
  pub frozen_block : (shut : List Word) (mask : ℕ) → Shut shut g mask → (k : ℕ) → k < g.groups
      → block_of g.size k (seat g.n g.folding (word_at shut k)) ≡ block_of g.size k (seat g.n g.folding mask)
  frozen_block shut mask frozen k h =
      ap (λ (x : ℕ). block_of g.size k (seat g.n g.folding x)) (rw (← given.sized) at (frozen k h))
      ∙ rw (← given.sized) at (shut_block g.n g.folding given.fits mask k (rw (← given.all) h))

  -- the first seat of a group
  pub first_seat : {k : ℕ} → k < g.groups → k * g.size < 2 ^ g.n
  first_seat h = rw (← all_indices) (mul-lt-mul_of_pos_right h some_size)

  -- is a slot of the largest block
  pub first_seat_fits : {k : ℕ} → k < g.groups → k * g.size < 2 ^ largest
  first_seat_fits h = lt_of_lt_of_le (first_seat h) (pow_mono {j = largest} given.small)

  -- a seat of group 0
  pub seat-within : {t : ℕ} → t < g.size → t < 2 ^ g.n
  seat-within h = lt_of_lt_of_le (rw given.sized at h) (pow_mono (ones-le g.n g.folding given.fits))

  -- the indices of group 0, a one at each: all seats past it have none
  pub group_whole : unseat_below g.n g.folding (2 ^ g.size - 1) g.size ≡ unseat g.n g.folding (2 ^ g.size - 1)
  unfolding unseat
  group_whole =
      let w : ℕ = 2 ^ g.size - 1 in
      let d = le_dest {n = g.size} {m = 2 ^ g.n} (rw given.sized (pow_mono (ones-le g.n g.folding given.fits))) in
      let past : sum_below d.0 (λ i. bit w (g.size + i) * 2 ^ seat_index g.n g.folding (g.size + i)) ≡ 0 =
      sum-zero d.0 (λ i l.
      ap (λ (b : ℕ). b * 2 ^ seat_index g.n g.folding (g.size + i)) (bit_beyond {i = g.size + i} (ones_lt g.size) (omega arith)) ∙ zero-mul _)
      in
      sym (ap (unseat_below g.n g.folding w) (sym d.1) ∙ sum_split g.size d.0 _
      ∙ ap (λ (x : ℕ). unseat_below g.n g.folding w g.size + x) past ∙ add-zero _)

  module _ {l : List ℕ} (seated : Seated l g.n g.folding) where
    -- one index of group 0 more
    pub group_next : {t : ℕ} → t < g.size
        → bit_xor (unseat_below g.n g.folding (2 ^ g.size - 1) t) (2 ^ get_or l t 0 % 2 ^ (2 ^ largest)) ≡ unseat_below g.n g.folding (2 ^ g.size - 1) (t + 1)
    group_next {t = t} h =
        rw (mod-eq_of_lt (pow-lt (index_fits seated (seat-within h))))
        (rw (bit-ones g.size t h, one-mul (2 ^ get_or l t 0)) at (unseat_next seated (seat-within h) (2 ^ g.size - 1)))

    -- the frozen indices of a group, from the indices of group 0
    pub shut_here : (mask own : ℕ) → own ≡ unseat g.n g.folding (2 ^ g.size - 1) → {k : ℕ} → k < g.groups
        → bit_and mask (own * 2 ^ get_or l (k * g.size) 0 % 2 ^ (2 ^ largest)) ≡ shut_of g.n g.folding mask k
    shut_here mask own e {k = k} h =
        let inside = rw given.all at h in
        let fits : unseat g.n g.folding (2 ^ (2 ^ ones g.folding) - 1) * 2 ^ seat_index g.n g.folding (k * 2 ^ ones g.folding) < 2 ^ (2 ^ largest) =
        rw (← unseat_block g.n g.folding given.fits k (2 ^ (2 ^ ones g.folding) - 1) inside (ones_lt (2 ^ ones g.folding)))
        (lt_of_lt_of_le (unseat-lt g.n g.folding given.fits _) (pow_mono (pow_mono {j = largest} given.small)))
        in
        rw (e, index_at seated (k * g.size) (first_seat h), given.sized, mod-eq_of_lt fits) (shut_is g.n g.folding given.fits mask k inside)
