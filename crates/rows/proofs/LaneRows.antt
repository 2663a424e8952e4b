-- The rows of four groups in their lanes, with one slot more.
use Prim.Native.Nat.{ℕ, zero, suc, ◌+◌, ◌*◌, ◌-◌, ◌^◌, ◌≤◌, ◌<◌}
use mathlib.Core.Path.{◌≡◌, sym, ap, ◌∙◌}
use mathlib.Core.List.{List}
use native.Mathlib.Nat.{two-pow-succ, add-mul, sub-zero}
use native.Mathlib.Omega.{arith}
use lib.ListN.{get_or}
use lib.Pow.{pow_pos, pow_mono}
use Rattle.laws.specs.Numbers.Each.{each_all}
use Rattle.laws.specs.Numbers.SortedLists.{mem_get_d}
use Rattle.laws.specs.Rows.SortedRows.{row_of, row-length, row_bound}
use Rattle.laws.specs.Rows.MirroredRows.{both_of, row_mirrored}
use Rattle.rows.specs.declared.seat.Added.{Added}
use Rattle.rows.specs.declared.seat.Entries.{Entries}
use Rattle.rows.specs.Adding.{Sized, nothing, adds}
use Rattle.rows.specs.Cells.{cell, Built, Filled}
use Rattle.rows.specs.Lanes.{none, lane, Lanes, lane_doubled, lane_sum, Merged, FourAdd}
use Rattle.rows.proofs.Places.{size_small}
use Rattle.rows.proofs.Filling.{place_room}

module _ {seats : List Added} {group size t : ℕ} (few : t < size) (sized : Sized (group + 4) size) (from : List (List ℕ))
    (built : Built seats size t group (group + 4) from) {added : List Entries} (four : FourAdd seats group size t added 4) where
  -- the lane of a group begins at the group's place
  start : (k : ℕ) → group * 2 ^ size + k * 2 ^ size ≡ (group + k) * 2 ^ size
  start k = sym (add-mul group k (2 ^ size))

  -- what the group's slots add
  abbrev adding : ℕ → ℕ → ℕ → ℕ
  adding k = adds seats ((group + k) * size)

  -- a group has 8 slots at most
  narrow : t < 8
  narrow = omega (arith, size_small sized)

  -- which takes 20 bits
  adding_small : (k : ℕ) → k < 4 → (i b : ℕ) → i < size → adding k i b ≤ 1048575
  adding_small k h i zero l = omega (arith, (get_or seats ((group + k) * size + i) nothing).small)
  adding_small k h i (suc b) l = omega (arith, (get_or seats ((group + k) * size + i) nothing).small)

  -- the entries of a lane are those of its group's row
  entry : (k i : ℕ) → k < 4 → i < 2 ^ t → cell from (group * 2 ^ size + k * 2 ^ size + i) ≡ get_or (row_of (adding k) t) i 0
  entry k i h l = rw (start k) (built (group + k) i (omega arith) (omega arith) l)

  -- they leave room for one slot more
  entry_small : (k i : ℕ) → k < 4 → i < 2 ^ t → cell from (group * 2 ^ size + k * 2 ^ size + i) < (t * 1048575 + 1) * 256
  entry_small k i h l =
      rw (entry k i h l)
      (row_bound (adding k) t 1048575 (omega (arith, narrow)) (λ j b c. adding_small k h j b (omega arith)) _ (mem_get_d (row_of (adding k) t) i 0 (rw (row-length (adding k) t) l)))

  -- what both bits of a slot add
  slot_small : (k : ℕ) → k < 4 → (get_or added k none).zero + (get_or added k none).one ≤ 1048575 * 512 + 2 ^ 7
  slot_small k h =
      let p : 2 ^ t ≤ 2 ^ 7 = pow_mono {j = 7} (omega (arith, narrow)) in
      omega (arith, four.first k h, four.second k h, adding_small k h t 0 few, adding_small k h t 1 few)

  -- the lane is the row
  lane_row : (k : ℕ) → k < 4 → lane from (group * 2 ^ size + k * 2 ^ size) (2 ^ t) ≡ row_of (adding k) t
  lane_row k h = sym (each_all _ 0 (row_of (adding k) t) (2 ^ t) (row-length (adding k) t) (λ j l. sym (entry k j h l)))

  -- the row of a lane with slot t
  lane-doubled : (k : ℕ) → k < 4 → lane_doubled from (group * 2 ^ size) (2 ^ size) (2 ^ t) added k ≡ row_of (adding k) (suc t)
  unfolding row_of
  lane-doubled k h = rw (four.first k h, four.second k h, lane_row k h)

  -- it has twice the entries
  twice : 2 ^ t + 2 ^ t ≡ 2 ^ suc t
  twice = omega (arith, two-pow-succ t)

  -- and is its own mirror image
  mirrored : (k i : ℕ) → k < 4 → i < 2 ^ t
      → get_or (lane_doubled from (group * 2 ^ size) (2 ^ size) (2 ^ t) added k) i 0 + get_or (lane_doubled from (group * 2 ^ size) (2 ^ size) (2 ^ t) added k) (2 ^ t + 2 ^ t - 1 - i) 0
      ≡ lane_sum from (group * 2 ^ size) (2 ^ size) (2 ^ t) added k
  unfolding both_of
  mirrored k i h l =
      let some = pow_pos t in
      let own = rw (sub-zero (2 ^ t - 1)) at (row_mirrored (adding k) t (omega (arith, narrow)) 0 some) in
      rw (lane-doubled k h, twice)
      (row_mirrored (adding k) (suc t) narrow i (omega (arith, twice))
      ∙ omega (arith, own, entry k 0 h some, entry k (2 ^ t - 1) h (omega arith), four.first k h, four.second k h))

  -- the lanes are ready for slot t
  pub lanes_ready : Lanes from (group * 2 ^ size) (2 ^ size) (2 ^ t) added
  lanes_ready = record {
    some = pow_pos t;
    room = rw twice (pow_mono few);
    place = λ k h. rw (start k) (place_room sized (omega arith) (omega arith));
    small = λ k i h l. omega (arith, entry_small k i h l, slot_small k h, narrow);
    mirrored = mirrored;
    fits = λ k h.
        let some = pow_pos t in
        omega (arith, entry_small k 0 h some, entry_small k (2 ^ t - 1) h (omega arith), slot_small k h, narrow);
  }

  -- the rows with slot t
  pub rows_more : {old to : List (List ℕ)} → Merged from (group * 2 ^ size) (2 ^ size) (2 ^ t) added old to (2 ^ t + 2 ^ t)
      → Filled seats size (suc t) group (group + 4) old to
  rows_more {to = to} g = record { shaped = g.shaped; kept = g.kept; built = built_here }
    where
      built_here : Built seats size (suc t) group (group + 4) to
      built_here k j l b c =
          let k-is : group + (k - group) ≡ k = omega arith in
          let n : k - group < 4 = omega arith in
          rw (start (k - group), k-is) at (g.stored (k - group) j n (rw twice c) ∙ ap (λ (r : List ℕ). get_or r j 0) (lane-doubled (k - group) n))
