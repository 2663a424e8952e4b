-- Where a group's row stands in the table: rows of 2 ^ size entries, packed in rows of 256, none across an edge.
use Prim.Native.Nat.{ℕ, suc, ◌+◌, ◌-◌, ◌*◌, ◌/◌, ◌%◌, ◌^◌, ◌≤◌, ◌<◌}
use mathlib.Core.Path.{◌≡◌, sym, ap, ◌∙◌}
use mathlib.Core.List.{List, []}
use native.Mathlib.Nat.{mul-div_cancel, mul-mod_left, mod-lt, add-zero, suc-mul, mul-le-mul_right}
use native.Mathlib.Omega.{arith}
use lib.Arith.{mod-mul}
use lib.ListN.{length, get_or}
use lib.Seq.{ext_get_or}
use lib.Pow.{pow_pos, pow-add}
use Rattle.laws.specs.Numbers.Bits.{power_shifted}
use Rattle.laws.specs.Numbers.Each.{each-length, each_at}
use Rattle.rows.specs.Table.{entry_at, row_at}
use Rattle.walk.specs.Nodes.{Inside}

module _ {size k : ℕ} (inside : Inside size k) where
  -- a row's length as the machine shifts it
  pub entries_shifted : 1 * 2 ^ size % 2 ^ 64 ≡ 2 ^ size
  entries_shifted = power_shifted 64 size (omega (arith, inside.narrow))

  pub row_in_table : k * 2 ^ size / 256 < 8
  row_in_table = omega (arith, inside.group)

  -- the row does not pass the edge
  pub row_fits : k * 2 ^ size % 256 + 2 ^ size ≤ 256
  row_fits =
      omega (arith, start, parts, suc-mul (k % 2 ^ (8 - size)) (2 ^ size), mul-le-mul_right {m = suc (k % 2 ^ (8 - size))} (2 ^ size) (mod-lt k (pow_pos (8 - size))))
    where
      parts : 256 ≡ 2 ^ (8 - size) * 2 ^ size
      parts =
          let s : 8 ≡ (8 - size) + size = omega (arith, inside.narrow) in
          ap (λ (x : ℕ). 2 ^ x) s ∙ pow-add 2 (8 - size) size

      start : k * 2 ^ size % 256 ≡ (k % 2 ^ (8 - size)) * 2 ^ size
      start =
          ap (λ (x : ℕ). k * 2 ^ size % x) parts ∙ mod-mul (k * 2 ^ size) (pow_pos (8 - size)) (pow_pos size)
          ∙ rw (mul-div_cancel k (pow_pos size), mul-mod_left k (2 ^ size)) (add-zero _)

  -- where the row stands, by its length as the code has it
  pub part_fits : (entries : ℕ) → entries ≡ 2 ^ size → k * entries % 256 + entries ≤ 256
  part_fits entries e = rw e row_fits

  pub part_inside : (entries : ℕ) → entries ≡ 2 ^ size → k * entries / 256 < 8
  part_inside entries e = rw e row_in_table

  -- the row, as the code takes it out of the table
  pub row_taken : (table : List (List ℕ)) (entries : ℕ) → entries ≡ 2 ^ size → (row : List ℕ) → length row ≡ entries
      → ((j : ℕ) → j < entries → get_or row j 0 ≡ get_or (get_or table (k * entries / 256) []) (k * entries % 256 + j) 0)
      → row ≡ row_at table size k
  row_taken table entries e row long same =
      ext_get_or 0 row (row_at table size k) (long ∙ e ∙ sym (each-length (entry_at table size k) (2 ^ size)))
      (λ j h. at j (rw long at h))
    where
      at : (j : ℕ) → j < entries → get_or row j 0 ≡ get_or (row_at table size k) j 0
      at j h = same j h ∙ ap (λ (x : ℕ). get_or (get_or table (k * x / 256) []) (k * x % 256 + j) 0) e
          ∙ sym (each_at (entry_at table size k) 0 (2 ^ size) j (rw e at h))
