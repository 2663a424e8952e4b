-- Group by group in index order: the change of a pattern is that of group 0 times the codeword of the group's smallest index, two
-- words whose ones lie in disjoint index bits; that codeword from the one of the group without its highest one bit; and the
-- frozen indices of a group.
-- What rests on the statements here stands in proofs/Seats/Copied.antt.
use Prim.Native.Nat.{ℕ, ◌+◌, ◌*◌, ◌^◌, ◌<◌}
use Rattle.std.specs.Prelude.{◌≡◌}
use Rattle.std.proofs.Common.{sym, ◌∙◌, zero-mul, one-mul, mul-one, lt_of_lt_of_le, pow_mono}
use Rattle.std.proofs.lemmas.Nat.{xor_comm, ones-le}
use Rattle.std.specs.Int.Bits.{bit_xor, xor_shifted}
use Rattle.std.specs.Int.Count.{ones}
use Rattle.rules.specs.Word.{codeword}
use Rattle.laws.specs.Code.Matrix.{codeword-xor}
use Rattle.laws.specs.Seats.Decided.{change_of}
use Rattle.laws.specs.Seats.SeatSums.{unseat-xor}
use Rattle.laws.specs.Seats.SeatWords.{unseat, unseat-pow}
use Rattle.laws.specs.Seats.Seats.{seat_index}

-- the codeword of a group's smallest index
abbrev pub covered_of : ℕ → ℕ → ℕ → ℕ
covered_of n F k = codeword n (2 ^ seat_index n F (k * 2 ^ ones F))

module _ (n F : ℕ) (fits : F < 2 ^ n) where
  -- the changes in group 0, one slot more
  pub change_more : (t u : ℕ) → t < 2 ^ ones F → u < 2 ^ t → change_of n F 0 (2 ^ t + u) ≡ bit_xor (change_of n F 0 u) (codeword n (2 ^ seat_index n F t))
  change_more t u ht hu =
      let whole : 2 ^ t + u ≡ bit_xor u (2 ^ t) = rw one-mul at (sym (xor_shifted 1 t u hu)) ∙ xor_comm (2 ^ t) u in
      let here : t < 2 ^ n = lt_of_lt_of_le ht (pow_mono (ones-le n F fits)) in
      rw (zero-mul (2 ^ ones F), mul-one (2 ^ t + u), mul-one u, whole, unseat-xor n F fits u (2 ^ t), ← unseat-pow n F t here)
      (codeword-xor n (unseat n F u) (unseat n F (2 ^ t)))
