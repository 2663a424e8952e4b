-- What is written for bytes: for none, for the first record apart, from a place on, past the last record number, and cut after
-- whole records: what is written for the first part, then for the second from the next number on. The records may have any size,
-- and anything may be written for one.
use Prim.Native.Nat.{ℕ, suc, ◌+◌, ◌-◌, ◌≤◌, ◌<◌}
use Rattle.std.specs.Prelude.{◌≡◌, drop}
use Rattle.std.proofs.Common.{sym, ◌∙◌, add-one, drop_of_length-le, drop-drop, take_all}
use mathlib.Core.List.{List, [], ◌∷◌, ◌++◌}
use Rattle.std.proofs.Math.Decide.{dec_le}
use native.Mathlib.Omega.{arith}
use Rattle.std.proofs.Math.ListN.{length, take, length-drop}
use Rattle.rules.specs.Text.{records_up_to, each_from, most_records, written_from}
use Rattle.laws.specs.Answers.Texts.{record_end}

module _ (size : ℕ) (bytes : List ℕ) (start : ℕ) where
  -- the bytes after it
  end_drop : drop (record_end size bytes start) bytes ≡ drop size (drop start bytes)
  end_drop = go (dec_le (start + size) (length bytes)) ∙ sym (drop-drop size start bytes)
    where
      go : Dec (start + size ≤ length bytes) → drop (record_end size bytes start) bytes ≡ drop (start + size) bytes
      go (yes l) =
          let e : record_end size bytes start ≡ start + size = omega arith in
          rw e
      go (no l) =
          drop_of_length-le bytes {i = record_end size bytes start} (omega arith)
          ∙ sym (drop_of_length-le bytes {i = start + size} (omega arith))

  -- the bytes of it
  end_take : start ≤ length bytes → take (record_end size bytes start - start) (drop start bytes) ≡ take size (drop start bytes)
  end_take inside = go (dec_le (start + size) (length bytes))
    where
      go : Dec (start + size ≤ length bytes) → take (record_end size bytes start - start) (drop start bytes) ≡ take size (drop start bytes)
      go (yes l) =
          let e : record_end size bytes start - start ≡ size = omega arith in
          rw e
      go (no l) =
          let short : length (drop start bytes) ≡ length bytes - start = length-drop start bytes in
          take_all (record_end size bytes start - start) (drop start bytes) (omega (arith, short))
          ∙ sym (take_all size (drop start bytes) (omega (arith, short)))

module _ (size : ℕ) (written : ℕ → List ℕ → List ℕ) where
  -- what is written for the first record, then for the bytes after it
  written_step : (number : ℕ) (bytes : List ℕ) → number < most_records → 0 < length bytes
      → written_from size written number bytes ≡ written number (take size bytes) ++ written_from size written (suc number) (drop size bytes)
  unfolding written_from records_up_to each_from
  written_step number [] l some = absurd (omega arith)
  written_step number (x ∷ xs) l some =
      let e : most_records - number ≡ suc (most_records - suc number) = omega arith in
      rw e

  -- from a place on: what is written for the record that begins there, then from its end on
  pub written_from_lem : (number start end : ℕ) (bytes : List ℕ) → end ≡ record_end size bytes start → number < most_records → start < length bytes
      → written_from size written number (drop start bytes)
      ≡ written number (take (end - start) (drop start bytes)) ++ written_from size written (number + 1) (drop end bytes)
  written_from_lem number start end bytes e few some =
      let left : length (drop start bytes) ≡ length bytes - start = length-drop start bytes in
      rw (e, end_take size bytes start (omega arith), end_drop size bytes start, add-one number)
      (written_step number (drop start bytes) few (omega (arith, left)))
