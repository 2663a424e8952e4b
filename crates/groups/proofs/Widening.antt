-- A list of indices that was doubled by adding a step is widened by it.
use Prim.Native.Nat.{ℕ, ◌+◌, ◌≤◌, ◌<◌}
use mathlib.Core.Path.{◌≡◌, sym, ap, ◌∙◌}
use mathlib.Core.List.{List, ◌++◌, map}
use native.Mathlib.Nat.{le_dest}
use native.Mathlib.Decide.{dec_lt}
use native.Mathlib.Omega.{arith}
use lib.ListN.{length, take, get_or, length-append, length-map, get_or-map, get_or-append}
use lib.Seq.{ext_get_or, get_or-take, get_or-append-add, length-take-le}
use Rattle.std.proofs.lemmas.List.{get_or_default}
use Rattle.laws.specs.Seats.Seats.{widened}
use Rattle.groups.specs.Doubling.{Doubled}

module _ (l index : List ℕ) (m step : ℕ) where
  -- the first indices, and those with the step added
  abbrev first : List ℕ
  first = take m l

  abbrev behind : List ℕ
  behind = map (λ i. i + step) first

  module _ (room : m + m ≤ length l) (same : length index ≡ length l) {made : ℕ → ℕ → Type 0} (doubled : Doubled l index m made)
      (adds : (i r : ℕ) → made i r → r ≡ i + step) where
    long : length first ≡ m
    long = length-take-le m l (omega (arith, room))

    as_long : length behind ≡ m
    as_long = length-map first (λ i. i + step) ∙ long

    at : (i : ℕ) → i < m + m → Dec (i < m) → get_or (take (m + m) index) i 0 ≡ get_or (first ++ behind) i 0
    at i h (yes low) =
        get_or-take (m + m) index i 0 h ∙ doubled.kept i 0 low ∙ sym (get_or-take m l i 0 low)
        ∙ sym (get_or-append first behind 0 i (omega (arith, long)))
    at i h (no high) =
        let d = le_dest {n = m} {m = i} (omega arith) in
        let low : d.0 < m = omega (arith, d.1) in
        let e : i ≡ length first + d.0 = omega (arith, long, d.1) in
        get_or-take (m + m) index i 0 h ∙ ap (λ (k : ℕ). get_or index k 0) (sym d.1) ∙ adds _ _ (doubled.added d.0 0 low)
        ∙ ap (λ (x : ℕ). x + step) (sym (get_or-take m l d.0 0 low)) ∙ sym (get_or-map (λ i. i + step) first d.0 0)
        ∙ get_or_default behind d.0 (0 + step) 0 (omega (arith, as_long)) ∙ sym (get_or-append-add first behind d.0 0)
        ∙ ap (λ (k : ℕ). get_or (first ++ behind) k 0) (sym e)

    pub widened_doubled : take (m + m) index ≡ widened (take m l) step
    widened_doubled =
        let all : length (take (m + m) index) ≡ m + m = length-take-le (m + m) index (omega (arith, room, same)) in
        ext_get_or 0 (take (m + m) index) (first ++ behind) (all ∙ omega (arith, length-append first behind, long, as_long))
        (λ i h. at i (omega (arith, all)) (dec_lt i m))
