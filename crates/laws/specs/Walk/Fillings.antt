-- The fillings of a group: exactly the words whose ones stand at unfrozen indices of the list.
use Rattle.std.specs.Prelude.{ℕ, ◌+◌, ◌^◌, ◌≤◌, ◌<◌, min, ◌≡◌, refl, Bool, true, false, cond, ◌≢◌, ◌⊎◌}
use Rattle.std.proofs.Common.{sym, ◌∙◌, ap, inl, inr, ⊎_elim, arith}
use mathlib.Core.List.{List, [], ◌∷◌, ◌++◌, map, Memᴰ}
use Rattle.std.proofs.Math.Decide.{ℕ_discrete}
use Rattle.std.specs.Int.Bits.{bit_and, bit_xor, xor_add_and}
use Rattle.rules.specs.Word.{bit, unfrozen}
use Rattle.rules.specs.Walk.{fillings}
use Rattle.laws.specs.Numbers.Bits.{bit_lt_two, bit-zero, bit_ext, bit-and, bit-xor, bit-put, bit_pow_same, bit_pow_other}
use Rattle.laws.specs.Numbers.SortedLists.{Rising, rising-append, rising-map, mem_map_at, mem_map_of}

-- a one bit of f stands at an unfrozen index of the list
pub record Fills (mask : ℕ) (is : List ℕ) (f : ℕ) : Type 0 where
  pub inside : (j : ℕ) → bit f j ≢ 0 → Memᴰ j is
  pub free : (j : ℕ) → bit f j ≢ 0 → unfrozen mask j ≡ true

-- a one bit of a number, taken away
take-bit : (f i : ℕ) → bit f i ≡ 1 → (g : ℕ) × (g + 2 ^ i ≡ f) × (bit g i ≡ 0)
take-bit f i o =
    let inside : bit_and f (2 ^ i) ≡ 2 ^ i = bit_ext (λ k. bit-and f (2 ^ i) k ∙ at k (ℕ_discrete k i)) in
    (bit_xor f (2 ^ i), omega (arith, xor_add_and f (2 ^ i)), bit-xor f (2 ^ i) i ∙ omega (arith, bit_pow_same i))
  where
    at : (k : ℕ) → Dec (k ≡ i) → min (bit f k) (bit (2 ^ i) k) ≡ bit (2 ^ i) k
    at k (yes e) = rw e (omega (arith, bit_pow_same i))
    at k (no ne) = omega (arith, bit_pow_other i k ne)

-- one index more
fills_cons : (mask i : ℕ) (is : List ℕ) (f : ℕ) → Fills mask is f → Fills mask (i ∷ is) f
fills_cons mask i is f h = record { inside = λ j b. mathlib.Core.List.Memᴰ.tail (h.inside j b); free = h.free }

-- one index more, and a one there
fills-put : (mask i : ℕ) (is : List ℕ) (g : ℕ) → bit g i ≡ 0 → unfrozen mask i ≡ true → Fills mask is g → Fills mask (i ∷ is) (g + 2 ^ i)
fills-put mask i is g z u h = record { inside = λ j b. within j b (ℕ_discrete j i); free = λ j b. free j b (ℕ_discrete j i) }
  where
    other : (j : ℕ) → j ≢ i → bit (g + 2 ^ i) j ≢ 0 → bit g j ≢ 0
    other j ne b = omega (arith, bit-put g i z j, bit_pow_other i j ne)

    within : (j : ℕ) → bit (g + 2 ^ i) j ≢ 0 → Dec (j ≡ i) → Memᴰ j (i ∷ is)
    within j b (yes e) = mathlib.Core.List.Memᴰ.head e
    within j b (no ne) = mathlib.Core.List.Memᴰ.tail (h.inside j (other j ne b))

    free : (j : ℕ) → bit (g + 2 ^ i) j ≢ 0 → Dec (j ≡ i) → unfrozen mask j ≡ true
    free j b (yes e) = rw e u
    free j b (no ne) = h.free j (other j ne b)

-- one index fewer, where the bit is zero
fills_rest : (mask i : ℕ) (is : List ℕ) (f : ℕ) → bit f i ≡ 0 → Fills mask (i ∷ is) f → Fills mask is f
fills_rest mask i is f z h = record { inside = λ j b. go j b (mathlib.Core.List.Memᴰ.cases_cons (h.inside j b)); free = h.free }
  where
    go : (j : ℕ) → bit f j ≢ 0 → (j ≡ i) ⊎ Memᴰ j is → Memᴰ j is
    go j b (inl e) = absurd (b (rw e z))
    go j b (inr m) = m

-- fewer ones fill as well
fills_fewer : (mask : ℕ) (is : List ℕ) (f g : ℕ) → ((j : ℕ) → bit g j ≤ bit f j) → Fills mask is f → Fills mask is g
fills_fewer mask is f g le h = record {
  inside = λ j b. h.inside j (λ z. b (omega (arith, le j)));
  free = λ j b. h.free j (λ z. b (omega (arith, le j)));
}

-- a filling of later indices has a zero at an earlier one
fills_before : (mask i : ℕ) (is : List ℕ) (f : ℕ) → Rising ◌<◌ (i ∷ is) → Fills mask is f → bit f i ≡ 0
unfolding Rising
fills_before mask i is f r h = go (ℕ_discrete (bit f i) 0)
  where
    go : Dec (bit f i ≡ 0) → bit f i ≡ 0
    go (yes z) = z
    go (no b) = absurd (omega (arith, r.0 i (h.inside i b)))

-- a filling of a rising list of indices
pub fillings_at : (mask : ℕ) (is : List ℕ) → Rising ◌<◌ is → (f : ℕ) → Memᴰ f (fillings mask is) → Fills mask is f
unfolding Rising fillings
fillings_at mask [] r f m =
    let z : f ≡ 0 = mathlib.Core.List.Memᴰ.eq_of_singleton m in
    record { inside = λ j b. absurd (b (rw z (bit-zero j))); free = λ j b. absurd (b (rw z (bit-zero j))) }
fillings_at mask (i ∷ is) r f m = go (unfrozen mask i) refl m (fillings_at mask is r.1)
  where
    go : (t : Bool) → unfrozen mask i ≡ t
        → Memᴰ f (cond t (fillings mask is ++ map (λ x. x + 2 ^ i) (fillings mask is)) (fillings mask is))
        → ((g : ℕ) → Memᴰ g (fillings mask is) → Fills mask is g) → Fills mask (i ∷ is) f
    go false t m below = fills_cons mask i is f (below f m)
    go true t m below = ⊎_elim (λ m'. fills_cons mask i is f (below f m'))
        (λ m'. let x = mem_map_at (λ x. x + 2 ^ i) (fillings mask is) f m' in
        rw x.2 (fills-put mask i is x.0 (fills_before mask i is x.0 r (below x.0 x.1)) t (below x.0 x.1)))
        (mathlib.Core.List.Memᴰ.append_cases (fillings mask is) m)

-- the fillings of a rising list of indices are different
pub fillings_differ : (mask : ℕ) (is : List ℕ) → Rising ◌<◌ is → Rising (λ (f g : ℕ). f ≢ g) (fillings mask is)
unfolding Rising fillings
fillings_differ mask [] r = (λ b m. absurd (mathlib.Core.List.Memᴰ.not-nil m), tt)
fillings_differ mask (i ∷ is) r = go (unfrozen mask i) (fillings_differ mask is r.1)
  where
    zero_at : (g : ℕ) → Memᴰ g (fillings mask is) → bit g i ≡ 0
    zero_at g m = fills_before mask i is g r (fillings_at mask is r.1 g m)

    apart : (f g : ℕ) → Memᴰ f (fillings mask is) → Memᴰ g (map (λ x. x + 2 ^ i) (fillings mask is)) → f ≢ g
    apart f g m k e =
        let x = mem_map_at (λ y. y + 2 ^ i) (fillings mask is) g k in
        omega (arith, zero_at f m, bit-put x.0 i (zero_at x.0 x.1) i, bit_pow_same i, ap (λ (y : ℕ). bit y i) (e ∙ x.2))

    go : (t : Bool) → Rising (λ (f g : ℕ). f ≢ g) (fillings mask is)
        → Rising (λ (f g : ℕ). f ≢ g) (cond t (fillings mask is ++ map (λ x. x + 2 ^ i) (fillings mask is)) (fillings mask is))
    go false below = below
    go true below = rising-append (λ (f g : ℕ). f ≢ g) (fillings mask is) (map (λ x. x + 2 ^ i) (fillings mask is)) below
        (rising-map (λ (f g : ℕ). f ≢ g) (λ (f g : ℕ). f ≢ g) (λ x. x + 2 ^ i) (fillings mask is) (λ a b _ _ ne e. ne (omega arith)) below) apart

-- each word whose ones stand at unfrozen indices of the list is a filling
pub fillings_of : (mask : ℕ) (is : List ℕ) (f : ℕ) → Fills mask is f → Memᴰ f (fillings mask is)
unfolding fillings
fillings_of mask [] f h = mathlib.Core.List.Memᴰ.head (bit_ext (λ j. go j (ℕ_discrete (bit f j) 0)))
  where
    go : (j : ℕ) → Dec (bit f j ≡ 0) → bit f j ≡ bit 0 j
    go j (yes z) = z ∙ sym (bit-zero j)
    go j (no b) = absurd (mathlib.Core.List.Memᴰ.not-nil (h.inside j b))
fillings_of mask (i ∷ is) f h = go (ℕ_discrete (bit f i) 0) (fillings_of mask is)
  where
    without : (t : Bool) → Memᴰ f (fillings mask is)
        → Memᴰ f (cond t (fillings mask is ++ map (λ x. x + 2 ^ i) (fillings mask is)) (fillings mask is))
    without true m = mathlib.Core.List.Memᴰ.append_left _ m
    without false m = m

    go : Dec (bit f i ≡ 0) → ((g : ℕ) → Fills mask is g → Memᴰ g (fillings mask is))
        → Memᴰ f (cond (unfrozen mask i) (fillings mask is ++ map (λ x. x + 2 ^ i) (fillings mask is)) (fillings mask is))
    go (yes z) below = without (unfrozen mask i) (below f (fills_rest mask i is f z h))
    go (no b) below = put (take-bit f i (omega (arith, bit_lt_two f i)))
      where
        put : (g : ℕ) × (g + 2 ^ i ≡ f) × (bit g i ≡ 0)
            → Memᴰ f (cond (unfrozen mask i) (fillings mask is ++ map (λ x. x + 2 ^ i) (fillings mask is)) (fillings mask is))
        put (g, e, z) =
            let fewer : (j : ℕ) → bit g j ≤ bit f j = λ j. omega (arith, bit-put g i z j, ap (λ (x : ℕ). bit x j) e) in
            let m : Memᴰ g (fillings mask is) = below g (fills_rest mask i is g z (fills_fewer mask (i ∷ is) f g fewer h)) in
            rw (h.free i b) (mathlib.Core.List.Memᴰ.append_right (fillings mask is) (mathlib.Core.List.Memᴰ.cast (sym e) (mem_map_of (λ y. y + 2 ^ i) (fillings mask is) g m)))
