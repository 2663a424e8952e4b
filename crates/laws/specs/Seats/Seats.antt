-- Seats: the indices in order group after group, each group's indices rising. Seat k * 2 ^ ones F + t holds the t-th
-- index of group k. Seat order only moves the bit positions of an index, so it keeps `covers`.
use Rattle.std.specs.Prelude.{ℕ, zero, suc, ◌+◌, ◌*◌, ◌/◌, ◌%◌, ◌^◌, ◌≤◌, ◌<◌, ◌≡◌, refl, Bool, true, false, cond, List, [], ◌∷◌, ◌++◌, map, ◌⊎◌, eqb, length, get_or}
use Rattle.std.proofs.Common.{zero-le, ap, ◌∙◌, inl, inr, zero-add, mod-lt, one-mul, not-suc-le-zero, mul-add, add-mul, mul_comm, le_refl, arith, pow_pos, pow-add, shr_lt, length-append, get_or-append-add, eq-eqb, eqb-true}
use Rattle.std.proofs.Math.Path.{sym}
use Rattle.std.proofs.Math.Logic.{⊎_elim}
use Rattle.std.proofs.Math.Nat.{add-zero, mul-one, add-div_left, div-eq_of_lt, le_dest, two-pow-succ}
use Rattle.std.proofs.Math.Decide.{dec_lt}
use Rattle.std.proofs.Math.Pow.{split}
use Rattle.std.proofs.Math.Arith.{digits_lt}
use Rattle.std.specs.Int.Count.{ones}
use Rattle.std.proofs.lemmas.List.{length-map}
use Rattle.std.proofs.Math.ListN.{get_or-append}
use Rattle.rules.specs.Below.{sum_below, count_below}
use Rattle.rules.specs.Word.{bit, covers}
use Rattle.rules.specs.Folding.{smallest}
use Rattle.laws.specs.Numbers.Deposits.{deposit, deposit-lt, deposit-bit, deposit_above, deposit_passing, deposit_failing}
use Rattle.laws.specs.Numbers.Bits.{bit_lt_two, bit_beyond, bit-add, bit-mod, bit-div, bit_ext_below, covers_at, covers_of, covers_refl, covers_antisym, small_of_bits}
use Rattle.laws.specs.Walk.Groups.{smallest-bit}
use Rattle.laws.specs.Numbers.Placed.{Apart, placed_at, placed_other}
use Rattle.laws.specs.Numbers.Sums.{sum_cong, sum-add, sum-const}
use Rattle.laws.specs.Numbers.Counts.{ones-sum}
use Rattle.laws.specs.Numbers.CountBelow.{count_passing, count_failing, count_rises, count_inj, count_onto}

-- a list, and each of its numbers with a step added
abbrev pub widened : List ℕ → ℕ → List ℕ
widened is step = is ++ map (λ i. i + step) is

-- widened by 2 ^ i for each i below b that passes the test
unfoldable pub widened_by : (ℕ → Bool) → ℕ → List ℕ → List ℕ
widened_by test zero is = is
widened_by test (suc b) is = cond (test b) (widened (widened_by test b is) (2 ^ b)) (widened_by test b is)

-- the folding's bit b has this value
abbrev pub has_bit : ℕ → ℕ → ℕ → Bool
has_bit F value b = eqb (bit F b) value

-- the indices in seat order
unfoldable pub seats : ℕ → ℕ → List ℕ
seats n F = widened_by (has_bit F 0) n (widened_by (has_bit F 1) n (0 ∷ []))

-- the index at seat p
abbrev pub seat_index : ℕ → ℕ → ℕ → ℕ
seat_index n F p = get_or (seats n F) p 0

-- the length of a widened list
pub widened_by_length : (test : ℕ → Bool) (b : ℕ) (is : List ℕ) → length (widened_by test b is) ≡ length is * 2 ^ count_below b test
unfolding widened_by count_below
widened_by_length test zero is = omega arith
widened_by_length test (suc b) is = go (test b) refl (widened_by_length test b is)
  where
    xs : List ℕ
    xs = widened_by test b is

    go : (t : Bool) → test b ≡ t → length xs ≡ length is * 2 ^ count_below b test
        → length (cond t (widened xs (2 ^ b)) xs) ≡ length is * 2 ^ count_below (suc b) test
    go true t e = rw (count_passing test b t, two-pow-succ, length-append, length-map, mul-add) (omega arith)
    go false t e = rw (count_failing test b t) e

get_d_map_below : (f : ℕ → ℕ) (xs : List ℕ) (i : ℕ) → i < length xs → get_or (map f xs) i 0 ≡ f (get_or xs i 0)
get_d_map_below f [] i l = absurd (not-suc-le-zero l)
get_d_map_below f (x ∷ xs) zero l = refl
get_d_map_below f (x ∷ xs) (suc i) l = get_d_map_below f xs i (omega arith)

leading : (c d : ℕ) → d < 2 ^ c → bit (2 ^ c + d) c ≡ 1
leading c d l = rw (add-div_left d (pow_pos c), div-eq_of_lt l)

-- the elements of a widened list
widened_by_at : (test : ℕ → Bool) (b : ℕ) (is : List ℕ) (q r : ℕ) → q < 2 ^ count_below b test → r < length is
    → get_or (widened_by test b is) (q * length is + r) 0 ≡ get_or is r 0 + deposit test b q
unfolding widened_by count_below deposit sum_below
widened_by_at test zero is q r hq hr = let z : q ≡ 0 = omega arith in let e : 0 * length is + r ≡ r = omega arith in rw (z, e) (omega arith)
widened_by_at test (suc b) is q r hq hr = go (test b) refl (widened_by_at test b is)
  where
    xs : List ℕ
    xs = widened_by test b is

    c : ℕ
    c = count_below b test

    go : (t : Bool) → test b ≡ t
        → ((q r : ℕ) → q < 2 ^ c → r < length is → get_or xs (q * length is + r) 0 ≡ get_or is r 0 + deposit test b q)
        → get_or (cond t (widened xs (2 ^ b)) xs) (q * length is + r) 0 ≡ get_or is r 0 + deposit test (suc b) q
    go false t below = rw (deposit_failing test b q t) (below q r (rw (count_failing test b t) at hq) hr)
    go true t below = rw (deposit_passing test b q t) (half (dec_lt q (2 ^ c)))
      where
        long : length xs ≡ 2 ^ c * length is
        long = widened_by_length test b is ∙ mul_comm (length is) (2 ^ c)

        upper : (d : ℕ) → d < 2 ^ c
            → get_or (widened xs (2 ^ b)) ((2 ^ c + d) * length is + r) 0 ≡ get_or is r 0 + (deposit test b (2 ^ c + d) + bit (2 ^ c + d) c * 2 ^ b)
        upper d l =
            let e : (2 ^ c + d) * length is + r ≡ length xs + (d * length is + r) = omega (arith, long, add-mul (2 ^ c) d (length is)) in
            rw (e, deposit_above test b d l, leading c d l) (get_or-append-add xs _ (d * length is + r) 0
            ∙ get_d_map_below _ xs (d * length is + r) (rw long (digits_lt l hr)) ∙ omega (arith, below d r l hr))

        half : Dec (q < 2 ^ c) → get_or (widened xs (2 ^ b)) (q * length is + r) 0 ≡ get_or is r 0 + (deposit test b q + bit q c * 2 ^ b)
        half (yes l) = get_or-append xs _ 0 (q * length is + r) (rw long (digits_lt l hr)) ∙ rw (bit_beyond l (le_refl c)) (omega (arith, below q r l hr))
        half (no g) =
            let d = le_dest {n = 2 ^ c} {m = q} (omega arith) in
            rw (← d.1) (upper d.0 (omega (arith, d.1, rw (count_passing test b t, two-pow-succ) at hq)))

-- the bit position of a seat to which position i of the index goes
abbrev place : ℕ → ℕ → ℕ
place F i = cond (has_bit F 1 i) (count_below i (has_bit F 1)) (ones F + count_below i (has_bit F 0))

-- what a seat's low bits and its high bits give to the index
abbrev in_part : ℕ → ℕ → ℕ → ℕ
in_part n F p = deposit (has_bit F 1) n (p % 2 ^ ones F)

abbrev pub out_part : ℕ → ℕ → ℕ → ℕ
out_part n F p = deposit (has_bit F 0) n (p / 2 ^ ones F)

bit_kind : (F i : ℕ) → (bit F i ≡ 0) ⊎ (bit F i ≡ 1)
bit_kind F i = go (bit F i) (bit_lt_two F i)
  where
    go : (b : ℕ) → b < 2 → (b ≡ 0) ⊎ (b ≡ 1)
    go zero l = inl refl
    go (suc zero) l = inr refl
    go (suc (suc b)) l = absurd (omega arith)

same_bool : (a b : Bool) → (a ≡ true → b ≡ true) → (b ≡ true → a ≡ true) → a ≡ b
same_bool true b f g = sym (f refl)
same_bool false true f g = g refl
same_bool false false f g = refl

module _ (n F : ℕ) (fits : F < 2 ^ n) where
  -- a seat has as many low bits as the folding has ones
  pub ones-count : count_below n (has_bit F 1) ≡ ones F
  unfolding count_below
  ones-count = sum_cong n (λ i l. ⊎_elim (λ (e : bit F i ≡ 0). rw e) (λ (e : bit F i ≡ 1). rw e) (bit_kind F i)) ∙ sym (ones-sum n F fits)

  zeros_count : count_below n (has_bit F 0) + ones F ≡ n
  unfolding count_below
  zeros_count =
      rw (ones-sum n F fits, ← sum-add n _ (bit F))
      (sum_cong n (λ i l. ⊎_elim (λ (e : bit F i ≡ 0). rw e) (λ (e : bit F i ≡ 1). rw e) (bit_kind F i)) ∙ sum-const n 1 ∙ mul-one n)

  -- and the high bits make it n
  pub high_size : 2 ^ count_below n (has_bit F 0) * 2 ^ ones F ≡ 2 ^ n
  high_size = sym (pow-add 2 (count_below n (has_bit F 0)) (ones F)) ∙ ap (λ (x : ℕ). 2 ^ x) zeros_count

  -- the indices of group 0 are as many as a group has
  pub inside-length : length (widened_by (has_bit F 1) n (0 ∷ [])) ≡ 2 ^ ones F
  inside-length = widened_by_length (has_bit F 1) n (0 ∷ []) ∙ rw ones-count (one-mul _)

  -- the index at seat t of group k
  pub seat_at : (k t : ℕ) → k < 2 ^ count_below n (has_bit F 0) → t < 2 ^ ones F
      → seat_index n F (k * 2 ^ ones F + t) ≡ deposit (has_bit F 1) n t + deposit (has_bit F 0) n k
  unfolding seats
  seat_at k t hk ht =
      let first = widened_by_at (has_bit F 1) n (0 ∷ []) t 0 (rw ones-count ht) (omega arith) in
      rw (inside-length, rw (mul-one, add-zero, zero-add) at first) at (widened_by_at (has_bit F 0) n (widened_by (has_bit F 1) n (0 ∷ [])) k t hk (rw inside-length ht))

  seat_bit_parts : (p : ℕ) → p < 2 ^ n → (i : ℕ)
      → bit (seat_index n F p) i ≡ bit (in_part n F p) i + bit (out_part n F p) i
  seat_bit_parts p l i =
      let whole = seat_at (p / 2 ^ ones F) (p % 2 ^ ones F) (shr_lt _ (ones F) (rw zeros_count l)) (mod-lt p (pow_pos (ones F))) in
      rw (rw (split p (ones F)) at whole) (bit-add _ _ (λ j. apart j (dec_lt j n)) i)
    where
      apart : (j : ℕ) → Dec (j < n) → bit (in_part n F p) j + bit (out_part n F p) j ≤ 1
      apart j (yes h) = rw (deposit-bit (has_bit F 1) n (p % 2 ^ ones F) j h, deposit-bit (has_bit F 0) n (p / 2 ^ ones F) j h)
          (⊎_elim (λ (e : bit F j ≡ 0). rw e (omega arith)) (λ (e : bit F j ≡ 1). rw e (omega arith)) (bit_kind F j))
      apart j (no g) = rw (bit_beyond {i = j} (deposit-lt (has_bit F 1) n (p % 2 ^ ones F)) (omega arith)) (omega (arith, bit_lt_two (out_part n F p) j))

  inner_place : (i : ℕ) → i < n → bit F i ≡ 1 → count_below i (has_bit F 1) < ones F
  inner_place i h e = rw ones-count at (count_rises (has_bit F 1) h (eq-eqb (bit F i) 1 e))

  in_place : (i : ℕ) → bit F i ≡ 1 → place F i ≡ count_below i (has_bit F 1)
  in_place i e = rw e

  out_place : (i : ℕ) → bit F i ≡ 0 → place F i ≡ ones F + count_below i (has_bit F 0)
  out_place i e = rw e

  place_below : (i : ℕ) → i < n → place F i < n
  place_below i h = ⊎_elim
      (λ (e : bit F i ≡ 0). omega (arith, zeros_count, out_place i e, count_rises (has_bit F 0) h (eq-eqb (bit F i) 0 e)))
      (λ (e : bit F i ≡ 1). omega (arith, zeros_count, in_place i e, inner_place i h e)) (bit_kind F i)

  place_apart : Apart n (place F)
  place_apart i j hi hj t = go (bit_kind F i) (bit_kind F j)
    where
      go : (bit F i ≡ 0) ⊎ (bit F i ≡ 1) → (bit F j ≡ 0) ⊎ (bit F j ≡ 1) → i ≡ j
      go (inl e) (inl d) = count_inj (has_bit F 0) (eq-eqb _ _ e) (eq-eqb _ _ d) (omega (arith, out_place i e, out_place j d))
      go (inl e) (inr d) = absurd (omega (arith, out_place i e, in_place j d, inner_place j hj d))
      go (inr e) (inl d) = absurd (omega (arith, in_place i e, out_place j d, inner_place i hi e))
      go (inr e) (inr d) = count_inj (has_bit F 1) (eq-eqb _ _ e) (eq-eqb _ _ d) (sym (in_place i e) ∙ t ∙ in_place j d)

  place_onto : (j : ℕ) → j < n → (i : ℕ) × (i < n) × (place F i ≡ j)
  place_onto j h = go (dec_lt j (ones F))
    where
      go : Dec (j < ones F) → (i : ℕ) × (i < n) × (place F i ≡ j)
      go (yes l) = let r = count_onto (has_bit F 1) n j (rw ones-count l) in (r.0, r.1, rw r.2 r.3)
      go (no g) =
          let d = le_dest {n = ones F} {m = j} (omega arith) in
          let r = count_onto (has_bit F 0) n d.0 (omega (arith, zeros_count, d.1)) in
          (r.0, r.1, rw (eqb-true (bit F r.0) 0 r.2, r.3) d.1)

  -- each bit of the index at a seat is a bit of the seat
  seat-place : (p : ℕ) → p < 2 ^ n → (i : ℕ) → i < n → bit (seat_index n F p) i ≡ bit p (place F i)
  seat-place p l i h =
      seat_bit_parts p l i ∙ rw (deposit-bit (has_bit F 1) n (p % 2 ^ ones F) i h, deposit-bit (has_bit F 0) n (p / 2 ^ ones F) i h)
      (⊎_elim (λ (e : bit F i ≡ 0). rw e (zero-add _ ∙ bit-div p (ones F) _)) (λ (e : bit F i ≡ 1). rw e (add-zero _ ∙ bit-mod p (ones F) _ (inner_place i h e))) (bit_kind F i))

  -- an index has n bits
  pub seat_below : (p : ℕ) → p < 2 ^ n → seat_index n F p < 2 ^ n
  seat_below p l = small_of_bits n _ (λ i h. seat_bit_parts p l i
      ∙ rw (bit_beyond {i = i} (deposit-lt (has_bit F 1) n (p % 2 ^ ones F)) h, bit_beyond {i = i} (deposit-lt (has_bit F 0) n (p / 2 ^ ones F)) h))

  -- seat order keeps `covers`
  pub seat-covers : (p q : ℕ) → p < 2 ^ n → q < 2 ^ n → covers (seat_index n F p) (seat_index n F q) ≡ covers p q
  seat-covers p q hp hq = same_bool _ _ (λ h. covers_of p q (λ k. down h k (dec_lt k n))) (λ h. covers_of (seat_index n F p) (seat_index n F q) (λ k. up h k (dec_lt k n)))
    where
      down : covers (seat_index n F p) (seat_index n F q) ≡ true → (k : ℕ) → Dec (k < n) → bit p k ≤ bit q k
      down h k (yes l) =
          let r = place_onto k l in
          rw (← r.2) (omega (arith, covers_at (seat_index n F p) (seat_index n F q) h r.0, seat-place p hp r.0 r.1, seat-place q hq r.0 r.1))
      down h k (no g) = rw (bit_beyond {i = k} hp (omega arith)) zero-le

      up : covers p q ≡ true → (k : ℕ) → Dec (k < n) → bit (seat_index n F p) k ≤ bit (seat_index n F q) k
      up h k (yes l) = rw (seat-place p hp k l, seat-place q hq k l) (covers_at p q h (place F k))
      up h k (no g) = rw (bit_beyond {i = k} (seat_below p hp) (omega arith)) zero-le

  -- no index has two seats
  pub seat_inj : (p q : ℕ) → p < 2 ^ n → q < 2 ^ n → seat_index n F p ≡ seat_index n F q → p ≡ q
  seat_inj p q hp hq e = covers_antisym p q
      (sym (seat-covers p q hp hq) ∙ rw e (covers_refl (seat_index n F q))) (sym (seat-covers q p hq hp) ∙ rw e (covers_refl (seat_index n F q)))

  -- every index has a seat
  pub seat_onto : (i : ℕ) → i < 2 ^ n → (p : ℕ) × (p < 2 ^ n) × (seat_index n F p ≡ i)
  seat_onto i h = (p, small, bit_ext_below n (seat_below p small) h (λ k l. seat-place p small k l ∙ placed_at (place F) (bit i) (bit_lt_two i) n place_apart k l))
    where
      p : ℕ
      p = sum_below n (λ k. bit i k * 2 ^ place F k)

      small : p < 2 ^ n
      small = small_of_bits n p (λ j g. placed_other (place F) (bit i) (bit_lt_two i) n place_apart j (λ k l e. omega (arith, place_below k l)))

  -- the smallest index of the group at a seat is what the seat's high bits give
  pub seat-smallest : (p : ℕ) → p < 2 ^ n → smallest F (seat_index n F p) ≡ out_part n F p
  seat-smallest p l = bit_ext_below n (omega (arith, seat_below p l)) (deposit-lt (has_bit F 0) n (p / 2 ^ ones F)) (λ i h.
      smallest-bit F (seat_index n F p) i
      ∙ rw (seat_bit_parts p l i, deposit-bit (has_bit F 1) n (p % 2 ^ ones F) i h, deposit-bit (has_bit F 0) n (p / 2 ^ ones F) i h)
      (⊎_elim (λ (e : bit F i ≡ 0). rw e (omega arith)) (λ (e : bit F i ≡ 1). rw e (omega arith)) (bit_kind F i)))
