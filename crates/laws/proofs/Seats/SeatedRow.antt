-- A node's candidates in seat order: the entries of its group's sorted row whose fillings have no frozen bit. A row goes by what
-- the bits of its slots cost more than the nearer ones, in units of 1024; the branch has the cost of the nearer bits beside it.
use Prim.Native.Nat.{ℕ, suc, ◌+◌, ◌*◌, ◌/◌, ◌%◌, ◌^◌, ◌≤◌, ◌<◌}
use Rattle.std.specs.Prelude.{◌≡◌, Bool, true, false, cond, length}
use Rattle.std.proofs.Math.Path.{refl}
use Rattle.std.proofs.Common.{sym, ap, ◌∙◌, ⊎_elim, mod-lt, pow_pos, pow_mono, eqb-true, eq-eqb}
use mathlib.Core.List.Memᴰ
use mathlib.Core.List.{List, [], ◌∷◌, Memᴰ}
use native.Mathlib.Omega.{arith}
use Rattle.std.specs.Int.Bits.{bit_and, bit_xor}
use Rattle.std.proofs.lemmas.Nat.{xor_comm, xor_lt, ones-le}
use Rattle.std.specs.Int.Count.{ones}
use Rattle.rules.specs.Below.{sum_below}
use Rattle.rules.specs.Word.{bit, code_bit, codeword}
use Rattle.rules.specs.Folding.{group, groups}
use Rattle.rules.specs.Walk.{Candidate, candidate, candidates, pattern, branch}
use Rattle.laws.proofs.Codewords.Matrix.{codeword_longer, codeword_twice}
use Rattle.laws.proofs.Seats.SeatGroups.{group-seat, group-seat-lt}
use Rattle.laws.proofs.Seats.SeatedFillings.{block_fills, fills_block}
use Rattle.laws.proofs.Walk.Patterns.{candidates_unique}
use Rattle.laws.specs.Code.Matrix.{codeword-lt}
use Rattle.laws.specs.Numbers.Bits.{xor_twice}
use Rattle.laws.specs.Numbers.SortedLists.{Rising}
use Rattle.laws.specs.Numbers.Sums.{sum-add, sum-mul, sum_cong}
use Rattle.laws.specs.Rows.SortedRows.{entry_of, entry_parts, row-at, row-rising, row_of, row_of_lem}
use Rattle.laws.specs.Seats.Blocks.{block_decided}
use Rattle.laws.specs.Seats.SeatWords.{seat, unseat, unseat_code_bit}
use Rattle.laws.specs.Seats.SeatedDown.{groups_blocks, seated_down}
use Rattle.laws.specs.Seats.SeatedFillings.{branch_is, pattern_is}
use Rattle.laws.specs.Seats.SeatedRow.{block_of, branch_of, entry_candidate, entry_candidates, filling_of, is_open}
use Rattle.laws.specs.Seats.Seats.{seat_index}
use Rattle.laws.specs.Walk.Candidates.{Before, candidates_at, candidates_of_lem}
use Rattle.laws.specs.Walk.Completions.{Node}
use Rattle.laws.specs.Walk.GroupSizes.{group-length}

-- the map of 2 ^ 3 bits serves a block of fewer: its codeword there, and back
pub short_code : (f v : ℕ) → f ≤ 3 → v < 2 ^ (2 ^ f) → (codeword 3 v < 2 ^ (2 ^ f)) × (codeword f (codeword 3 v) ≡ v)
short_code f v few l = rw (codeword_longer f 3 v few l) (codeword-lt f v, codeword_twice f v l)

module _ (n F s k near forced shut : ℕ) where
  -- such a candidate comes from an entry
  entries_at : (es : List ℕ) (c : Candidate) → Memᴰ c (entry_candidates n F s k near forced shut es)
      → (e : ℕ) × Memᴰ e es × (is_open shut forced e ≡ true) × (c ≡ entry_candidate n F s k near forced e)
  unfolding entry_candidates
  entries_at [] c m = absurd (Memᴰ.not-nil m)
  entries_at (e ∷ es) c m = go (is_open shut forced e) refl m (entries_at es c)
    where
      others : List Candidate
      others = entry_candidates n F s k near forced shut es

      go : (t : Bool) → is_open shut forced e ≡ t → Memᴰ c (cond t (entry_candidate n F s k near forced e ∷ others) others)
          → (Memᴰ c others → (e : ℕ) × Memᴰ e es × (is_open shut forced e ≡ true) × (c ≡ entry_candidate n F s k near forced e))
          → (x : ℕ) × Memᴰ x (e ∷ es) × (is_open shut forced x ≡ true) × (c ≡ entry_candidate n F s k near forced x)
      go true t m below = ⊎_elim (λ i. (e, Memᴰ.head refl, t, i)) (λ i. let r = below i in (r.0, Memᴰ.tail r.1, r.2, r.3))
          (Memᴰ.cases_cons m)
      go false t m below = let r = below m in (r.0, Memᴰ.tail r.1, r.2, r.3)

  -- an entry without a frozen bit gives its candidate
  entries_of : (es : List ℕ) (e : ℕ) → Memᴰ e es → is_open shut forced e ≡ true
      → Memᴰ (entry_candidate n F s k near forced e) (entry_candidates n F s k near forced shut es)
  unfolding entry_candidates
  entries_of es e m t = within e es m t
    where
      within : (e : ℕ) (es : List ℕ) → Memᴰ e es → is_open shut forced e ≡ true
          → Memᴰ (entry_candidate n F s k near forced e) (entry_candidates n F s k near forced shut es)
      within e es (Memᴰ.head {x = x} {xs = xs} i) t = rw (← i, t) (Memᴰ.head refl)
      within e es (Memᴰ.tail {x = x} {xs = xs} m) t = go (is_open shut forced x) (within e xs m t)
        where
          others : List Candidate
          others = entry_candidates n F s k near forced shut xs

          go : (t : Bool) → Memᴰ (entry_candidate n F s k near forced e) others
              → Memᴰ (entry_candidate n F s k near forced e) (cond t (entry_candidate n F s k near forced x ∷ others) others)
          go true m = Memᴰ.tail m
          go false m = m

  before : (a b : ℕ) → a < b → Before (entry_candidate n F s k near forced a) (entry_candidate n F s k near forced b)
  unfolding entry_candidate
  before a b l = record { near = omega arith; tie = λ e. omega arith }

  -- rising entries give candidates in strict order
  entries_rising : (es : List ℕ) → Rising ◌<◌ es → Rising Before (entry_candidates n F s k near forced shut es)
  unfolding entry_candidates Rising
  entries_rising [] r = tt
  entries_rising (e ∷ es) r = go (is_open shut forced e) (entries_rising es r.1)
    where
      others : List Candidate
      others = entry_candidates n F s k near forced shut es

      first : (c : Candidate) → Memᴰ c others → Before (entry_candidate n F s k near forced e) c
      first c m = let x = entries_at es c m in rw x.3 (before e x.0 (r.0 x.0 x.1))

      go : (t : Bool) → Rising Before others → Rising Before (cond t (entry_candidate n F s k near forced e ∷ others) others)
      go true h = (first, h)
      go false h = h

module _ (n mask : ℕ) (cost : ℕ → ℕ → ℕ) (near : ℕ → ℕ) (more : ℕ → ℕ → ℕ) (split : (i b : ℕ) → cost i b ≡ near i + 1024 * more i b)
    (F k w : ℕ) (fits : F < 2 ^ n) (few : ones F ≤ 3) (hk : k < groups n F)
    (clear : (i : ℕ) → i < suc k * 2 ^ ones F → bit w i ≡ 0) where
  -- what the bits of slot t cost more than the nearer one, and what the nearer bits of all slots cost
  abbrev forced : ℕ
  forced = block_of (2 ^ ones F) k (codeword n w)

  abbrev shut : ℕ
  shut = block_of (2 ^ ones F) k (seat n F mask)

  abbrev sums : ℕ → ℕ → ℕ
  sums t b = more (seat_index n F (k * 2 ^ ones F + t)) b

  abbrev base : ℕ
  base = sum_below (2 ^ ones F) (λ t. near (seat_index n F (k * 2 ^ ones F + t)))

  -- the value of block k that gives the pattern u
  abbrev value : ℕ → ℕ
  value u = codeword 3 (bit_xor u forced)

  change_lt : (u : ℕ) → u < 2 ^ (2 ^ ones F) → bit_xor u forced < 2 ^ (2 ^ ones F)
  change_lt u l = xor_lt (2 ^ ones F) u forced l (mod-lt (codeword n w / 2 ^ (k * 2 ^ ones F)) (pow_pos (2 ^ ones F)))

  eight : 2 ^ ones F ≤ 8
  eight = pow_mono few

  filling_is : (u : ℕ) → u < 2 ^ (2 ^ ones F) → filling_of forced (entry_of sums (2 ^ ones F) u) ≡ value u
  filling_is u l = rw (entry_parts sums (2 ^ ones F) u eight l).1

  code_at : (u : ℕ) → u < 2 ^ (2 ^ ones F) → (t : ℕ) → t < 2 ^ ones F
      → code_bit n (unseat n F w + unseat n F (value u * 2 ^ (k * 2 ^ ones F))) (seat_index n F (k * 2 ^ ones F + t)) ≡ bit u t
  code_at u l t h =
      rw (← seated_down n F k w (value u) clear short.0)
      (unseat_code_bit n F fits _ (k * 2 ^ ones F + t) (group-seat-lt n F fits k t hk h)
      ∙ block_decided n (ones F) k (ones-le n F fits) (rw (groups_blocks n F fits) at hk) w (value u) clear short.0 t h
      ∙ rw (short.1, xor_comm forced (bit_xor u forced), xor_twice u forced))
    where
      short : (value u < 2 ^ (2 ^ ones F)) × (codeword (ones F) (value u) ≡ bit_xor u forced)
      short = short_code (ones F) (bit_xor u forced) few (change_lt u l)

  entry-is : (u : ℕ) → u < 2 ^ (2 ^ ones F)
      → entry_candidate n F (2 ^ ones F) k base forced (entry_of sums (2 ^ ones F) u)
      ≡ candidate n cost (unseat n F w) (group n F k) (unseat n F (value u * 2 ^ (k * 2 ^ ones F)))
  unfolding entry_candidate candidate
  entry-is u l = λ i. record { filling = fills i; pattern = shows i; branch = adds i }
    where
      e : ℕ
      e = entry_of sums (2 ^ ones F) u

      parts : (e / 256 ≡ sum_below (2 ^ ones F) (λ t. sums t (bit u t))) × (e % 256 ≡ u)
      parts = entry_parts sums (2 ^ ones F) u eight l

      f : ℕ
      f = unseat n F (value u * 2 ^ (k * 2 ^ ones F))

      long : length (group n F k) ≡ 2 ^ ones F
      long = group-length n F fits k hk

      fills : unseat n F (filling_of forced e * 2 ^ (k * 2 ^ ones F)) ≡ f
      fills = ap (λ (v : ℕ). unseat n F (v * 2 ^ (k * 2 ^ ones F))) (filling_is u l)

      shows : e % 256 ≡ pattern n (unseat n F w + f) (group n F k)
      shows = parts.1 ∙ sym (pattern_is n (unseat n F w + f) u (group n F k) (rw long l)
          (λ t h. let ht : t < 2 ^ ones F = rw long at h in rw (group-seat n F fits k t hk ht) (code_at u l t ht)))

      -- what the slots cost at the pattern, by both parts of each
      costs : sum_below (2 ^ ones F) (λ t. cost (seat_index n F (k * 2 ^ ones F + t)) (bit u t)) ≡ branch_of base e
      costs =
          sum_cong (2 ^ ones F) (λ t h. split (seat_index n F (k * 2 ^ ones F + t)) (bit u t))
          ∙ sum-add (2 ^ ones F) (λ t. near (seat_index n F (k * 2 ^ ones F + t))) (λ t. 1024 * sums t (bit u t))
          ∙ ap (λ (x : ℕ). base + x) (sum-mul (2 ^ ones F) 1024 (λ t. sums t (bit u t)) ∙ ap (λ (x : ℕ). 1024 * x) (sym parts.0))

      adds : branch_of base e ≡ branch n cost (unseat n F w + f) (group n F k)
      adds = sym costs ∙ sym (branch_is n cost (unseat n F w + f) (group n F k)
          ∙ rw long (sum_cong (2 ^ ones F) (λ t h. rw (group-seat n F fits k t hk h, code_at u l t h))))

  abbrev row : List Candidate
  row = entry_candidates n F (2 ^ ones F) k base forced shut (row_of sums (2 ^ ones F))

  row_there : (c : Candidate) → Memᴰ c row → Memᴰ c (candidates n mask cost F k (unseat n F w))
  row_there c m =
      let r = entries_at n F (2 ^ ones F) k base forced shut (row_of sums (2 ^ ones F)) c m in
      let q = row-at sums (2 ^ ones F) r.0 r.1 in
      let small = (short_code (ones F) _ few (change_lt q.0 q.1)).0 in
      let filled : filling_of forced r.0 ≡ value q.0 = ap (filling_of forced) q.2 ∙ filling_is q.0 q.1 in
      rw (r.3 ∙ ap (entry_candidate n F (2 ^ ones F) k base forced) q.2 ∙ entry-is q.0 q.1)
      (candidates_of_lem n mask cost F k (unseat n F w) _ (block_fills n mask F k fits hk (value q.0) small (rw (← filled) (eqb-true _ 0 r.2))))

  row_back : (c : Candidate) → Memᴰ c (candidates n mask cost F k (unseat n F w)) → Memᴰ c row
  row_back c m =
      let r = candidates_at n mask cost F k (unseat n F w) c m in
      let b = fills_block n mask F k fits hk r.0 r.1 in
      let u : ℕ = bit_xor (codeword (ones F) b.0) forced in
      let l : u < 2 ^ (2 ^ ones F) = change_lt _ (codeword-lt (ones F) b.0) in
      let same : value u ≡ b.0
      = rw xor_twice (codeword_longer (ones F) 3 _ few (codeword-lt (ones F) b.0) ∙ codeword_twice (ones F) b.0 b.1) in
      let free : bit_and (filling_of forced (entry_of sums (2 ^ ones F) u)) shut ≡ 0 = rw (filling_is u l, same) b.2 in
      rw (r.2 ∙ sym (entry-is u l ∙ rw (same, b.3)))
      (entries_of n F (2 ^ ones F) k base forced shut (row_of sums (2 ^ ones F)) _ (row_of_lem sums (2 ^ ones F) u l) (eq-eqb _ 0 free))

  -- the open entries of the group's row are the candidates of the node
  pub seated-candidates : Node n mask F (suc k) (unseat n F w)
      → entry_candidates n F (2 ^ ones F) k (sum_below (2 ^ ones F) (λ t. near (seat_index n F (k * 2 ^ ones F + t))))
      (block_of (2 ^ ones F) k (codeword n w)) (block_of (2 ^ ones F) k (seat n F mask))
      (row_of (λ t b. more (seat_index n F (k * 2 ^ ones F + t)) b) (2 ^ ones F))
      ≡ candidates n mask cost F k (unseat n F w)
  seated-candidates node = candidates_unique n mask F k (unseat n F w) node cost row
      (entries_rising n F (2 ^ ones F) k base forced shut _ (row-rising sums (2 ^ ones F) eight)) row_there row_back
