-- The leaves of the tree: with k levels left, the leaves below a node are the permitted words that agree with its
-- word in the groups decided; at the root, every permitted word, each at its distance.
-- What rests on the statements here stands in proofs/Walk/Completions.antt.
use Prim.Native.Nat.{ℕ, suc, ◌+◌, ◌^◌, ◌≤◌, ◌<◌, zero-le}
use Rattle.std.specs.Prelude.{◌≡◌, true, ◌≢◌, eqb}
use Rattle.std.proofs.Common.{sym, ◌∙◌, arith, eq-eqb, ne_eqb}
use Rattle.std.proofs.Math.Decide.{dec_lt, ℕ_discrete}
use Rattle.rules.specs.Word.{bit, unfrozen, permitted}
use Rattle.rules.specs.Folding.{group_no, group, groups}
use Rattle.laws.specs.Code.Permitted.{permitted-lt, permitted-ones, permitted-zero, permitted_at}
use Rattle.laws.specs.Numbers.Bits.{bit-add, bit-zero, bit_beyond, bit_ext_below, bit_lt_two, picked, picked_beyond, picked_in, picked_out, small_of_bits}
use Rattle.laws.specs.Walk.Fillings.{Fills}
use Rattle.laws.specs.Walk.GroupSizes.{group_at, group_no_below, group_of}

-- the word of a node with k levels left: permitted, with no one in a group below k
pub record Node (n mask folding k d : ℕ) : Type 0 where
  pub allowed : permitted n mask d ≡ true
  pub undecided : (j : ℕ) → j < 2 ^ n → group_no folding j < k → bit d j ≡ 0

-- a permitted word that agrees with d in the groups from k on
pub record Completes (n mask folding k d e : ℕ) : Type 0 where
  pub allowed : permitted n mask e ≡ true
  pub agrees : (j : ℕ) → j < 2 ^ n → k ≤ group_no folding j → bit e j ≡ bit d j

-- a filling of group k has no one outside it
pub fill_zero : (n mask folding k f j : ℕ) → Fills mask (group n folding k) f → group_no folding j ≢ k → bit f j ≡ 0
fill_zero n mask folding k f j h ne = go (ℕ_discrete (bit f j) 0)
  where
    go : Dec (bit f j ≡ 0) → bit f j ≡ 0
    go (yes z) = z
    go (no b) = absurd (ne (group_at n folding k j (h.inside j b)).1)

-- a filling of the next group adds to a node's word bit by bit
pub node-add : (n mask folding k d f : ℕ) → Node n mask folding (suc k) d → Fills mask (group n folding k) f
    → (j : ℕ) → bit (d + f) j ≡ bit d j + bit f j
node-add n mask folding k d f v h = bit-add d f (λ j. go j (ℕ_discrete (bit f j) 0))
  where
    go : (j : ℕ) → Dec (bit f j ≡ 0) → bit d j + bit f j ≤ 1
    go j (yes z) = omega (arith, bit_lt_two d j)
    go j (no b) =
        let m = group_at n folding k j (h.inside j b) in omega (arith, v.undecided j m.0 (omega arith), bit_lt_two f j)

-- and makes the word of a node one level down
pub node_down : (n mask folding k d f : ℕ) → Node n mask folding (suc k) d → Fills mask (group n folding k) f → Node n mask folding k (d + f)
node_down n mask folding k d f v h = record {
  allowed = permitted-ones n mask (d + f) (small_of_bits (2 ^ n) (d + f) (λ j l. beyond j l (ℕ_discrete (bit f j) 0)))
      (λ j b. free j b (ℕ_discrete (bit f j) 0));
  undecided = λ j l g. node-add n mask folding k d f v h j
      ∙ omega (arith, v.undecided j l (omega arith), fill_zero n mask folding k f j h (omega arith));
}
  where
    beyond : (j : ℕ) → 2 ^ n ≤ j → Dec (bit f j ≡ 0) → bit (d + f) j ≡ 0
    beyond j l (yes z) = node-add n mask folding k d f v h j ∙ omega (arith, bit_beyond (permitted-lt n mask d v.allowed) l)
    beyond j l (no b) = absurd (omega (arith, (group_at n folding k j (h.inside j b)).0))

    free : (j : ℕ) → bit (d + f) j ≡ 1 → Dec (bit f j ≡ 0) → unfrozen mask j ≡ true
    free j b (yes z) = permitted_at n mask d v.allowed j (omega (arith, node-add n mask folding k d f v h j))
    free j b (no y) = h.free j y

-- the bits of a word in group k
part : (n folding k e : ℕ) → ℕ
part n folding k e = picked (2 ^ n) (λ i. eqb (group_no folding i) k) e

part_at : (n folding k e j : ℕ) → bit (part n folding k e) j ≢ 0 → (j < 2 ^ n) × (group_no folding j ≡ k) × (bit (part n folding k e) j ≡ bit e j)
unfolding part
part_at n folding k e j b = go (dec_lt j (2 ^ n)) (ℕ_discrete (group_no folding j) k)
  where
    go : Dec (j < 2 ^ n) → Dec (group_no folding j ≡ k) → (j < 2 ^ n) × (group_no folding j ≡ k) × (bit (part n folding k e) j ≡ bit e j)
    go (yes l) (yes g) = (l, g, picked_in (2 ^ n) _ e j l (eq-eqb _ _ g))
    go (yes l) (no g) = absurd (b (picked_out (2 ^ n) _ e j (ne_eqb _ _ g)))
    go (no l) g = absurd (b (picked_beyond (2 ^ n) _ e j (omega arith)))

part_fills : (n mask folding k e : ℕ) → permitted n mask e ≡ true → Fills mask (group n folding k) (part n folding k e)
part_fills n mask folding k e a = record {
  inside = λ j b. let r = part_at n folding k e j b in group_of n folding k j r.0 r.1;
  free = λ j b. permitted_at n mask e a j (omega (arith, (part_at n folding k e j b).2, bit_lt_two e j));
}

-- the filling of the next group by which a completion goes on
pub next_filling : (n mask folding k d e : ℕ) → Node n mask folding (suc k) d → Completes n mask folding (suc k) d e
    → (f : ℕ) × Fills mask (group n folding k) f × Completes n mask folding k (d + f) e
unfolding part
next_filling n mask folding k d e v h = (
  part n folding k e,
  fills,
  record {
    allowed = h.allowed;
    agrees = λ j l g. sym (node-add n mask folding k d (part n folding k e) v fills j ∙ go j l g (ℕ_discrete (group_no folding j) k));
  },
)
  where
    fills : Fills mask (group n folding k) (part n folding k e)
    fills = part_fills n mask folding k e h.allowed

    go : (j : ℕ) → j < 2 ^ n → k ≤ group_no folding j → Dec (group_no folding j ≡ k) → bit d j + bit (part n folding k e) j ≡ bit e j
    go j l g (yes y) = omega (arith, v.undecided j l (omega arith), picked_in (2 ^ n) (λ i. eqb (group_no folding i) k) e j l (eq-eqb _ _ y))
    go j l g (no y) = omega (arith, h.agrees j l (omega arith), picked_out (2 ^ n) (λ i. eqb (group_no folding i) k) e j (ne_eqb _ _ y))

-- the empty word is a node's at every level
pub root : (n mask folding k : ℕ) → Node n mask folding k 0
root n mask folding k = record { allowed = permitted-zero n mask; undecided = λ j l g. bit-zero j }

-- where every group is decided, the word is its only completion
pub completes_all : (n mask folding d e : ℕ) → Node n mask folding 0 d → Completes n mask folding 0 d e → e ≡ d
completes_all n mask folding d e v h =
    bit_ext_below (2 ^ n) (permitted-lt n mask e h.allowed) (permitted-lt n mask d v.allowed) (λ j l. h.agrees j l zero-le)

-- where no group is decided, every permitted word is a completion of the empty word
pub completes_none : (n mask folding e : ℕ) → folding < 2 ^ n → permitted n mask e ≡ true → Completes n mask folding (groups n folding) 0 e
completes_none n mask folding e fits t = record {
  allowed = t;
  agrees = λ j l g. absurd (omega (arith, group_no_below n folding fits j l));
}
