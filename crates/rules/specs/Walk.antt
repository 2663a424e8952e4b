-- Document 01, "The walk and what one visit is": fillings, candidates in their order, and the walk with its visits.
-- The walk knows no allowance: its total is a number of any size, and refusal 8 compares it with the allowance.
use Rattle.std.specs.Prelude.{ℕ, zero, suc, ◌+◌, ◌*◌, ◌^◌, Bool, false, ◌&&◌, ◌||◌, cond, List, [], ◌∷◌, ◌++◌, map, leb, ltb, eqb}
use Rattle.rules.specs.Below.{choose}
use Rattle.rules.specs.Word.{unfrozen, code_bit}
use Rattle.rules.specs.Level.{Best, nothing, best, keep}
use Rattle.rules.specs.Folding.{group, groups}

-- "the fillings of that group's unfrozen d bits": every word with ones at unfrozen indices of the list alone
unfoldable pub fillings : ℕ → List ℕ → List ℕ
fillings mask [] = 0 ∷ []
fillings mask (i ∷ is) =
    let others = fillings mask is in cond (unfrozen mask i) (others ++ map (λ f. f + 2 ^ i) others) others

-- "a pattern u of codeword bits (bit 0 at the group's smallest index, the others in rising order)"
unfoldable pub pattern : ℕ → ℕ → List ℕ → ℕ
pattern n d [] = 0
pattern n d (i ∷ is) = code_bit n d i + 2 * pattern n d is

-- "a branch distance, the sum over its slots"
unfoldable pub branch : ℕ → (ℕ → ℕ → ℕ) → ℕ → List ℕ → ℕ
branch n cost d [] = 0
branch n cost d (i ∷ is) = cost i (code_bit n d i) + branch n cost d is

-- "the candidates are the fillings": a filling of a group; "Each gives a pattern u of codeword bits" "and a branch distance"
pub record Candidate : Type 0 where
  pub filling : ℕ
  pub pattern : ℕ
  pub branch : ℕ

-- the candidate that a filling gives after the word d of the groups already decided
unfoldable pub candidate : ℕ → (ℕ → ℕ → ℕ) → ℕ → List ℕ → ℕ → Candidate
candidate n cost d is f =
    record { filling = f; pattern = pattern n (d + f) is; branch = branch n cost (d + f) is }

-- "Candidates go by branch distance, equals by smaller u."
abbrev pub goes_first : Candidate → Candidate → Bool
goes_first a b = ltb a.branch b.branch || eqb a.branch b.branch && leb a.pattern b.pattern

-- a candidate put into its place in a list in order
unfoldable pub insert : Candidate → List Candidate → List Candidate
insert c [] = c ∷ []
insert c (a ∷ rest) = cond (goes_first c a) (c ∷ a ∷ rest) (a ∷ insert c rest)

-- a list of candidates in order
unfoldable pub in_order : List Candidate → List Candidate
in_order [] = []
in_order (c ∷ cs) = insert c (in_order cs)

-- "At a level, the candidates are the fillings of that group's unfrozen d bits": of group k after the word d, in order
unfoldable pub candidates : ℕ → ℕ → (ℕ → ℕ → ℕ) → ℕ → ℕ → ℕ → List Candidate
candidates n mask cost folding k d =
    in_order (map (candidate n cost d (group n folding k)) (fillings mask (group n folding k)))

-- what a walk keeps, when it must "leave this node with its remaining candidates", and how it keeps a word. A reader may take it
-- for `keep_best` below throughout, the only one that these rules use: the parameter is there for later walks.
pub record Keeping : Type 1 where
  pub Kept : Type 0
  pub leaves : Kept → ℕ → Bool
  pub keeps : ℕ → ℕ → Kept → Kept

-- what the walk has kept so far, and how often it did "count one visit"
pub record State (K : Keeping) : Type 0 where
  pub kept : K.Kept
  pub visits : ℕ

-- "count one visit"
abbrev pub count : {K : Keeping} → State K → State K
count s = record { kept = s.kept; visits = suc s.visits }

-- "For each candidate in order": p is the node's partial distance, d the word so far, `down` the walk one level down
unfoldable pub visit : (K : Keeping) → (ℕ → ℕ → State K → State K) → ℕ → ℕ → List Candidate → State K → State K
visit K down p d [] s = s
visit K down p d (c ∷ cs) s =
    choose (K.leaves s.kept (p + c.branch))
    (λ _. count s)
    (λ _. visit K down p d cs (down (p + c.branch) (d + c.filling) (count s)))

-- "the walk goes down one level with one level fewer left": with k + 1 levels left group k is decided, so that
-- "Groups are decided in falling order of their smallest index"; with no level left the word is kept or not
unfoldable pub walk : (K : Keeping) → (ℕ → ℕ → List Candidate) → ℕ → ℕ → ℕ → State K → State K
walk K candidates_of zero p d s = record { kept = K.keeps p d s.kept; visits = s.visits }
walk K candidates_of (suc k) p d s = visit K (walk K candidates_of k) p d (candidates_of k d) s

-- "if a best word exists and partial plus branch is greater than its distance"
abbrev pub is_farther : Best → ℕ → Bool
is_farther nothing q = false
is_farther (best p d) q = ltb p q

-- what document 01's walk keeps: the "best word"
abbrev pub keep_best : Keeping
keep_best = record { Kept = Best; leaves = is_farther; keeps = keep }

-- "The walk starts at the first level, partial distance 0, with no best word."
unfoldable pub walk_of : ℕ → ℕ → (ℕ → ℕ → ℕ) → ℕ → State keep_best
walk_of n mask cost folding =
    walk keep_best (candidates n mask cost folding) (groups n folding) 0 0 (record { kept = nothing; visits = 0 })

-- "the walk's total" of visits
abbrev pub walk_visits : ℕ → ℕ → (ℕ → ℕ → ℕ) → ℕ → ℕ
walk_visits n mask cost folding = (walk_of n mask cost folding).visits
