-- Tables of words, read through `word_at`: a table of words that are 0, and what a store does.
use Rattle.std.specs.Prelude.{ℕ, zero, suc, ◌+◌, ◌<◌, ◌≡◌, ◌≢◌, List, length, set, replicate}
use Rattle.std.proofs.Common.{ap, ◌∙◌, get_or-set_same, get_or-set_other, below_more, arith}
use Rattle.word.specs.declared.Word.{Word}
use Rattle.word.specs.Words.{word_of, past, word_at, word_past}

-- a table of words that are 0 has 0 at each place
pub none_at : (z : Word) → word_of z ≡ 0 → (m i : ℕ) → word_at (replicate m z) i ≡ 0
none_at z e zero i = word_past
none_at z e (suc m) zero = e
none_at z e (suc m) (suc i) = none_at z e m i

module _ (l : List Word) (i : ℕ) (x : Word) where
  -- a word that was stored
  pub stored_here : i < length l → word_at (set l i x) i ≡ word_of x
  stored_here inside = ap word_of (get_or-set_same l i x past inside)

  -- leaves the others as they were
  pub stored_other : (j : ℕ) → j ≢ i → word_at (set l i x) j ≡ word_at l j
  stored_other j other = ap word_of (get_or-set_other l i j x past other)

  -- what held below i holds below i + 1
  pub stored_next : (f : ℕ → ℕ) → i < length l → word_of x ≡ f i → ((j : ℕ) → j < i → word_at l j ≡ f j)
      → (j : ℕ) → j < i + 1 → word_at (set l i x) j ≡ f j
  stored_next f inside is below =
      below_more _ i
      (λ j before. stored_other j (λ (e : j ≡ i). omega arith) ∙ below j before)
      (stored_here inside ∙ is)
