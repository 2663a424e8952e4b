-- What is asked of the map of halves.
use Rattle.std.specs.Prelude.{ℕ, ◌^◌, ◌<◌, ◌≡◌}
use Rattle.rules.specs.Word.{codeword}

-- a map of the words of 2 ^ n bits, by when it may be called and what it may answer: it may be called at each, and answers its codeword
abbrev pub Maps : (ℕ → Type 0) → (ℕ → ℕ → Type 0) → ℕ → Type 0
Maps pre post n = (h : ℕ) → h < 2 ^ 2 ^ n → pre h × ((x : ℕ) → post h x → x ≡ codeword n h)
