-- Demand 2 of `tree::decode` itself: the contract is that of src/, as the check reads it, at lifetimes κs, arguments a, result r
-- and lent memory v after the call. The arguments are n, the levels, the frozen mask, the folding and the allowance.
use Prim.Native.Nat.{ℕ, ◌≤◌, ◌<◌}
use Rattle.std.specs.Prelude.{Result, Ok}
use mathlib.Core.Path.{◌≡◌, sym, ap, ◌∙◌}
use mathlib.Core.List.{List, []}
use lib.IntN.{ℤ}
use Rattle.rules.specs.Level.{level_cost}
use Rattle.rules.specs.Walk.{walk_visits}
use Rattle.rules.specs.Refusals.{refused}
use Rattle.laws.specs.Answers.OneAnswer.{Shown}
use Rattle.word.specs.Words.{word_of}
use Rattle.tree.specs.Reading.{decoded_of, answer_of}
use Rattle.laws.specs.Answers.LeastAnswer.{Accepted, HoldsLeast, done_least, accepted_done, accepted_gives_up}
use Rattle.tree.specs.Unique.{is_found}
use Rattle.refusal.specs.declared.Refusal.{Refusal}
use Rattle.tree.specs.declared.Decoded as decoded
use Rattle.tree.proofs.decode.Reads as decode

-- a finished answer holds the least word, with its message, codeword and distance, and the walk's visits
abbrev pub FindsLeast : ℕ → List ℤ → ℕ → ℕ → ℕ → Result decoded.Decoded Refusal → Type 0
FindsLeast n levels mask folding allowance r =
    (found : decoded.Decoded) → r ≡ Ok found → HoldsLeast n levels mask folding allowance (decoded_of found)

pub decode_least : Shown decode.Learnt
    (λ κs a r. FindsLeast a.0 a.1.0.now (word_of a.1.1.0) a.1.1.1.0 a.1.1.1.1.0 r)
decode_least κs a r v learnt found e =
    done_least a.0 a.1.0.now (word_of a.1.1.0) a.1.1.1.0 a.1.1.1.1.0 (decoded_of found) (sym learnt ∙ ap answer_of e)

-- past refusals 1 to 6, a walk that needs more visits than are allowed is refusal 8
abbrev pub GivesUp : ℕ → List ℤ → ℕ → ℕ → ℕ → Result decoded.Decoded Refusal → Type 0
GivesUp n levels mask folding allowance r =
    Accepted n levels mask folding → allowance < walk_visits n mask (level_cost levels) folding
    → answer_of r ≡ refused (record { number = 8; values = [] })

pub decode_gives_up : Shown decode.Learnt
    (λ κs a r. GivesUp a.0 a.1.0.now (word_of a.1.1.0) a.1.1.1.0 a.1.1.1.1.0 r)
decode_gives_up κs a r v learnt given short =
    learnt ∙ accepted_gives_up a.0 a.1.0.now (word_of a.1.1.0) a.1.1.1.0 a.1.1.1.1.0 given short

-- past refusals 1 to 6, a walk that needs no more visits than are allowed finishes, and the answer holds the least word
abbrev pub Finishes : ℕ → List ℤ → ℕ → ℕ → ℕ → Result decoded.Decoded Refusal → Type 0
Finishes n levels mask folding allowance r =
    Accepted n levels mask folding → walk_visits n mask (level_cost levels) folding ≤ allowance
    → (found : decoded.Decoded) × (r ≡ Ok found) × HoldsLeast n levels mask folding allowance (decoded_of found)

pub decode_finishes : Shown decode.Learnt
    (λ κs a r. Finishes a.0 a.1.0.now (word_of a.1.1.0) a.1.1.1.0 a.1.1.1.1.0 r)
decode_finishes κs a r v learnt given enough =
    let end = accepted_done a.0 a.1.0.now (word_of a.1.1.0) a.1.1.1.0 a.1.1.1.1.0 given enough in
    let f = is_found r end.0 (learnt ∙ end.1) in
    (f.0, f.1, rw f.2 end.2)
