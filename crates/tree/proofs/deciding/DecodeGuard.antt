-- Demand 3 of `tree::decode` itself: the contract is that of src/, as the check reads it, at lifetimes κs, arguments a, result r
-- and lent memory v after the call. The arguments are n, the levels, the frozen mask, the folding and the allowance.
use Prim.Native.Nat.{ℕ, ◌^◌, ◌≤◌, ◌<◌}
use Rattle.std.specs.Prelude.{Result, Ok}
use mathlib.Core.Path.{◌≡◌, sym, ap, ◌∙◌}
use mathlib.Core.Option.{some}
use mathlib.Core.List.{List}
use lib.Count.{ones}
use lib.IntN.{ℤ}
use Rattle.rules.specs.Word.{message_bits}
use Rattle.rules.specs.Level.{level_cost}
use Rattle.rules.specs.Guard.{guard_of}
use Rattle.rules.specs.Walk.{walk_visits}
use Rattle.rules.specs.Answers as rules
use Rattle.laws.specs.Answers.OneAnswer.{Shown}
use Rattle.word.specs.Words.{word_of}
use Rattle.tree.specs.Reading.{decoded_of, answer_of}
use Rattle.laws.specs.Answers.GuardAnswer.{sent_levels, moved_in_all, LostAtGuard}
use Rattle.laws.proofs.Answers.GuardAnswer.{below_guard}
use Rattle.tree.specs.Unique.{is_found}
use Rattle.refusal.specs.declared.Refusal.{Refusal}
use Rattle.tree.specs.declared.Decoded as decoded
use Rattle.tree.proofs.decode.Reads as decode

-- levels moved by less than the guard from those of a message: a finished answer is that message
abbrev pub BelowGuard : ℕ → List ℤ → ℕ → Result decoded.Decoded Refusal → Type 0
BelowGuard n received mask r =
    (guard message : ℕ) → guard_of n mask ≡ some guard → message < 2 ^ message_bits n mask
    → moved_in_all n (sent_levels n mask message) received < guard
    → (found : decoded.Decoded) → r ≡ Ok found → word_of found.message ≡ message

pub decode_below_guard : Shown decode.Learnt (λ κs a r. BelowGuard a.0 a.1.0.now (word_of a.1.1.0) r)
decode_below_guard κs a r v learnt guard message has_guard inside near found finished =
    (below_guard a.0 (word_of a.1.1.0) guard has_guard message inside a.1.0.now near a.1.1.1.0 a.1.1.1.1.0
    (decoded_of found) (sym learnt ∙ ap answer_of finished)).message

-- the levels of a block that is lost at the guard (`at_the_guard`: every mask with a guard has one): the answer is finished, and
-- its message is 0, which was not sent
abbrev pub AtGuard : ℕ → List ℤ → ℕ → ℕ → ℕ → Result decoded.Decoded Refusal → Type 0
AtGuard n received mask folding allowance r =
    (guard : ℕ) (loss : LostAtGuard n mask guard) → received ≡ loss.block.received → folding < 2 ^ n → ones folding ≤ 3
    → walk_visits n mask (level_cost received) folding ≤ allowance
    → (found : decoded.Decoded) × (r ≡ Ok found) × (word_of found.message ≡ 0)

pub decode_at_guard : Shown decode.Learnt (λ κs a r. AtGuard a.0 a.1.0.now (word_of a.1.1.0) a.1.1.1.0 a.1.1.1.1.0 r)
decode_at_guard κs a r v learnt guard loss same fits few enough =
    let lost = loss.lost a.1.1.1.0 a.1.1.1.1.0 fits few (rw same at enough) in
    let f = is_found r lost.0 ((rw same at learnt) ∙ lost.1) in
    (f.0, f.1, ap (λ (b : rules.Decoded). b.message) f.2 ∙ lost.2)
