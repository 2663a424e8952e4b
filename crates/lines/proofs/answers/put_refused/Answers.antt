-- `lines::answers::put_refused` meets its contract.
use Prim.Native.Nat.{ℕ}
use mathlib.Core.Path.{◌≡◌}
use mathlib.Core.List.{List, ◌++◌, append_assoc}
use native.Mathlib.Omega.{arith}
use Rattle.rules.specs.Refusals.{refused}
use Rattle.rules.specs.Text.{decimal, space, refused_word, line_end, line}
use Rattle.laws.specs.Numbers.Digits.{ten_digits, spaced_short}
use Rattle.refusal.specs.declared.Refusal.{Refusal}
use Rattle.refusal.specs.Number.{number_of, refusal_of}
use Rattle.text.specs.Within.{Within, within_then, room_left}
use Rattle.lines.proofs.answers.put_refused.Goals as goal
use Rattle.lines.proofs.answers.put_refused.Goals.{After-bytes-at, After-decimal-at, After-spaced-at}

-- the parts of the line, each with those before it
abbrev word : ℕ → List ℕ
word number = decimal number ++ (space ++ refused_word)

abbrev refusal : ℕ → Refusal → List ℕ
refusal number r = word number ++ (space ++ decimal (number_of r))

whole : (number : ℕ) (r : Refusal) → refusal number r ++ line_end ≡ line number (refused (refusal_of r))
unfolding line
whole number r = simp append_assoc

-- what is put after each call, and how long it is at most
number-put : (c : After-decimal-at) → Within 10 c.args.out.now c.args.at (decimal c.args.number) c.decimal-at.result c.decimal-at.new.out
number-put c = record { put = c.decimal-at.ensures; short = ten_digits _ (omega arith) }

word-put : (c : After-bytes-at) → Within 10 c.args.out.now c.args.at (decimal c.args.number) c.decimal-at.result c.decimal-at.new.out
    → Within 18 c.args.out.now c.args.at (word c.args.number) c.bytes-at.result c.bytes-at.new.out
word-put c part = within_then part 8 c.bytes-at.ensures (omega arith)

refusal-put : (c : After-spaced-at) → Within 18 c.args.out.now c.args.at (word c.args.number) c.bytes-at.result c.bytes-at.new.out
    → Within 29 c.args.out.now c.args.at (refusal c.args.number c.args.refusal) c.spaced-at.result c.spaced-at.new.out
refusal-put c part = rw (← c.number.ensures) (within_then part 11 c.spaced-at.ensures (spaced_short _ (omega arith)))

pub decimal-at-requires : goal.decimal-at-requires
decimal-at-requires c = omega (arith, ten_digits c.args.number (omega arith))

pub bytes-at-requires : goal.bytes-at-requires
bytes-at-requires c = room_left (number-put (goal.at.bytes-at-requires c).After-decimal-at) 8 c.requires (omega arith)

pub spaced-at-requires : goal.spaced-at-requires
spaced-at-requires c =
    let at = goal.at.spaced-at-requires c in
    let part = word-put at.After-bytes-at (number-put at.After-decimal-at) in
    omega (arith, room_left part 11 c.requires (omega arith), spaced_short c.number.result (omega arith))

pub bytes-requires : goal.bytes-requires
bytes-requires c =
    let at = goal.at.bytes-requires c in
    let part = refusal-put at.After-spaced-at (word-put at.After-bytes-at (number-put at.After-decimal-at)) in
    room_left part 1 c.requires (omega arith)

pub returns : goal.returns
returns c =
    let at = goal.at.returns c in
    let part = refusal-put at.After-spaced-at (word-put at.After-bytes-at (number-put at.After-decimal-at)) in
    rw (← whole c.args.number c.args.refusal) (within_then part 27 c.bytes.ensures (omega arith))
