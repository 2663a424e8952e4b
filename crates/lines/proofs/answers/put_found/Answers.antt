-- `lines::answers::put_found` meets its contract.
use Prim.Native.Nat.{ℕ}
use mathlib.Core.Path.{◌≡◌}
use mathlib.Core.List.{List, ◌++◌, append_assoc}
use native.Mathlib.Omega.{arith}
use Rattle.rules.specs.Refusals.{done}
use Rattle.rules.specs.Text.{decimal, hex, space, found_word, line_end, line}
use Rattle.laws.specs.Numbers.Digits.{hex-length, ten_digits, spaced_short}
use Rattle.word.specs.Words.{word_of}
use Rattle.tree.specs.Reading.{decoded_of}
use Rattle.tree.specs.declared.Decoded.{Decoded}
use Rattle.text.specs.Within.{Within, within_then, room_left}
use Rattle.lines.proofs.answers.put_found.Goals as goal
use Rattle.lines.proofs.answers.put_found.Goals.{After-bytes-at, After-decimal-at, After-hex-at, After-spaced-at, After-spaced-at-2}

-- the parts of the line, each with those before it
abbrev word : ℕ → List ℕ
word number = decimal number ++ (space ++ found_word ++ space)

abbrev message : ℕ → ℕ → List ℕ
message number m = word number ++ hex 16 m

abbrev distance : ℕ → ℕ → ℕ → List ℕ
distance number m d = message number m ++ (space ++ decimal d)

abbrev visits : ℕ → ℕ → ℕ → ℕ → List ℕ
visits number m d v = distance number m d ++ (space ++ decimal v)

whole : (number : ℕ) (f : Decoded)
    → visits number (word_of f.message) f.distance f.visits ++ line_end ≡ line number (done (decoded_of f))
unfolding line
whole number f = simp append_assoc

-- what is put after each call, and how long it is at most
number-put : (c : After-decimal-at) → Within 10 c.args.out.now c.args.at (decimal c.args.number) c.decimal-at.result c.decimal-at.new.out
number-put c = record { put = c.decimal-at.ensures; short = ten_digits _ (omega arith) }

word-put : (c : After-bytes-at) → Within 10 c.args.out.now c.args.at (decimal c.args.number) c.decimal-at.result c.decimal-at.new.out
    → Within 17 c.args.out.now c.args.at (word c.args.number) c.bytes-at.result c.bytes-at.new.out
word-put c part = within_then part 7 c.bytes-at.ensures (omega arith)

message-put : (c : After-hex-at) → Within 17 c.args.out.now c.args.at (word c.args.number) c.bytes-at.result c.bytes-at.new.out
    → Within 33 c.args.out.now c.args.at (message c.args.number (word_of c.args.found.message)) c.hex-at.result c.hex-at.new.out
message-put c part =
    within_then part 16 (rw c.from.ensures at c.hex-at.ensures) (omega (arith, hex-length 16 (word_of c.args.found.message)))

distance-put : (c : After-spaced-at)
    → Within 33 c.args.out.now c.args.at (message c.args.number (word_of c.args.found.message)) c.hex-at.result c.hex-at.new.out
    → Within 44 c.args.out.now c.args.at (distance c.args.number (word_of c.args.found.message) c.args.found.distance) c.spaced-at.result c.spaced-at.new.out
distance-put c part = within_then part 11 c.spaced-at.ensures (spaced_short _ (omega arith))

visits-put : (c : After-spaced-at-2)
    → Within 44 c.args.out.now c.args.at (distance c.args.number (word_of c.args.found.message) c.args.found.distance) c.spaced-at.result c.spaced-at.new.out
    → Within 55 c.args.out.now c.args.at (visits c.args.number (word_of c.args.found.message) c.args.found.distance c.args.found.visits) c.spaced-at-2.result
    c.spaced-at-2.new.out
visits-put c part = within_then part 11 c.spaced-at-2.ensures (spaced_short _ (omega arith))

pub decimal-at-requires : goal.decimal-at-requires
decimal-at-requires c = omega (arith, ten_digits c.args.number (omega arith))

pub bytes-at-requires : goal.bytes-at-requires
bytes-at-requires c = room_left (number-put (goal.at.bytes-at-requires c).After-decimal-at) 7 c.requires (omega arith)

pub hex-at-requires : goal.hex-at-requires
hex-at-requires c =
    let at = goal.at.hex-at-requires c in
    room_left (word-put at.After-bytes-at (number-put at.After-decimal-at)) 16 c.requires (omega arith)

pub spaced-at-requires : goal.spaced-at-requires
spaced-at-requires c =
    let at = goal.at.spaced-at-requires c in
    let part = message-put at.After-hex-at (word-put at.After-bytes-at (number-put at.After-decimal-at)) in
    omega (arith, room_left part 11 c.requires (omega arith), spaced_short c.args.found.distance (omega arith))

pub spaced-at-requires-2 : goal.spaced-at-requires-2
spaced-at-requires-2 c =
    let at = goal.at.spaced-at-requires-2 c in
    let part =
    distance-put at.After-spaced-at (message-put at.After-hex-at (word-put at.After-bytes-at (number-put at.After-decimal-at)))
    in
    omega (arith, room_left part 11 c.requires (omega arith), spaced_short c.args.found.visits (omega arith))

pub bytes-requires : goal.bytes-requires
bytes-requires c =
    let at = goal.at.bytes-requires c in
    let part =
    distance-put at.After-spaced-at (message-put at.After-hex-at (word-put at.After-bytes-at (number-put at.After-decimal-at)))
    in
    room_left (visits-put at.After-spaced-at-2 part) 1 c.requires (omega arith)

pub returns : goal.returns
returns c =
    let at = goal.at.returns c in
    let part =
    distance-put at.After-spaced-at (message-put at.After-hex-at (word-put at.After-bytes-at (number-put at.After-decimal-at)))
    in
    rw (← whole c.args.number c.args.found) (within_then (visits-put at.After-spaced-at-2 part) 1 c.bytes.ensures (omega arith))
