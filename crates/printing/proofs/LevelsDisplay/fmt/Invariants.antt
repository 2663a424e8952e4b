-- `Display` of `printing::Levels` prints the levels: behind the first, those that were passed, each behind a comma.
use Rattle.std.proofs.Common.{take}
use Rattle.std.specs.Fmt.{HasWritten, IsPlainFormatter}
use Rattle.printing.proofs.Joined.{behind_commas}
use Rattle.printing.proofs.LevelsDisplay.fmt.Given as goal

abbrev pub invariant-loop-level : goal.invariant-loop-level
invariant-loop-level g l =
    IsPlainFormatter l.initial.f → HasWritten g.W.Write.write_str_gives l.initial.f (behind_commas (take l.level-index l.rest)) l.f
