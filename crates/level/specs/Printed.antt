-- What is printed where a level is out of range: the slot.
use Rattle.std.specs.Prelude.{ℕ, List, ◌++◌, codes}
use Rattle.std.specs.Fmt.{decimal}
use Rattle.level.specs.declared.OutOfRange.{OutOfRange}

abbrev pub printed : OutOfRange → List ℕ
printed out = codes "slot " ++ decimal out.slot ++ codes " is out of range"
