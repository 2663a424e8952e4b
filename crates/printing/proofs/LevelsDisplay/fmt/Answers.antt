-- `Display` of `printing::Levels` prints the levels.
use Rattle.std.proofs.Common.{rules}
use Rattle.std.specs.Fmt.{IsPlainFormatter}
use Rattle.std.proofs.lemmas.Grind.{put_two}
use Rattle.printing.proofs.Joined.{all_passed}
use Rattle.printing.proofs.LevelsDisplay.fmt.Goals as goal

pub returns-clause-writes : goal.returns-clause-writes
returns-clause-writes g c = λ plain ok.
    let first = c.in_ok-write.ensures.writes plain ok in
    let still : IsPlainFormatter c.write.new.self = search rules in
    let all = all_passed c.args.self.now.0.now c.loop-level.level-index c.in-len1-up.len_at_least c.loop-level-test.false in
    put_two g.W.Write.write_str_gives _ _ _ _ _ _ first (c.loop-level.invariant still) all
