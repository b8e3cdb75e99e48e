use Rattle.std.specs.Fmt.{HasWritten, IsPlainFormatter}
use Rattle.shows.specs.Texts.{levels_text}
use Rattle.shows.proofs.desk_line.LevelsDisplay.fmt.Given as goal

-- the levels that were gone over stand in the text
abbrev pub invariant-loop-channel : goal.invariant-loop-channel
invariant-loop-channel g l =
    IsPlainFormatter l.initial.f → HasWritten g.W.Write.write_str_gives l.initial.f (levels_text l.channel l.initial.self.0.now) l.f
