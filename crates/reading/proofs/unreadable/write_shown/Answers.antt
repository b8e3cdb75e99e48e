use Rattle.std.proofs.Common.{take, rules}
use Rattle.std.specs.Str.{IsUtf8}
use Rattle.reading.proofs.Texts.{IsUtf8-printable}
use Rattle.reading.proofs.unreadable.write_shown.Goals as goal

pub unwrap-requires : goal.unwrap-requires
unwrap-requires g c =
    let text : IsUtf8 (take c.loop-b.len c.loop-b.room) = rw c.loop-b.invariant.so_far (IsUtf8-printable _) in
    search rules
