use Rattle.std.proofs.Common.{length}
use Rattle.sha256.specs.Sha256.{sha256, padding, initial_hash}
use Rattle.sha256.proofs.Whole.{hashed_parts}
use Rattle.sha256.proofs.digest.Goals as goal

pub returns : goal.returns
unfolding sha256
returns c = let e = hashed_parts initial_hash c.args.bytes.now (padding (length c.args.bytes.now)) in (cc)
