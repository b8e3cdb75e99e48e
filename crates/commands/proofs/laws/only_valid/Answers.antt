use Rattle.commands.proofs.Decoded.{only_valid}
use Rattle.commands.proofs.laws.only_valid.Goals as goal

pub returns : goal.returns
returns c = only_valid
