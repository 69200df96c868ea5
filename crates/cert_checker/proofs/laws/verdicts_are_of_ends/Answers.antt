use Rattle.cert_checker.proofs.ByPieces.{verdicts_are_of_ends}
use Rattle.cert_checker.proofs.laws.verdicts_are_of_ends.Goals as goal

pub returns : goal.returns
returns c = verdicts_are_of_ends
