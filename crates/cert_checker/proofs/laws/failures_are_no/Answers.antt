use Rattle.cert_checker.proofs.ByPieces.{failures_are_no}
use Rattle.cert_checker.proofs.laws.failures_are_no.Goals as goal

pub returns : goal.returns
returns c = failures_are_no
