use Rattle.cert_checker.proofs.ByPieces.{failures_stay}
use Rattle.cert_checker.proofs.laws.failures_stay.Goals as goal

pub returns : goal.returns
returns c = failures_stay c.read_lines_are_spelled.ensures c.spelled_lines_are_short.ensures
