use Rattle.cert_checker.proofs.SameLines.{same_failure}
use Rattle.cert_checker.proofs.laws.failures_depend_on_lines.Goals as goal

pub returns : goal.returns
returns c = same_failure
