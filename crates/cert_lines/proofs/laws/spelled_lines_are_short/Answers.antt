use Rattle.cert_lines.proofs.ReadBack.{line_short}
use Rattle.cert_lines.proofs.laws.spelled_lines_are_short.Goals as goal

pub returns : goal.returns
returns c = line_short
