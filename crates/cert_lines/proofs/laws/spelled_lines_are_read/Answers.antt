use Rattle.cert_lines.proofs.ReadBack.{line_read}
use Rattle.cert_lines.proofs.laws.spelled_lines_are_read.Goals as goal

pub returns : goal.returns
returns c = line_read
