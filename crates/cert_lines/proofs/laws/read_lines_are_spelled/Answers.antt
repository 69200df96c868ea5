use Rattle.cert_lines.proofs.Written.{line_written}
use Rattle.cert_lines.proofs.laws.read_lines_are_spelled.Goals as goal

pub returns : goal.returns
returns c = line_written
