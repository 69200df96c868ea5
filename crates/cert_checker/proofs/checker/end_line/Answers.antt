use Rattle.std.proofs.Common.{rules, ◌++◌}
use Rattle.cert_checker.specs.inside.Kept.{state_of}
use Rattle.cert_checker.proofs.ByPieces.{fails_begun}
use Rattle.cert_checker.proofs.checker.end_line.Goals as goal

pub returns-in-Some-clause-step : goal.returns-in-Some-clause-step
returns-in-Some-clause-step c =
    fails_begun c.read_lines_are_spelled.ensures c.spelled_lines_are_short.ensures c.args.book.now (state_of c.args.judging.now)
    (c.args.rest.now.items ++ c.args.part.now) c.in-Some.failure (search rules)
