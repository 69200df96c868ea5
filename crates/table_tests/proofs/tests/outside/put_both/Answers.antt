use Rattle.tail_outside.proofs.OutsideLemmas.{AddsFront-more}
use Rattle.table_tests.proofs.tests.outside.put_both.Goals as goal

-- a front of the first piece is a front of both
pub returns-in-Err-clause-front : goal.returns-in-Err-clause-front
returns-in-Err-clause-front g c = λ alive. AddsFront-more (g.S.Sink.shows c.args.out.now).told (g.S.Sink.shows c.put.new.self).told c.args.first.now c.args.second.now (c.in-Err.ensures.front alive)
