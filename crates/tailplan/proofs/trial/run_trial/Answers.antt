use Rattle.std.proofs.Common.{rules}
use Rattle.tailplan.proofs.TrialRuns.{trial_promise}
use Rattle.tailplan.proofs.trial.run_trial.Goals as goal

pub returns-clause-promised : goal.returns-clause-promised
returns-clause-promised g c =
    trial_promise c.args.seed (g.S.Sink.shows c.args.out.now) (g.S.Sink.shows c.print.new.out) c.print.result.0 c.trial_answer-answer.result c.trial_answer-answer.ensures (search rules)
