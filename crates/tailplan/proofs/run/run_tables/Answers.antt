use Rattle.run_frame.specs.Spelled.{spelled}
use Rattle.tailplan.proofs.Reported.{only_reads_of, promise_of}
use Rattle.tailplan.proofs.run.run_tables.Goals as goal

pub returns-clause-promised : goal.returns-clause-promised
returns-clause-promised g c =
    let run = c.answer_of-answer in
    promise_of (spelled c.args.words.now) (g.F.Files.shows c.args.files) (g.F.Files.shows run.result.files) (g.S.Sink.shows c.args.out.now) (g.S.Sink.shows c.report-status.new.out) c.report-status.result.0
    run.result.answer run.ensures.answer run.ensures.printable run.ensures.write_cause c.report-status.ensures.reported

pub returns-clause-same : goal.returns-clause-same
returns-clause-same g c =
    let run = c.answer_of-answer in
    only_reads_of (spelled c.args.words.now) (g.F.Files.shows c.args.files) (g.F.Files.shows run.result.files) (g.S.Sink.shows c.args.out.now) (g.S.Sink.shows c.report-status.new.out) c.report-status.result.0
    run.result.answer run.ensures.kept run.ensures.same c.report-status.ensures.reported
