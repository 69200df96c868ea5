use Rattle.tail_outside.specs.Outside.{ReadHasFailed}
use Rattle.run_frame.specs.inside.Answer.{IsPrinted, status_of}
use Rattle.run_frame.specs.Spelled.{spelled}
use Rattle.tailplan.specs.WhyAnswers.{why_answer_text}
use Rattle.tailplan.specs.inside.Whys.{why_status}
use Rattle.tailplan.proofs.WhyPromised.{judged, piece_failed, promise, read_failed, tables_refused, words_refused}
use Rattle.tailplan.proofs.why_run.run_why.Goals as goal

pub returns-clause-promised : goal.returns-clause-promised
returns-clause-promised g c =
    let printed : IsPrinted (why_answer_text c.answer_of-answer.result) (status_of (λ found. why_status found.why) c.answer_of-answer.result) (g.S.Sink.shows c.args.out.now) (g.S.Sink.shows c.print-status.new.out) c.print-status.result.0 =
    rw c.why_usage_line.ensures at c.print-status.ensures.printed in
    promise c.true_whys_leave_no_plan.ensures (spelled c.args.words.now) (g.F.Files.shows c.args.files) (g.S.Sink.shows c.args.out.now) (g.S.Sink.shows c.print-status.new.out) c.print-status.result.0 c.answer_of-answer.result c.answer_of-answer.ensures.answer printed c.answer_of-answer.ensures.printable

pub returns-clause-read_failed : goal.returns-clause-read_failed
returns-clause-read_failed g c =
    let printed : IsPrinted (why_answer_text c.answer_of-answer.result) (status_of (λ found. why_status found.why) c.answer_of-answer.result) (g.S.Sink.shows c.args.out.now) (g.S.Sink.shows c.print-status.new.out) c.print-status.result.0 =
    rw c.why_usage_line.ensures at c.print-status.ensures.printed in
    read_failed c.true_whys_leave_no_plan.ensures (spelled c.args.words.now) (g.F.Files.shows c.args.files) (g.S.Sink.shows c.args.out.now) (g.S.Sink.shows c.print-status.new.out) c.print-status.result.0 c.answer_of-answer.result c.answer_of-answer.ensures.answer printed (ReadHasFailed (g.F.Files.shows c.args.files) (g.F.Files.shows c.answer_of-answer.new.files)) c.answer_of-answer.ensures.cause

pub returns-clause-write_failed : goal.returns-clause-write_failed
returns-clause-write_failed g c =
    let printed : IsPrinted (why_answer_text c.answer_of-answer.result) (status_of (λ found. why_status found.why) c.answer_of-answer.result) (g.S.Sink.shows c.args.out.now) (g.S.Sink.shows c.print-status.new.out) c.print-status.result.0 =
    rw c.why_usage_line.ensures at c.print-status.ensures.printed in
    piece_failed c.true_whys_leave_no_plan.ensures (spelled c.args.words.now) (g.F.Files.shows c.args.files) (g.S.Sink.shows c.args.out.now) (g.S.Sink.shows c.print-status.new.out) c.print-status.result.0 c.answer_of-answer.result c.answer_of-answer.ensures.answer printed

pub returns-clause-words_refused : goal.returns-clause-words_refused
returns-clause-words_refused g c =
    let printed : IsPrinted (why_answer_text c.answer_of-answer.result) (status_of (λ found. why_status found.why) c.answer_of-answer.result) (g.S.Sink.shows c.args.out.now) (g.S.Sink.shows c.print-status.new.out) c.print-status.result.0 =
    rw c.why_usage_line.ensures at c.print-status.ensures.printed in
    words_refused c.true_whys_leave_no_plan.ensures (spelled c.args.words.now) (g.F.Files.shows c.args.files) (g.S.Sink.shows c.args.out.now) (g.S.Sink.shows c.print-status.new.out) c.print-status.result.0 c.answer_of-answer.result c.answer_of-answer.ensures.answer printed

pub returns-clause-tables_refused : goal.returns-clause-tables_refused
returns-clause-tables_refused g c =
    let printed : IsPrinted (why_answer_text c.answer_of-answer.result) (status_of (λ found. why_status found.why) c.answer_of-answer.result) (g.S.Sink.shows c.args.out.now) (g.S.Sink.shows c.print-status.new.out) c.print-status.result.0 =
    rw c.why_usage_line.ensures at c.print-status.ensures.printed in
    tables_refused c.true_whys_leave_no_plan.ensures (spelled c.args.words.now) (g.F.Files.shows c.args.files) (g.S.Sink.shows c.args.out.now) (g.S.Sink.shows c.print-status.new.out) c.print-status.result.0 c.answer_of-answer.result c.answer_of-answer.ensures.answer printed

pub returns-clause-judged : goal.returns-clause-judged
returns-clause-judged g c =
    let printed : IsPrinted (why_answer_text c.answer_of-answer.result) (status_of (λ found. why_status found.why) c.answer_of-answer.result) (g.S.Sink.shows c.args.out.now) (g.S.Sink.shows c.print-status.new.out) c.print-status.result.0 =
    rw c.why_usage_line.ensures at c.print-status.ensures.printed in
    judged c.true_whys_leave_no_plan.ensures (spelled c.args.words.now) (g.F.Files.shows c.args.files) (g.S.Sink.shows c.args.out.now) (g.S.Sink.shows c.print-status.new.out) c.print-status.result.0 c.answer_of-answer.result c.answer_of-answer.ensures.answer printed c.answer_of-answer.ensures.printable
