use Rattle.tail_outside.specs.Outside.{ReadHasFailed}
use Rattle.run_frame.specs.inside.Answer.{IsPrinted, status_of}
use Rattle.run_frame.specs.Spelled.{spelled}
use Rattle.tailplan.specs.QuotaAnswers.{quota_answer_text}
use Rattle.tailplan.specs.inside.Quotas.{quota_status}
use Rattle.tailplan.proofs.QuotaPromised.{kept, piece_failed, promise, quota_refused, read_failed, words_refused}
use Rattle.tailplan.proofs.quota_run.run_quota.Goals as goal

pub returns-clause-promised : goal.returns-clause-promised
returns-clause-promised g c =
    let printed : IsPrinted (quota_answer_text c.answer_of-answer.result) (status_of quota_status c.answer_of-answer.result) (g.S.Sink.shows c.args.out.now) (g.S.Sink.shows c.print-status.new.out) c.print-status.result.0 =
    rw c.quota_usage_line.ensures at c.print-status.ensures.printed in
    promise (spelled c.args.words.now) (g.F.Files.shows c.args.files) (g.S.Sink.shows c.args.out.now) (g.S.Sink.shows c.print-status.new.out) c.print-status.result.0 c.answer_of-answer.result c.answer_of-answer.ensures.answer printed c.answer_of-answer.ensures.printable

pub returns-clause-read_failed : goal.returns-clause-read_failed
returns-clause-read_failed g c =
    let printed : IsPrinted (quota_answer_text c.answer_of-answer.result) (status_of quota_status c.answer_of-answer.result) (g.S.Sink.shows c.args.out.now) (g.S.Sink.shows c.print-status.new.out) c.print-status.result.0 =
    rw c.quota_usage_line.ensures at c.print-status.ensures.printed in
    read_failed (spelled c.args.words.now) (g.F.Files.shows c.args.files) (g.S.Sink.shows c.args.out.now) (g.S.Sink.shows c.print-status.new.out) c.print-status.result.0 c.answer_of-answer.result c.answer_of-answer.ensures.answer printed (ReadHasFailed (g.F.Files.shows c.args.files) (g.F.Files.shows c.answer_of-answer.new.files)) c.answer_of-answer.ensures.cause

pub returns-clause-write_failed : goal.returns-clause-write_failed
returns-clause-write_failed g c =
    let printed : IsPrinted (quota_answer_text c.answer_of-answer.result) (status_of quota_status c.answer_of-answer.result) (g.S.Sink.shows c.args.out.now) (g.S.Sink.shows c.print-status.new.out) c.print-status.result.0 =
    rw c.quota_usage_line.ensures at c.print-status.ensures.printed in
    piece_failed (spelled c.args.words.now) (g.F.Files.shows c.args.files) (g.S.Sink.shows c.args.out.now) (g.S.Sink.shows c.print-status.new.out) c.print-status.result.0 c.answer_of-answer.result c.answer_of-answer.ensures.answer printed

pub returns-clause-words_refused : goal.returns-clause-words_refused
returns-clause-words_refused g c =
    let printed : IsPrinted (quota_answer_text c.answer_of-answer.result) (status_of quota_status c.answer_of-answer.result) (g.S.Sink.shows c.args.out.now) (g.S.Sink.shows c.print-status.new.out) c.print-status.result.0 =
    rw c.quota_usage_line.ensures at c.print-status.ensures.printed in
    words_refused (spelled c.args.words.now) (g.F.Files.shows c.args.files) (g.S.Sink.shows c.args.out.now) (g.S.Sink.shows c.print-status.new.out) c.print-status.result.0 c.answer_of-answer.result c.answer_of-answer.ensures.answer printed

pub returns-clause-quota_refused : goal.returns-clause-quota_refused
returns-clause-quota_refused g c =
    let printed : IsPrinted (quota_answer_text c.answer_of-answer.result) (status_of quota_status c.answer_of-answer.result) (g.S.Sink.shows c.args.out.now) (g.S.Sink.shows c.print-status.new.out) c.print-status.result.0 =
    rw c.quota_usage_line.ensures at c.print-status.ensures.printed in
    quota_refused (spelled c.args.words.now) (g.F.Files.shows c.args.files) (g.S.Sink.shows c.args.out.now) (g.S.Sink.shows c.print-status.new.out) c.print-status.result.0 c.answer_of-answer.result c.answer_of-answer.ensures.answer printed c.answer_of-answer.ensures.printable

pub returns-clause-kept : goal.returns-clause-kept
returns-clause-kept g c =
    let printed : IsPrinted (quota_answer_text c.answer_of-answer.result) (status_of quota_status c.answer_of-answer.result) (g.S.Sink.shows c.args.out.now) (g.S.Sink.shows c.print-status.new.out) c.print-status.result.0 =
    rw c.quota_usage_line.ensures at c.print-status.ensures.printed in
    kept (spelled c.args.words.now) (g.F.Files.shows c.args.files) (g.S.Sink.shows c.args.out.now) (g.S.Sink.shows c.print-status.new.out) c.print-status.result.0 c.answer_of-answer.result c.answer_of-answer.ensures.answer printed c.answer_of-answer.ensures.printable
