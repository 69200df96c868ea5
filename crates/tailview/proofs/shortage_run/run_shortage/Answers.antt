use Rattle.tail_outside.specs.Outside.{ReadHasFailed}
use Rattle.run_frame.specs.inside.Answer.{IsPrinted, status_of}
use Rattle.run_frame.specs.Spelled.{spelled}
use Rattle.tailview.specs.ShortageAnswers.{shortage_answer_text}
use Rattle.tailview.proofs.ShortagePromised.{drawn, piece_failed, promise, read_failed, texts_refused, words_refused}
use Rattle.tailview.proofs.shortage_run.run_shortage.Goals as goal

pub returns-clause-promised : goal.returns-clause-promised
returns-clause-promised g c =
    let printed : IsPrinted (shortage_answer_text c.answer_of-answer.result) (status_of (λ shown. 0) c.answer_of-answer.result) (g.S.Sink.shows c.args.out.now) (g.S.Sink.shows c.print-status.new.out) c.print-status.result.0 =
    rw c.shortage_usage_line.ensures at c.print-status.ensures.printed in
    promise (spelled c.args.words.now) (g.F.Files.shows c.args.files) (g.S.Sink.shows c.args.out.now) (g.S.Sink.shows c.print-status.new.out) c.print-status.result.0 c.answer_of-answer.result c.answer_of-answer.ensures.answer printed c.answer_of-answer.ensures.printable

pub returns-clause-read_failed : goal.returns-clause-read_failed
returns-clause-read_failed g c =
    let printed : IsPrinted (shortage_answer_text c.answer_of-answer.result) (status_of (λ shown. 0) c.answer_of-answer.result) (g.S.Sink.shows c.args.out.now) (g.S.Sink.shows c.print-status.new.out) c.print-status.result.0 =
    rw c.shortage_usage_line.ensures at c.print-status.ensures.printed in
    read_failed (spelled c.args.words.now) (g.F.Files.shows c.args.files) (g.S.Sink.shows c.args.out.now) (g.S.Sink.shows c.print-status.new.out) c.print-status.result.0 c.answer_of-answer.result c.answer_of-answer.ensures.answer printed (ReadHasFailed (g.F.Files.shows c.args.files) (g.F.Files.shows c.answer_of-answer.new.files)) c.answer_of-answer.ensures.cause

pub returns-clause-write_failed : goal.returns-clause-write_failed
returns-clause-write_failed g c =
    let printed : IsPrinted (shortage_answer_text c.answer_of-answer.result) (status_of (λ shown. 0) c.answer_of-answer.result) (g.S.Sink.shows c.args.out.now) (g.S.Sink.shows c.print-status.new.out) c.print-status.result.0 =
    rw c.shortage_usage_line.ensures at c.print-status.ensures.printed in
    piece_failed (spelled c.args.words.now) (g.F.Files.shows c.args.files) (g.S.Sink.shows c.args.out.now) (g.S.Sink.shows c.print-status.new.out) c.print-status.result.0 c.answer_of-answer.result c.answer_of-answer.ensures.answer printed

pub returns-clause-words_refused : goal.returns-clause-words_refused
returns-clause-words_refused g c =
    let printed : IsPrinted (shortage_answer_text c.answer_of-answer.result) (status_of (λ shown. 0) c.answer_of-answer.result) (g.S.Sink.shows c.args.out.now) (g.S.Sink.shows c.print-status.new.out) c.print-status.result.0 =
    rw c.shortage_usage_line.ensures at c.print-status.ensures.printed in
    words_refused (spelled c.args.words.now) (g.F.Files.shows c.args.files) (g.S.Sink.shows c.args.out.now) (g.S.Sink.shows c.print-status.new.out) c.print-status.result.0 c.answer_of-answer.result c.answer_of-answer.ensures.answer printed

pub returns-clause-texts_refused : goal.returns-clause-texts_refused
returns-clause-texts_refused g c =
    let printed : IsPrinted (shortage_answer_text c.answer_of-answer.result) (status_of (λ shown. 0) c.answer_of-answer.result) (g.S.Sink.shows c.args.out.now) (g.S.Sink.shows c.print-status.new.out) c.print-status.result.0 =
    rw c.shortage_usage_line.ensures at c.print-status.ensures.printed in
    texts_refused (spelled c.args.words.now) (g.F.Files.shows c.args.files) (g.S.Sink.shows c.args.out.now) (g.S.Sink.shows c.print-status.new.out) c.print-status.result.0 c.answer_of-answer.result c.answer_of-answer.ensures.answer printed

pub returns-clause-drawn : goal.returns-clause-drawn
returns-clause-drawn g c =
    let printed : IsPrinted (shortage_answer_text c.answer_of-answer.result) (status_of (λ shown. 0) c.answer_of-answer.result) (g.S.Sink.shows c.args.out.now) (g.S.Sink.shows c.print-status.new.out) c.print-status.result.0 =
    rw c.shortage_usage_line.ensures at c.print-status.ensures.printed in
    drawn (spelled c.args.words.now) (g.F.Files.shows c.args.files) (g.S.Sink.shows c.args.out.now) (g.S.Sink.shows c.print-status.new.out) c.print-status.result.0 c.answer_of-answer.result c.answer_of-answer.ensures.answer printed c.answer_of-answer.ensures.printable
