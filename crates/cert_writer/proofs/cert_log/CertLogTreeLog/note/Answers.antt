use Rattle.std.proofs.Common.{inr}
use Rattle.cert_lines.specs.declared.cert_line.CertLine.TheVariants as line
use Rattle.cert_lines.specs.Version.{number_of_version}
use Rattle.cert_writer.proofs.Lines.{noted, torn}
use Rattle.cert_writer.proofs.cert_log.CertLogTreeLog.note.Goals as goal

-- its line was added
pub returns-clause-noted : goal.returns-clause-noted
returns-clause-noted g c = λ told ceased tells.
    let was = c.args.self.now in
    noted was.version was.in_cover (line.Header (number_of_version was.version) was.activities was.aircraft was.counters) told c.args.event.now
    c.line_for-line.result c.line_for-line.ensures.line (g.S.Sink.shows was.sink) (g.S.Sink.shows c.add.new.sink) was.waiting c.add.new.waiting c.line_for-line.ensures.spelled
    (c.in_default.ensures.added ceased) c.in_cover_after-self.result c.in_cover_after-self.ensures tells

-- it was cut off
pub returns-in-Err-clause-failed : goal.returns-in-Err-clause-failed
returns-in-Err-clause-failed g c = λ told ceased tells.
    let was = c.args.self.now in
    inr (torn was.version was.in_cover (line.Header (number_of_version was.version) was.activities was.aircraft was.counters) told c.args.event.now
    c.line_for-line.result c.line_for-line.ensures.line (g.S.Sink.shows was.sink) (g.S.Sink.shows c.add.new.sink) was.waiting (c.in-Err.ensures.front ceased) tells)
