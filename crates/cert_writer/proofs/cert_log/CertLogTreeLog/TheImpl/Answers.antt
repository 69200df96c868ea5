use Rattle.std.proofs.Common.{◌∙◌, sym}
use Rattle.cert_lines.specs.declared.cert_line.CertLine.TheVariants as line
use Rattle.cert_lines.specs.Version.{number_of_version}
use Rattle.cert_writer.proofs.Lines.{leaves_out}
use Rattle.cert_writer.proofs.cert_log.CertLogTreeLog.TheImpl.Goals as goal

-- it says no where it is lean
pub wants_labels-tells : goal.wants_labels-tells
wants_labels-tells g c = λ none.
    let was = c.args.self.now in
    leaves_out was.version was.in_cover (line.Header (number_of_version was.version) was.activities was.aircraft was.counters)
    (g.S.Sink.shows was.sink) was.waiting (sym c.ensures.exact ∙ none)
