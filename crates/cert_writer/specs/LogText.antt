-- What a log writes at its beginning and at its end. For src/cert_log.rt.
use Rattle.std.specs.Prelude.{ℕ, List, [], ◌∷◌, ◌++◌}
use Rattle.tail_book.specs.declared.outcome.Outcome.{Outcome}
use Rattle.cert_lines.specs.Text.{cert_text}
use Rattle.cert_lines.specs.Version.{number_of_version}
use Rattle.cert_lines.specs.declared.cert_line.CertLine.TheVariants as line
use Rattle.cert_writer.specs.Trailer.{trailer_lines}
use Rattle.cert_writer.specs.declared.cert_log.CertLog.{CertLog}

-- the header's line
abbrev pub header_text : {S : Type 0} → CertLog S → List ℕ
header_text log = cert_text (line.Header (number_of_version log.version) log.activities log.aircraft log.counters ∷ [])

-- the lines that wait, and behind them those that end the certificate
abbrev pub end_text : {S : Type 0} → CertLog S → Outcome → List ℕ
end_text log outcome = log.waiting ++ cert_text (trailer_lines log.activities outcome)
