use Rattle.std.proofs.Common.{rules, ◌≡◌, ◌∙◌, ◌++◌, ℕ, List, true, sym, ap, is_ok}
use Rattle.std.specs.Option.{option_to_list}
use Rattle.cert_lines.specs.Text.{cert_text}
use Rattle.cert_writer.specs.CertText.{line_text}
use Rattle.cert_writer.proofs.Lines.{front_put, on_err, on_ok_given, option_text, waits_more}
use Rattle.cert_writer.proofs.cert_log.add.Goals as goal

-- a front of what waits was put, the line among it
pub returns-clause-front : goal.returns-clause-front
returns-clause-front g c =
    let good : is_ok c.add_line.result ≡ true = search rules in
    let waits : c.add_line.new.line ≡ c.args.waiting.now ++ line_text c.in-Some.cert = on_ok_given c.add_line.result good c.add_line.ensures in
    let piece = cert_text (option_to_list c.args.cert.now) in
    let more : c.add_line.new.line ≡ c.args.waiting.now ++ piece =
    waits ∙ ap (λ (text : List ℕ). c.args.waiting.now ++ text) (sym (option_text c.args.cert.now c.in-Some.cert c.in-Some.is)) in
    let old = g.S.Sink.shows c.args.sink.now in
    on_err c.put_all.result (λ front ceased whole held.
    front_put old (g.S.Sink.shows c.put_all.new.sink) c.add_line.new.line (whole ++ piece) (front ceased)
    (waits_more old c.args.waiting.now c.add_line.new.line piece whole more held)) c.put_all.ensures.front
