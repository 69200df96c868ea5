use Rattle.std.proofs.Common.{◌≡◌, ◌∙◌, ap, arith}
use Rattle.cert_checker.specs.State.{State}
use Rattle.cert_checker.specs.inside.Kept.{state_of}
use Rattle.cert_checker.proofs.Standing.{ready_lines}
use Rattle.cert_checker.proofs.state.Judging.take_known.Goals as goal

pub take_line-requires-clause-lines : goal.take_line-requires-clause-lines
take_line-requires-clause-lines c =
    let same : c.get_ready_for.new.self.lines ≡ c.args.self.now.lines =
    ap (λ (state : State). state.lines) c.in_ok-get_ready_for.ensures.state ∙ ready_lines c.args.book.now (state_of c.args.self.now) c.args.line in
    let less = c.requires.lines in
    omega (arith, same, less)
