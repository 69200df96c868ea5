use Rattle.std.proofs.Common.{◌≡◌, ◌∙◌, ap, length, rules}
use Rattle.std.specs.Prelude.{◌==◌, not}
use Rattle.cert_checker.proofs.Closing.{owes_behind}
use Rattle.cert_checker.proofs.state.Judging.owes.Goals as goal

pub returns-else-self : goal.returns-else-self
returns-else-self c =
    let none : c.is_empty.result ≡ (length c.args.self.now.branches.behind.items == 0) = search rules in
    ap not none ∙ owes_behind c.args.self.now c.in_default.not-Start c.if-self.false
