use Rattle.std.proofs.Common.{rules}
use Rattle.std.specs.Prelude.{IsTrue}
use Rattle.pricing.proofs.line_pass.is_open.Goals as goal

pub returns-clause-uncut : goal.returns-clause-uncut
returns-clause-uncut c = λ yes.
    let uncut : IsTrue c.is_uncut.result = search rules in
    c.is_uncut.ensures uncut
