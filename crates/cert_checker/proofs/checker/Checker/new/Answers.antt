use Rattle.std.proofs.Common.{rules, refl}
use Rattle.cert_checker.proofs.ByPieces.{nothing_fed}
use Rattle.cert_checker.proofs.checker.Checker.new.Goals as goal

pub returns-clause-stands : goal.returns-clause-stands
returns-clause-stands c = (refl, nothing_fed c.args.book.now _ c.in_ok-rest.rest.items c.in_ok-judging.ensures.state (search rules))
