use Rattle.plan_audit.proofs.Along.{legs_are_of_book}
use Rattle.plan_audit.proofs.laws.legs_are_of_book.Goals as goal

pub returns : goal.returns
returns c = legs_are_of_book
