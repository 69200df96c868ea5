use Rattle.plan_report.proofs.BrokenOfBook.{can_be_written}
use Rattle.plan_report.proofs.laws.audits_can_be_written.Goals as goal

pub returns : goal.returns
returns c = can_be_written c.legs_are_of_book.ensures
