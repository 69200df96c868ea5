use Rattle.branch_marks.proofs.LesserFloors.{grouped, turned}
use Rattle.branch_marks.proofs.laws.consequences.lesser_in_any_order.Goals as goal

pub returns : goal.returns
returns c = record { grouped = grouped; turned = turned }
