use Rattle.std.proofs.Common.{[], arith}
use Rattle.branch_marks.specs.inside.BranchTests.{undecided}
use Rattle.branch_tree.proofs.FewPlaces.{few_left}
use Rattle.branch_tree.proofs.laws.open_places_are_few.Goals as goal

pub returns : goal.returns
returns c = λ table book nodes left grows. few_left c.facts_leave_no_more.ensures c.branches_leave_fewer.ensures table book (undecided book []) nodes left (omega arith) grows
