use Rattle.branch_marks.proofs.Parts.{least_must}
use Rattle.branch_marks.proofs.marks.Marks.has_no_must.Goals as goal

pub returns : goal.returns
returns c = least_must c.args.k c.args.low c.args.high c.least_must.result c.args.self.now.facts c.least_must.ensures.end c.least_must.ensures.none c.least_must.ensures.found c.least_must.ensures.from
