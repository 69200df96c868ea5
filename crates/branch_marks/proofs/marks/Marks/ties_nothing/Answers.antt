use Rattle.std.proofs.Common.{◌∙◌, ap}
use Rattle.branch_marks.specs.inside.Named.{is_nothing}
use Rattle.branch_marks.proofs.Parts.{carry_last, last_end}
use Rattle.branch_marks.proofs.marks.Marks.ties_nothing.Goals as goal

-- no Tie begins at the carry-in
pub returns-in-Carry : goal.returns-in-Carry
returns-in-Carry c = rw c.in-Carry.is (carry_last c.args.self.now.facts)

pub returns-in-After : goal.returns-in-After
returns-in-After c = rw c.in-After.is (c.is_nothing.ensures ∙ ap is_nothing c.tied_after.ensures ∙ last_end c.in-After.x c.args.self.now.facts)
