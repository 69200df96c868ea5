use Rattle.std.specs.List.{list_all}
use Rattle.branch_marks.specs.MarkTests.{may_end}
use Rattle.branch_marks.specs.inside.MarkParts.{first_after, is_no_must_in, ties_nothing}
use Rattle.branch_marks.proofs.Parts.{end_parts, first_fails, second_decides}
use Rattle.branch_marks.proofs.marks.Marks.ends_at.Goals as goal

-- the facts of each kind let it end, since none names an activity that the book does not have
pub returns-then-has_no_must : goal.returns-then-has_no_must
returns-then-has_no_must c =
    let facts = c.self.inside.facts in
    let musts = rw (← c.self.view_is, c.first_after.ensures) at c.has_no_must.ensures in
    let ties = rw (← c.self.view_is) at c.ties_nothing.ensures in
    rw (← c.self.view_is) (second_decides (may_end facts c.args.k c.args.from) (list_all (is_no_must_in c.args.k (first_after c.args.from) c.self.inside.activities) facts)
    (list_all (ties_nothing c.args.from) facts) c.has_no_must.result c.ties_nothing.result (end_parts c.self.inside.aircraft c.self.inside.activities c.args.k c.args.from facts c.self.invariant.facts)
    musts c.if-has_no_must.true ties)

pub returns-else-has_no_must : goal.returns-else-has_no_must
returns-else-has_no_must c =
    let facts = c.self.inside.facts in
    let musts = rw (← c.self.view_is, c.first_after.ensures) at c.has_no_must.ensures in
    rw (← c.self.view_is) (first_fails (may_end facts c.args.k c.args.from) (list_all (is_no_must_in c.args.k (first_after c.args.from) c.self.inside.activities) facts)
    (list_all (ties_nothing c.args.from) facts) c.has_no_must.result (end_parts c.self.inside.aircraft c.self.inside.activities c.args.k c.args.from facts c.self.invariant.facts)
    musts c.if-has_no_must.false)
