use Rattle.std.specs.List.{list_all}
use Rattle.std.specs.Prelude.{◌&&◌}
use Rattle.branch_marks.specs.MarkTests.{lets_go}
use Rattle.branch_marks.specs.inside.MarkParts.{first_after, is_no_must_in, leaves_link, ties_only}
use Rattle.branch_marks.proofs.Parts.{go_parts, first_fails, second_decides}
use Rattle.branch_marks.proofs.marks.Marks.lets_go.Goals as goal

-- the facts of each kind let it go
pub returns-then-has_no_must : goal.returns-then-has_no_must
returns-then-has_no_must c =
    let musts = rw c.first_after.ensures at c.has_no_must.ensures in
    second_decides (list_all (lets_go c.args.k c.args.from c.args.b) c.args.self.now.facts) (list_all (is_no_must_in c.args.k (first_after c.args.from) c.args.b) c.args.self.now.facts)
    (list_all (leaves_link c.args.from c.args.b) c.args.self.now.facts && list_all (ties_only c.args.from c.args.b) c.args.self.now.facts)
    c.has_no_must.result c.lets_link.result (go_parts c.args.k c.args.from c.args.b c.args.self.now.facts) musts c.if-has_no_must.true c.lets_link.ensures

pub returns-else-has_no_must : goal.returns-else-has_no_must
returns-else-has_no_must c =
    let musts = rw c.first_after.ensures at c.has_no_must.ensures in
    first_fails (list_all (lets_go c.args.k c.args.from c.args.b) c.args.self.now.facts) (list_all (is_no_must_in c.args.k (first_after c.args.from) c.args.b) c.args.self.now.facts)
    (list_all (leaves_link c.args.from c.args.b) c.args.self.now.facts && list_all (ties_only c.args.from c.args.b) c.args.self.now.facts)
    c.has_no_must.result (go_parts c.args.k c.args.from c.args.b c.args.self.now.facts) musts c.if-has_no_must.false
