use Rattle.std.proofs.Common.{◌∙◌, ap, sym}
use Rattle.std.specs.List.{list_all}
use Rattle.tail_book.specs.declared.place.Place.TheVariants.{After}
use Rattle.branch_marks.specs.inside.Named.{is_nothing, lets_number, named_by}
use Rattle.branch_marks.specs.inside.MarkTables.{tied_after, tied_before}
use Rattle.branch_marks.specs.inside.MarkParts.{ties_only}
use Rattle.branch_marks.proofs.Parts.{both_ends, carry_end, first_fails, second_decides}
use Rattle.branch_marks.proofs.marks.Marks.ties_only.Goals as goal

-- the carry-in begins no Tie, so none may end at what comes first
pub returns-in-Carry : goal.returns-in-Carry
returns-in-Carry c = rw c.in-Carry.is (c.is_nothing.ensures ∙ ap is_nothing c.tied_before.ensures ∙ carry_end c.args.b c.args.self.now.facts)

-- what is tied behind the place, and what is tied before the activity
pub returns-then-lets : goal.returns-then-lets
returns-then-lets c =
    let facts = c.args.self.now.facts in
    rw c.in-After.is (second_decides (list_all (ties_only (After c.in-After.x) c.args.b) facts) (lets_number (named_by (tied_after c.in-After.x) facts) c.args.b)
    (lets_number (named_by (tied_before c.args.b) facts) c.in-After.x) c.lets.result c.lets-then-lets.result (sym (both_ends c.in-After.x c.args.b facts))
    (c.lets.ensures ∙ ap (λ t. lets_number t c.args.b) c.tied_after.ensures) c.if-lets.true (c.lets-then-lets.ensures ∙ ap (λ t. lets_number t c.in-After.x) c.tied_before-then-lets.ensures))

pub returns-else-lets : goal.returns-else-lets
returns-else-lets c =
    let facts = c.args.self.now.facts in
    rw c.in-After.is (first_fails (list_all (ties_only (After c.in-After.x) c.args.b) facts) (lets_number (named_by (tied_after c.in-After.x) facts) c.args.b)
    (lets_number (named_by (tied_before c.args.b) facts) c.in-After.x) c.lets.result (sym (both_ends c.in-After.x c.args.b facts))
    (c.lets.ensures ∙ ap (λ t. lets_number t c.args.b) c.tied_after.ensures) c.if-lets.false)
