use Rattle.std.proofs.Common.{◌∙◌, ◌<◌, arith, ap}
use Rattle.std.specs.Prelude.{not}
use Rattle.branch_marks.proofs.Parts.{carry_uncut, no_cut}
use Rattle.branch_marks.proofs.marks.Marks.leaves_link.Goals as goal

-- nothing cuts the carry-in
pub returns-in-Carry : goal.returns-in-Carry
returns-in-Carry c = rw c.in-Carry.is (carry_uncut c.args.b c.args.self.now.facts)

-- the bit says whether a Cut does
pub returns-in-After : goal.returns-in-After
returns-in-After c =
    let place = rw (← c.self.view_is, c.in-After.is) at c.requires.place in
    let activity = rw (← c.self.view_is) at c.requires.activity in
    let before : c.in-After.x < c.self.inside.activities = omega (arith, place) in
    rw (← c.self.view_is, c.in-After.is) (ap not (c.has.ensures ∙ c.self.invariant.cuts.pairs c.in-After.x c.args.b before activity) ∙ no_cut c.in-After.x c.args.b c.self.inside.facts)
