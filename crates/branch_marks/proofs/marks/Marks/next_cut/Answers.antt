use Rattle.std.proofs.Common.{◌∙◌, ◌<◌, arith, sym}
use Rattle.branch_marks.proofs.marks.Marks.next_cut.Goals as goal

-- the bits say which Cuts there are
pub returns-clause-none : goal.returns-clause-none
returns-clause-none c =
    let activity = rw (← c.self.view_is) at c.requires.activity in
    rw (← c.self.view_is) (λ b above below.
    let within : b < c.self.inside.activities = omega (arith, below, c.next.ensures.end) in
    sym (c.self.invariant.cuts.pairs c.args.a b activity within) ∙ c.next.ensures.none b above below)
