use Rattle.std.proofs.Common.{◌∙◌, ◌<◌, arith, sym}
use Rattle.branch_marks.proofs.marks.Marks.next_must.Goals as goal

-- the bits say which Musts there are
pub returns-clause-none : goal.returns-clause-none
returns-clause-none c =
    let aircraft = rw (← c.self.view_is) at c.requires.aircraft in
    rw (← c.self.view_is) (λ a above below.
    let within : a < c.self.inside.activities = omega (arith, below, c.next.ensures.end) in
    sym (c.self.invariant.musts.pairs c.args.k a aircraft within) ∙ c.next.ensures.none a above below)
