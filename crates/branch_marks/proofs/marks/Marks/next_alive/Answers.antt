use Rattle.std.proofs.Common.{◌∙◌, ◌<◌, arith, sym}
use Rattle.branch_marks.proofs.FactTables.{alive_is}
use Rattle.branch_marks.proofs.marks.Marks.next_alive.Goals as goal

-- the bits say who is alive
pub returns-clause-none : goal.returns-clause-none
returns-clause-none c =
    let marks = rw (← c.self.view_is) at c.requires.marks in
    let activity : c.args.a < c.self.inside.activities = omega (arith, c.requires.activity, marks.activities_are) in
    rw (← c.self.view_is) (λ k above below.
    let within : k < c.self.inside.aircraft = omega (arith, below, c.next.ensures.end) in
    sym (alive_is c.args.book.now c.self.inside.aircraft c.self.inside.activities c.self.inside.allowed c.self.inside.alive c.self.inside.facts marks.allowed c.self.invariant.alive
    c.args.a k activity within c.requires.activity (omega (arith, within, marks.aircraft_are)))
    ∙ c.next.ensures.none k above below)

pub returns-clause-found : goal.returns-clause-found
returns-clause-found c =
    let marks = rw (← c.self.view_is) at c.requires.marks in
    let activity : c.args.a < c.self.inside.activities = omega (arith, c.requires.activity, marks.activities_are) in
    rw (← c.self.view_is) (λ below.
    let within : c.next.result < c.self.inside.aircraft = omega (arith, below, marks.aircraft_are) in
    sym (alive_is c.args.book.now c.self.inside.aircraft c.self.inside.activities c.self.inside.allowed c.self.inside.alive c.self.inside.facts marks.allowed c.self.invariant.alive
    c.args.a c.next.result activity within c.requires.activity below)
    ∙ c.next.ensures.found within)
