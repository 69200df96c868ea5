use Rattle.std.proofs.Common.{◌≡◌, ◌∙◌, ◌<◌, arith, sym}
use Rattle.branch_marks.specs.MarkTests.{is_alive}
use Rattle.branch_marks.proofs.FactTables.{alive_is}
use Rattle.branch_marks.proofs.marks.Marks.alive.Goals as goal

-- the bit says it
pub returns-clause-tests : goal.returns-clause-tests
returns-clause-tests c =
    let marks = rw (← c.self.view_is) at c.requires.marks in
    let activity : c.args.a < c.self.inside.activities = omega (arith, c.requires.activity, marks.activities_are) in
    let aircraft : c.args.k < c.self.inside.aircraft = omega (arith, c.requires.aircraft, marks.aircraft_are) in
    rw (← c.self.view_is) (c.has.ensures
    ∙ alive_is c.args.book.now c.self.inside.aircraft c.self.inside.activities c.self.inside.allowed c.self.inside.alive c.self.inside.facts marks.allowed c.self.invariant.alive
    c.args.a c.args.k activity aircraft c.requires.activity c.requires.aircraft)

pub returns-clause-means : goal.returns-clause-means
returns-clause-means c =
    let decides = c.alive_decides.ensures c.args.book.now c.args.self.now.facts c.args.k c.args.a in
    let tests : c.has.result ≡ is_alive c.args.book.now c.args.self.now.facts c.args.k c.args.a = returns-clause-tests c in
    ((λ h. decides.0 (sym tests ∙ h)), (λ h. tests ∙ decides.1 h))
