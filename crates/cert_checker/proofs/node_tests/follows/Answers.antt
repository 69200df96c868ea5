use Rattle.std.proofs.Common.{◌∙◌, ap, sym}
use Rattle.branch_marks.specs.Following.{IsDead, IsDeadConnection, IsOnlyCarrier}
use Rattle.branch_marks.specs.declared.fact.Fact.{Fact}
use Rattle.branch_marks.specs.declared.fact.Fact.TheVariants.{Bar, Cut, Must}
use Rattle.branch_marks.specs.FollowingTests.{follows}
use Rattle.cert_checker.proofs.FollowingTold.{one_test}
use Rattle.cert_checker.proofs.node_tests.follows.Goals as goal

-- the test of each kind of fact decides what its definition says
pub returns-in-Bar-clause-tests : goal.returns-in-Bar-clause-tests
returns-in-Bar-clause-tests c =
    let book = c.args.book.now in
    let facts = c.args.marks.now.facts in
    let k = c.in-Bar.k in
    let a = c.in-Bar.a in
    one_test c.is_dead.result (follows book facts (Bar k a)) (IsDead book facts k a) c.is_dead.ensures.means
    (c.follows_decides.ensures book facts (Bar k a)) ∙ ap (λ (fact : Fact). follows book facts fact) (sym c.in-Bar.is)

pub returns-in-Must-clause-tests : goal.returns-in-Must-clause-tests
returns-in-Must-clause-tests c =
    let book = c.args.book.now in
    let facts = c.args.marks.now.facts in
    let k = c.in-Must.k in
    let a = c.in-Must.a in
    one_test c.is_only_carrier.result (follows book facts (Must k a)) (IsOnlyCarrier book facts k a) c.is_only_carrier.ensures
    (c.follows_decides.ensures book facts (Must k a)) ∙ ap (λ (fact : Fact). follows book facts fact) (sym c.in-Must.is)

pub returns-in-Cut-clause-tests : goal.returns-in-Cut-clause-tests
returns-in-Cut-clause-tests c =
    let book = c.args.book.now in
    let facts = c.args.marks.now.facts in
    let a = c.in-Cut.a in
    let b = c.in-Cut.b in
    one_test c.is_dead_connection.result (follows book facts (Cut a b)) (IsDeadConnection book facts a b) c.is_dead_connection.ensures.means
    (c.follows_decides.ensures book facts (Cut a b)) ∙ ap (λ (fact : Fact). follows book facts fact) (sym c.in-Cut.is)
