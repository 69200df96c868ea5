use Rattle.std.proofs.Common.{◌≡◌, ◌++◌, ◌∷◌, [], List, refl, subst}
use Rattle.branch_marks.specs.declared.fact.Fact.{Fact}
use Rattle.branch_marks.specs.declared.fact.Fact.TheVariants.{Cut}
use Rattle.branch_marks.specs.Following.{IsDeadConnection}
use Rattle.propagator.specs.inside.Cutting.{AreFloorsOf, NothingNewFollows}
use Rattle.propagator.proofs.Arriving.{at_either}
use Rattle.propagator.proofs.OnlyCarriers.{on_ok}
use Rattle.propagator.proofs.DeadLinks.{cut_floors, cut_once, nothing_itself}
use Rattle.propagator.proofs.dead_links.cut_link.Goals as goal

pub returns-clause-floors : goal.returns-clause-floors
returns-clause-floors c =
    let book = c.args.book.now in
    let old = c.args.marks.now.facts in
    at_either (λ (marks : List Fact). AreFloorsOf book marks c.args.rows.now) c.add_next.result old c.add_next.new.marks.facts (old ++ Cut c.args.a c.args.b ∷ [])
    c.add_next.ensures.added c.add_next.ensures.memory
    (cut_floors c.cuts_take_no_floor.ensures c.floors_count.ensures book old c.args.a c.args.b c.args.rows.now (c.if-not-is_dead_link.ensures.0 refl) c.requires.floors)
    c.requires.floors

pub returns-clause-nothing : goal.returns-clause-nothing
returns-clause-nothing c =
    let book = c.args.book.now in
    let old = c.args.marks.now.facts in
    at_either (λ (marks : List Fact). NothingNewFollows book old marks) c.add_next.result old c.add_next.new.marks.facts (old ++ Cut c.args.a c.args.b ∷ [])
    c.add_next.ensures.added c.add_next.ensures.memory
    (c.cuts_make_nothing_follow.ensures book old c.args.a c.args.b (c.if-not-is_dead_link.ensures.0 refl)) (nothing_itself book old)

pub returns-clause-cut : goal.returns-clause-cut
returns-clause-cut c =
    let book = c.args.book.now in
    let old = c.args.marks.now.facts in
    on_ok c.add_next.result
    (λ (e : c.add_next.new.marks.facts ≡ old ++ Cut c.args.a c.args.b ∷ []) (dead : IsDeadConnection book c.add_next.new.marks.facts c.args.a c.args.b).
    cut_once book old c.args.a c.args.b (subst (λ (marks : List Fact). IsDeadConnection book marks c.args.a c.args.b) e dead))
    c.add_next.ensures.added
