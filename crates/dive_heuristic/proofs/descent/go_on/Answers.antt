use Rattle.std.proofs.Common.{List, [], ◌∷◌, sym, subst}
use Rattle.branch_marks.specs.declared.fact.Fact.{Fact}
use Rattle.branch_marks.specs.declared.fact.Fact.TheVariants.{Must}
use Rattle.propagator.specs.Keeping.{IsKeptFor}
use Rattle.dive_heuristic.proofs.Onward.{go_choice, fewer_after}
use Rattle.dive_heuristic.proofs.descent.go_on.Goals as goal

pub choose-requires-clause-undecided : goal.choose-requires-clause-undecided
choose-requires-clause-undecided c =
    c.choices_are_undecided.ensures c.args.book.now c.every_book_is_sound.ensures c.args.marks.now.facts c.args.routes.now.items c.args.k c.args.a
    (c.least_routes_fit.ensures c.args.table.now c.args.book.now c.args.marks.now.facts c.args.duals.now.values c.args.routes.now.items c.requires.stands.least) c.requires.choice

-- what is kept is right for one fact more
pub propagate-requires-clause-kept : goal.propagate-requires-clause-kept
propagate-requires-clause-kept c =
    subst (λ (facts : List Fact). IsKeptFor c.args.book.now facts c.args.diver.now.propagator) (sym c.in_ok-choose.ensures.added)
    (c.kept_for_more.ensures c.args.book.now c.args.marks.now.facts (Must c.args.k c.args.a ∷ []) c.args.diver.now.propagator c.requires.diver.propagator)

pub returns-in-Some-clause-goes : goal.returns-in-Some-clause-goes
returns-in-Some-clause-goes c =
    go_choice c.args.table.now c.args.book.now c.args.duals.now.values c.following_facts_are_new.ensures c.args.marks.now.facts c.choose.new.marks.facts c.propagate.new.marks.facts
    c.args.steps.now.items c.choose.new.steps.items c.propagate.new.steps.items c.args.routes.now.items c.args.k c.args.a c.requires.stands c.requires.choice
    c.in_ok-choose.ensures.added c.in_ok-choose.ensures.noted c.in_ok-end.ensures.forced

pub returns-in-Some-clause-fewer : goal.returns-in-Some-clause-fewer
returns-in-Some-clause-fewer c =
    let forced = c.in_ok-end.ensures.forced in
    fewer_after c.args.table.now c.args.book.now c.args.duals.now.values c.more_facts_leave_no_more.ensures c.branches_leave_fewer.ensures
    c.args.marks.now.facts c.choose.new.marks.facts c.propagate.new.marks.facts forced.added c.args.k c.args.a c.in_ok-choose.ensures.added forced.marks
    (c.choices_are_undecided.ensures c.args.book.now c.every_book_is_sound.ensures c.args.marks.now.facts c.args.routes.now.items c.args.k c.args.a
    (c.least_routes_fit.ensures c.args.table.now c.args.book.now c.args.marks.now.facts c.args.duals.now.values c.args.routes.now.items c.requires.stands.least) c.requires.choice)

pub returns-clause-goes : goal.returns-clause-goes
returns-clause-goes c =
    go_choice c.args.table.now c.args.book.now c.args.duals.now.values c.following_facts_are_new.ensures c.args.marks.now.facts c.choose.new.marks.facts c.propagate.new.marks.facts
    c.args.steps.now.items c.choose.new.steps.items c.propagate.new.steps.items c.args.routes.now.items c.args.k c.args.a c.requires.stands c.requires.choice
    c.in_ok-choose.ensures.added c.in_ok-choose.ensures.noted c.in_ok-end.ensures.forced

pub returns-clause-fewer : goal.returns-clause-fewer
returns-clause-fewer c =
    let forced = c.in_ok-end.ensures.forced in
    fewer_after c.args.table.now c.args.book.now c.args.duals.now.values c.more_facts_leave_no_more.ensures c.branches_leave_fewer.ensures
    c.args.marks.now.facts c.choose.new.marks.facts c.propagate.new.marks.facts forced.added c.args.k c.args.a c.in_ok-choose.ensures.added forced.marks
    (c.choices_are_undecided.ensures c.args.book.now c.every_book_is_sound.ensures c.args.marks.now.facts c.args.routes.now.items c.args.k c.args.a
    (c.least_routes_fit.ensures c.args.table.now c.args.book.now c.args.marks.now.facts c.args.duals.now.values c.args.routes.now.items c.requires.stands.least) c.requires.choice)
