use Rattle.std.proofs.Common.{rules}
use Rattle.dive_heuristic.specs.Dive.{HasNoHole}
use Rattle.dive_heuristic.proofs.Forced.{go_forced}
use Rattle.dive_heuristic.proofs.Onward.{has_begun}
use Rattle.dive_heuristic.proofs.descent.begin.Goals as goal

pub returns-in-Some-clause-goes : goal.returns-in-Some-clause-goes
returns-in-Some-clause-goes c =
    go_forced c.args.table.now c.args.book.now c.args.duals.now.values c.following_facts_are_new.ensures c.args.marks.now.facts c.propagate.new.marks.facts
    c.args.steps.now.items c.propagate.new.steps.items c.in_ok-end.ensures.forced

pub returns-clause-goes : goal.returns-clause-goes
returns-clause-goes c =
    go_forced c.args.table.now c.args.book.now c.args.duals.now.values c.following_facts_are_new.ensures c.args.marks.now.facts c.propagate.new.marks.facts
    c.args.steps.now.items c.propagate.new.steps.items c.in_ok-end.ensures.forced

pub returns-clause-begun : goal.returns-clause-begun
returns-clause-begun c =
    let somebody : HasNoHole c.args.book.now c.propagate.new.marks.facts = search rules in
    has_begun c.args.table.now c.args.book.now c.propagate.new.marks.facts c.args.duals.now.values c.in_ok-found.found c.in_ok-end.ensures.shut somebody
    c.in_ok-found.ensures.found
