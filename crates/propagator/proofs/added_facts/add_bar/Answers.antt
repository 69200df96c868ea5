use Rattle.std.proofs.Common.{◌++◌, ◌∷◌, [], List}
use Rattle.branch_marks.specs.declared.fact.Fact.{Fact}
use Rattle.branch_marks.specs.declared.fact.Fact.TheVariants.{Bar}
use Rattle.propagator.specs.inside.Settling.{ActsOn}
use Rattle.propagator.proofs.Arriving.{at_either, acts_not, bar_acts}
use Rattle.propagator.proofs.added_facts.add_bar.Goals as goal

pub returns-clause-acts : goal.returns-clause-acts
returns-clause-acts c =
    let old = c.args.marks.now.facts in
    at_either (λ (marks : List Fact). ActsOn c.args.book.now c.args.k old marks) c.add_next.result old c.add_next.new.marks.facts (old ++ Bar c.args.k c.args.a ∷ [])
    c.add_next.ensures.added c.add_next.ensures.memory (bar_acts c.bars_leave_others.ensures c.args.book.now old c.args.k c.args.a) (acts_not c.args.book.now c.args.k old)
