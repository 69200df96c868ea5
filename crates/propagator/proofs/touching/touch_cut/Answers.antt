use Rattle.propagator.proofs.FactsTouch.{cut_touches}
use Rattle.branch_marks.specs.declared.fact.Fact.TheVariants.{Cut}
use Rattle.propagator.specs.inside.Touching.{Touches}
use Rattle.propagator.proofs.touching.touch_cut.Goals as goal

pub returns : goal.returns
returns c =
    let touches : Touches c.args.book.now c.args.k (Cut c.args.c c.args.d) c.args.row.now c.args.due.now c.args.ask.now c.args.row.now c.set.new.flags c.set-2.new.flags = λ marks was.
    cut_touches c.brought_tells.ensures c.usable_decides.ensures c.may_end_decides.ensures c.args.book.now marks c.args.k c.args.c c.args.d c.args.row.now
    c.args.due.now c.set.new.flags c.args.ask.now c.set-2.new.flags c.set.ensures c.set-2.ensures was in
    touches
