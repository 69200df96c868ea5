use Rattle.std.proofs.Common.{ℕ, sym, subst}
use Rattle.branch_marks.specs.declared.fact.Fact.TheVariants.{Bar}
use Rattle.propagator.specs.inside.Touching.{LosesOnly}
use Rattle.propagator.proofs.FactsTouch.{bar_loses, bar_touches_not}
use Rattle.propagator.proofs.MovedFloors.{loses_none}
use Rattle.propagator.proofs.touching.touch_bar.Goals as goal

pub returns-then-j-k-clause-touches : goal.returns-then-j-k-clause-touches
returns-then-j-k-clause-touches c marks was =
    c.lose.ensures.touches marks (Bar c.args.j c.args.c)
    (subst (λ (z : ℕ). LosesOnly c.args.book.now marks (Bar z c.args.c) c.args.k c.args.c) (sym c.if-j-k.true) (bar_loses c.args.book.now marks c.args.k c.args.c)) was

pub returns-else-j-k-clause-touches : goal.returns-else-j-k-clause-touches
returns-else-j-k-clause-touches c marks was =
    bar_touches_not c.brought_tells.ensures c.usable_decides.ensures c.may_end_decides.ensures c.args.book.now marks c.args.k c.args.j c.args.c c.args.row.now c.args.due.now c.args.ask.now
    (c.bars_leave_others.ensures c.args.book.now marks c.args.j c.args.c c.args.k (λ same. c.if-j-k.false (sym same))) was

pub returns-else-j-k-clause-loses : goal.returns-else-j-k-clause-loses
returns-else-j-k-clause-loses c = loses_none c.args.row.now
