use Rattle.std.proofs.Common.{◌≤◌, ◌++◌, ◌∷◌, [], ℕ, sym, subst, arith, length}
use Rattle.tail_book.specs.Lookup.{activities}
use Rattle.branch_marks.specs.declared.fact.Fact.TheVariants.{Must}
use Rattle.propagator.specs.inside.Touching.{IsTouched}
use Rattle.propagator.proofs.FactsTouch.{must_loses, must_touches}
use Rattle.propagator.proofs.MovedFloors.{loses_none}
use Rattle.propagator.proofs.touching.touch_must.Goals as goal

pub returns-then-j-k-clause-touches : goal.returns-then-j-k-clause-touches
returns-then-j-k-clause-touches c marks was =
    let all : activities c.args.book.now ≤ length c.set_from.new.flags = omega (arith, c.requires.due) in
    subst (λ (z : ℕ). IsTouched c.args.book.now (marks ++ Must z c.args.c ∷ []) c.args.k c.args.row.now c.set_from.new.flags c.set_each.new.flags) (sym c.if-j-k.true)
    (must_touches c.brought_tells.ensures c.usable_decides.ensures c.may_end_decides.ensures c.args.book.now marks c.args.k c.args.c c.args.row.now c.args.due.now c.set_from.new.flags
    c.args.ask.now c.set_each.new.flags c.set_from.ensures all (λ i lt. c.set_each.ensures i (omega (arith, lt, c.requires.ask))) was)

pub returns-else-j-k-clause-touches : goal.returns-else-j-k-clause-touches
returns-else-j-k-clause-touches c marks was =
    c.lose.ensures.touches marks (Must c.args.j c.args.c) (must_loses c.args.book.now marks c.args.k c.args.c c.args.j c.if-j-k.false) was

pub returns-then-j-k-clause-loses : goal.returns-then-j-k-clause-loses
returns-then-j-k-clause-loses c = loses_none c.args.row.now
