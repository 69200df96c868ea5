use Rattle.std.proofs.Common.{◌∙◌, ap, sym, List, ℤ}
use Rattle.std.specs.Prelude.{◌+ℤ◌}
use Rattle.tail_book.specs.Sums.{total}
use Rattle.branch_marks.specs.Bound.{rounded_up}
use Rattle.cert_checker.specs.Step.{lower}
use Rattle.cert_checker.proofs.Closing.{close_bound, close_short}
use Rattle.cert_checker.proofs.state.Judging.close_bound.Goals as goal

pub returns-then-not-has_all_covers-clause-early : goal.returns-then-not-has_all_covers-clause-early
returns-then-not-has_all_covers-clause-early c is =
    close_short c.args.book.now c.args.self.now c.requires.here (sym c.has_all_covers.ensures ∙ c.if-not-has_all_covers.true)

pub returns-clause-closed : goal.returns-clause-closed
returns-clause-closed c is =
    let bound = c.bound_of-bound.ensures ∙ ap (λ (duals : List ℤ). rounded_up (total duals +ℤ c.args.self.now.values)) c.deref.ensures.value in
    close_bound c.args.book.now c.args.self.now c.lower-self.result c.requires.here (sym c.has_all_covers.ensures ∙ c.if-not-has_all_covers.false)
    (c.lower-self.ensures ∙ ap (lower c.args.self.now.low) bound)
