use Rattle.std.proofs.Common.{◌≡◌}
use Rattle.tail_book.specs.declared.place.Place.TheVariants.{After}
use Rattle.branch_marks.specs.Below.{some_below}
use Rattle.branch_marks.specs.MarkTests.{is_usable}
use Rattle.cert_checker.proofs.node_tests.some_use.Given as goal

-- the aircraft below k decide
abbrev pub invariant-loop-k : goal.invariant-loop-k
invariant-loop-k l =
    some_below (λ k. is_usable l.book l.marks.facts k (After l.a) l.b) l.m ≡ some_below (λ k. is_usable l.book l.marks.facts k (After l.a) l.b) l.k
