-- Which pairs of activities are not decided yet. For cert_checker/src/branches.rt and cert_checker/src/node_tests.rt.
use Rattle.std.specs.Prelude.{List, Bool, ◌&&◌, not}
use Rattle.tail_book.specs.Seen.{BookSeen}
use Rattle.tail_book.specs.declared.place.Place.TheVariants.{After}
use Rattle.tail_book.specs.Lookup.{aircraft}
use Rattle.branch_marks.specs.declared.fact.Fact.{Fact}
use Rattle.branch_marks.specs.declared.fact.Fact.TheVariants.{Must, Cut, Tie}
use Rattle.branch_marks.specs.declared.fact.Pair.{Pair}
use Rattle.branch_marks.specs.declared.fact.Pair.TheVariants.{Fly, Link}
use Rattle.branch_marks.specs.Below.{some_below}
use Rattle.branch_marks.specs.MarkTests.{is_alive, is_usable}
use Rattle.branch_marks.specs.FactTests.{has_fact}

-- the marks leave the pair undecided
abbrev pub is_undecided : BookSeen → List Fact → Pair → Bool
is_undecided book marks (Fly k a) = is_alive book marks k a && not (has_fact marks (Must k a))
is_undecided book marks (Link a b) =
    some_below (λ k. is_usable book marks k (After a) b) (aircraft book) && (not (has_fact marks (Cut a b)) && not (has_fact marks (Tie a b)))
