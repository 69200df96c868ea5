-- A line spells each fact that follows. Such a fact is of the book, and a book has at most 4,096 activities and as many
-- aircraft, far less than the numbers that a line spells. A Tie, which no line spells, never follows. By the list of
-- facts, each of which joins the marks of the next.
use Rattle.std.proofs.Common.{◌≤◌, arith, List, [], ◌∷◌, ◌++◌}
use Rattle.std.proofs.lemmas.List.Elements.{All-nil, All-cons}
use Rattle.std.specs.Prelude.{All}
use Rattle.tail_book.specs.Seen.{BookSeen}
use Rattle.tail_book.specs.Lookup.{activities, aircraft}
use Rattle.branch_marks.specs.declared.fact.Fact.{Fact}
use Rattle.branch_marks.specs.declared.fact.Fact.TheVariants.{Bar, Must, Cut, Tie}
use Rattle.branch_marks.specs.Events.{IsLineFact}
use Rattle.branch_marks.specs.Following.{Follows, FollowInTurn, FollowingFactsAreOfBook}

module _ (of_book : FollowingFactsAreOfBook) (book : BookSeen) (few_activities : activities book ≤ 4096) (few_aircraft : aircraft book ≤ 4096) where
  line_fact : (marks : List Fact) (fact : Fact) → Follows book marks fact → IsLineFact fact
  line_fact marks (Bar k a) follows = let is = of_book book marks (Bar k a) follows in (omega (arith, is.0, few_aircraft), omega (arith, is.1, few_activities))
  line_fact marks (Must k a) follows = let is = of_book book marks (Must k a) follows in (omega (arith, is.0, few_aircraft), omega (arith, is.1, few_activities))
  line_fact marks (Cut a b) follows = let is = of_book book marks (Cut a b) follows in (omega (arith, is.0, few_activities), omega (arith, is.1, few_activities))
  line_fact marks (Tie a b) follows = absurd follows

  pub line_facts : (marks facts : List Fact) → FollowInTurn book marks facts → All IsLineFact facts
  line_facts marks [] follow = All-nil IsLineFact
  line_facts marks (fact ∷ facts) follow = All-cons IsLineFact fact facts (line_fact marks fact follow.0) (line_facts (marks ++ fact ∷ []) facts follow.1)
