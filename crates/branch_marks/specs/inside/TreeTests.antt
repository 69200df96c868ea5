-- That each of these tests is true exactly where its fact holds. For src/laws/showing.rt.
use Rattle.std.specs.Prelude.{ℕ, List}
use Rattle.std.specs.Bool.{Decides}
use Rattle.tail_book.specs.Seen.{BookSeen}
use Rattle.tail_book.specs.TableSeen.{CostTableSeen}
use Rattle.branch_marks.specs.declared.fact.Fact.{Fact}
use Rattle.branch_marks.specs.ProofTree.{Tree, IsShown, BoundsAtLeast}
use Rattle.branch_marks.specs.TreeTests.{is_shown, bounds_at_least}

-- each test is true exactly where its definition holds
abbrev pub ShownDecides : Type 0
ShownDecides = (table : CostTableSeen) (book : BookSeen) (marks : List Fact) (tree : Tree)
    → Decides (is_shown table book marks tree) (IsShown table book marks tree)

abbrev pub BoundsDecide : Type 0
BoundsDecide = (low : ℕ) (tree : Tree) → Decides (bounds_at_least low tree) (BoundsAtLeast low tree)
