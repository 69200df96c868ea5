-- The laws of best-first trees: such a tree is a grown tree, so what it ends with is true. For src/laws.rt.
use Rattle.std.specs.Prelude.{List}
use Rattle.tail_book.specs.Seen.{BookSeen}
use Rattle.tail_book.specs.TableSeen.{CostTableSeen}
use Rattle.tail_book.specs.CostTable.{IsCostTable, IsTableFor}
use Rattle.tail_book.specs.inside.Sound.{IsBook}
use Rattle.tail_book.specs.Truth.{IsTrueOutcomeIn}
use Rattle.tail_book.specs.declared.outcome.Outcome.{Outcome}
use Rattle.branch_tree.specs.declared.limit.Limit.{Limit}
use Rattle.branch_tree.specs.GrownTree.{IsGrownTree}
use Rattle.best_first.specs.BestTree.{Turn, IsBestTree, count_in, closing_of}
use Rattle.best_first.specs.BestTree.{nodes_of}

-- a best-first tree was grown from the root, in its own order
abbrev pub BestTreesAreGrown : Type 0
BestTreesAreGrown = (table : CostTableSeen) (book : BookSeen) (limit : Limit) (outcome : Outcome) (tree : List Turn)
    → IsBestTree table book limit outcome tree → IsGrownTree table book limit outcome (count_in tree) (closing_of tree) (nodes_of tree)

-- and what it ends with is true
abbrev pub BestTreesAreTrue : Type 0
BestTreesAreTrue = (table : CostTableSeen) (book : BookSeen) → IsBook book → IsCostTable table → IsTableFor book table
    → (limit : Limit) (outcome : Outcome) (tree : List Turn) → IsBestTree table book limit outcome tree → IsTrueOutcomeIn table book outcome
