-- When a log writes the header of a book, and how a search stops by its log. For src/certified.rt.
use Rattle.std.specs.Prelude.{ℕ, ◌≡◌, length}
use Rattle.branch_marks.specs.declared.tree_log.LogFail.{LogFail}
use Rattle.branch_marks.specs.declared.tree_log.LogFail.TheVariants as fail
use Rattle.node_leaves.specs.declared.stop.Stop.{Stop}
use Rattle.node_leaves.specs.declared.stop.Stop.TheVariants as stop
use Rattle.tail_book.specs.Lookup.{activities, aircraft}
use Rattle.tail_book.specs.Seen.{BookSeen}

-- these are the book's numbers of activities, aircraft and counters
abbrev pub AreNumbersOf : BookSeen → ℕ → ℕ → ℕ → Type 0
AreNumbersOf book n m c = (n ≡ activities book) × (m ≡ aircraft book) × (c ≡ length book.rules.counters)

-- a search stops so where its log fails so
abbrev pub IsStopOf : LogFail → Stop → Type 0
IsStopOf fail.Write stopped = stopped ≡ stop.Log
IsStopOf fail.Memory stopped = stopped ≡ stop.Memory
