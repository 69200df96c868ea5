use Rattle.std.proofs.Common.{◌≡◌}
use Rattle.book_maker.specs.Changes.{changes_for}
use Rattle.book_maker.proofs.changes.changes_by.Given as goal

-- the changes of the years so far
abbrev pub invariant-loop-n : goal.invariant-loop-n
invariant-loop-n l = l.changes.items ≡ changes_for l.standard l.daylight l.first l.second l.n
