use Rattle.std.proofs.Common.{◌≡◌, length}
use Rattle.tail_book.specs.ActivityOrder.{comes_before}
use Rattle.tail_book.specs.Pairs.{each_pair}
use Rattle.tail_book.proofs.sound.are_ordered.Given as goal

-- what is left decides
abbrev pub invariant-loop-first : goal.invariant-loop-first
invariant-loop-first l =
    each_pair comes_before l.activities ≡ each_pair comes_before l.rest

abbrev pub decreases-loop-first : goal.decreases-loop-first
decreases-loop-first l = length l.rest
