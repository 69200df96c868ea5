use Rattle.std.proofs.Common.{◌≡◌, length}
use Rattle.tail_book.specs.inside.SoundTests.{comes_sooner}
use Rattle.tail_book.specs.Pairs.{each_pair}
use Rattle.tail_book.proofs.sound.changes_rise.Given as goal

-- what is left decides
abbrev pub invariant-loop-first : goal.invariant-loop-first
invariant-loop-first l =
    each_pair comes_sooner l.changes ≡ each_pair comes_sooner l.rest

abbrev pub decreases-loop-first : goal.decreases-loop-first
decreases-loop-first l = length l.rest
