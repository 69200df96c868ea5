use Rattle.std.proofs.Common.{◌≡◌, length}
use Rattle.tail_text.specs.Parts.{parts_of}
use Rattle.cert_checker.specs.Judged.{judged_from}
use Rattle.cert_checker.specs.inside.Kept.{state_of}
use Rattle.cert_checker.specs.inside.Pieces.{IsKept, onto_rest}
use Rattle.cert_checker.proofs.checker.feed_parts.Given as goal

-- what is kept gives, with the parts that are left, what it gave with all of them
abbrev pub invariant-loop-part : goal.invariant-loop-part
invariant-loop-part l = record {
  kept : IsKept l.book l.judging l.rest.items;
  left : judged_from l.book (state_of l.fn.judging) (onto_rest l.fn.rest.items (parts_of 10 l.piece)) ≡ judged_from l.book (state_of l.judging) (onto_rest l.rest.items l.parts);
}

abbrev pub decreases-loop-part : goal.decreases-loop-part
decreases-loop-part l = length l.parts
