use Rattle.std.proofs.Common.{◌≡◌, drop}
use Rattle.shortage_reader.specs.BookIds.{activity_named, named_from}
use Rattle.shortage_reader.proofs.book_ids.activity_named.Given as goal

-- what is left decides
abbrev pub invariant-loop-a : goal.invariant-loop-a
invariant-loop-a l = activity_named l.book l.id ≡ named_from l.id l.a (drop l.a l.book.activities)
