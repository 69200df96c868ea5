use Rattle.std.proofs.Common.{◌≡◌, ◌≤◌, ◌-◌, length, IsTrue}
use Rattle.tail_outside.specs.Outside.{OnlyRead}
use Rattle.tailcheck.specs.declared.certified.TheConstants.{CERTIFICATE_LIMIT}
use Rattle.tailcheck.proofs.FedFiles.{IsFed}
use Rattle.tailcheck.proofs.feeding.feed_file.Given as goal

-- the bytes so far were fed and met no failure, and files were only read
abbrev pub invariant-pieces : goal.invariant-pieces
invariant-pieces g l = record {
  fed : IsFed ((g.F.Files.shows l.fn.files).holds l.name) l.checker l.taken;
  few : l.taken ≤ CERTIFICATE_LIMIT;
  book : l.checker.book ≡ l.fn.checker.book;
  room : length l.buffer ≡ length l.fn.buffer;
  may : IsTrue ((g.F.Files.shows l.files).lets_read l.name);
  only_read : OnlyRead (g.F.Files.shows l.fn.files) (g.F.Files.shows l.files);
}

abbrev pub decreases-pieces : goal.decreases-pieces
decreases-pieces g l = CERTIFICATE_LIMIT - l.taken
