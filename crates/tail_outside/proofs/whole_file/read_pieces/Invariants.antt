use Rattle.std.proofs.Common.{◌≡◌, ◌≤◌, ◌-◌, ◌++◌, length, drop, IfSome, IsTrue}
use Rattle.tail_outside.specs.Outside.{OnlyRead}
use Rattle.tail_outside.proofs.whole_file.read_pieces.Given as goal

-- the file begins with the bytes read so far, and files were only read
abbrev pub invariant-pieces : goal.invariant-pieces
invariant-pieces g l = record {
  begins : IfSome ((g.F.Files.shows l.fn.files).holds l.name) (λ bytes. l.bytes.items ++ drop (length l.bytes.items) bytes ≡ bytes);
  within : length l.bytes.items ≤ l.limit;
  may : IsTrue ((g.F.Files.shows l.files).lets_read l.name);
  only_read : OnlyRead (g.F.Files.shows l.fn.files) (g.F.Files.shows l.files);
}

abbrev pub decreases-pieces : goal.decreases-pieces
decreases-pieces g l = l.limit - length l.bytes.items
