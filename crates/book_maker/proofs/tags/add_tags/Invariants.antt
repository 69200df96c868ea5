use Rattle.std.proofs.Common.{◌≡◌, ◌+◌, ◌*◌, ◌≤◌, ◌++◌, length, take}
use Rattle.std.specs.List.{flat_map}
use Rattle.tail_book.specs.declared.limits.TheConstants.{ITEM_LIMIT}
use Rattle.book_maker.proofs.tags.add_tags.Given as goal

-- the tags of the rows so far stand behind those that were there
abbrev pub invariant-loop-i : goal.invariant-loop-i
invariant-loop-i g l = record {
  tags : l.names.items ≡ l.fn.names.items ++ flat_map g.T.Tagged.named (take l.i l.rows);
  few : length l.names.items ≤ length l.fn.names.items + ITEM_LIMIT * l.i;
}
