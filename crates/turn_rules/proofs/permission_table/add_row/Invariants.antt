use Rattle.std.proofs.Common.{◌≡◌, ◌++◌, map}
use Rattle.std.specs.List.{range_with_len}
use Rattle.tail_book.specs.LegalTests.{is_allowed}
use Rattle.turn_rules.proofs.permission_table.add_row.Given as goal

-- the answers for the activities so far stand behind those for the aircraft before
abbrev pub invariant-loop-a : goal.invariant-loop-a
invariant-loop-a l = l.rows.items ≡ l.fn.rows.items ++ map (is_allowed l.book l.k) (range_with_len 0 l.a)
