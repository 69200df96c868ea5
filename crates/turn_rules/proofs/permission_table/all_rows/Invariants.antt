use Rattle.std.proofs.Common.{◌≡◌}
use Rattle.std.specs.List.{flat_map, range_with_len}
use Rattle.turn_rules.specs.inside.PermissionTable.{allowed_to}
use Rattle.turn_rules.proofs.permission_table.all_rows.Given as goal

-- the answers for the aircraft so far
abbrev pub invariant-loop-k : goal.invariant-loop-k
invariant-loop-k l = l.rows.items ≡ flat_map (allowed_to l.book) (range_with_len 0 l.k)
