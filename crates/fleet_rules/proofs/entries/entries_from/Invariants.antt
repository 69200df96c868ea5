use Rattle.std.proofs.Common.{◌≡◌, ◌≤◌, ◌+◌, ◌-◌, length, map, drop}
use Rattle.std.specs.Prelude.{All}
use Rattle.toml.specs.View.{table_view}
use Rattle.tail_text.specs.inside.Joined.{joined}
use Rattle.fleet_rules.specs.Entries.{entries_from}
use Rattle.fleet_rules.proofs.entries.entries_from.Given as goal

-- the entries so far are good, and stand before what the tables give that are left
abbrev pub invariant-loop-table : goal.invariant-loop-table
invariant-loop-table g l = (length l.entries.items ≤ g.E.Entry.section.limit)
    × All g.E.Entry.sound l.entries.items
    × (entries_from g.E.Entry.section (l.before + 1) g.E.Entry.section.limit (map (λ t. table_view t.now) l.tables)
    ≡ joined l.entries.items (entries_from g.E.Entry.section (l.before + 1 + length l.entries.items)
    (g.E.Entry.section.limit - length l.entries.items) (map (λ t. table_view t.now) (drop l.table-index l.tables))))
