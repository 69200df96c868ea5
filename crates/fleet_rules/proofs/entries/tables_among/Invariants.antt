use Rattle.std.proofs.Common.{◌≡◌, map, drop}
use Rattle.toml.specs.View.{table_view, view}
use Rattle.tail_text.specs.Checks.{look_each}
use Rattle.tail_text.specs.inside.Joined.{joined}
use Rattle.fleet_rules.specs.Entries.{entry_table}
use Rattle.fleet_rules.proofs.entries.tables_among.Given as goal

-- the tables so far stand before those that are left
abbrev pub invariant-loop-value : goal.invariant-loop-value
invariant-loop-value l = look_each entry_table (map view l.values)
    ≡ joined (map (λ t. table_view t.now) l.tables.items) (look_each entry_table (map view (drop l.value-index l.values)))
