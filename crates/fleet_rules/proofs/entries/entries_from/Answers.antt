use Rattle.std.proofs.Common.{◌≡◌, ◌-◌, ◌<◌, ◌+◌, ap, length, map, drop, [], rules, arith, Ok, Err}
use Rattle.std.proofs.lemmas.List.{drop_all}
use Rattle.std.proofs.lemmas.List.Elements.{All-push}
use Rattle.toml.specs.View.{table_view}
use Rattle.fleet_rules.specs.Entries.{entry_in}
use Rattle.fleet_rules.proofs.EntryLemmas.{entry_in-room, turn-bad, turn-end, turn-good}
use Rattle.fleet_rules.proofs.TomlLemmas.{map-drop}
use Rattle.fleet_rules.proofs.entries.entries_from.Goals as goal

-- a table that gives no entry decides, at its number
pub returns-in-Err-Code-clause-value : goal.returns-in-Err-Code-clause-value
returns-in-Err-Code-clause-value g c =
    let left = map-drop (λ t. table_view t.now) c.args.tables.now c.loop-table.table-index c.table-item.result (c.loop-table-test.true, c.table-item.is) in
    let bad : entry_in g.E.Entry.section (g.E.Entry.section.limit - length c.loop-table.entries.items) (table_view c.table-item.result.now) ≡ Err c.in-Err-Code.code = search rules in
    let place : c.args.before + c.len-in-Err-Code.result + 1 ≡ c.args.before + 1 + length c.loop-table.entries.items = search rules in
    rw (c.refused.ensures, c.in-Err-Code.field-0-is, place) (turn-bad g.E.Entry.section (c.args.before + 1) _ c.loop-table.entries.items _ c.loop-table.invariant.2 _ _ c.in-Err-Code.code left bad)

-- one that gives an entry had room for it
pub loop-table-preserved : goal.loop-table-preserved
loop-table-preserved g c =
    let left = map-drop (λ t. table_view t.now) c.args.tables.now c.loop-table.table-index c.table-item.result (c.loop-table-test.true, c.table-item.is) in
    let good : entry_in g.E.Entry.section (g.E.Entry.section.limit - length c.loop-table.entries.items) (table_view c.table-item.result.now) ≡ Ok c.in-Ok.entry = search rules in
    let room : 0 < g.E.Entry.section.limit - length c.loop-table.entries.items = entry_in-room g.E.Entry.section _ _ _ good in
    let items = rw c.if-is_err.ensures.negation at c.push.ensures.items in (
      omega (arith, c.push.ensures.len, ap length items, room),
      rw items (All-push g.E.Entry.sound _ _ c.loop-table.invariant.1 c.in-Ok.ensures.sound),
      rw items (turn-good g.E.Entry.section (c.args.before + 1) _ c.loop-table.entries.items _ c.loop-table.invariant.2 _ _ c.in-Ok.entry left good),
    )

-- at the end no table is left
pub returns-clause-value : goal.returns-clause-value
returns-clause-value g c =
    let over : drop c.loop-table.table-index c.args.tables.now ≡ [] = drop_all _ _ c.loop-table-test.false in
    turn-end g.E.Entry.section (c.args.before + 1) _ c.loop-table.entries.items _ c.loop-table.invariant.2 (ap (map (λ t. table_view t.now)) over)
