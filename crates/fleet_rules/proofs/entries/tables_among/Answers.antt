use Rattle.std.proofs.Common.{◌≡◌, ap, map, drop, [], Ok, Err, refl}
use Rattle.std.proofs.lemmas.List.{drop_all, map-append}
use Rattle.toml.specs.View.{table_view, view}
use Rattle.fleet_rules.specs.Entries.{entry_table, refused}
use Rattle.fleet_rules.proofs.TomlLemmas.{map-drop, turn-bad, turn-end, turn-good}
use Rattle.tail_text.specs.declared.codes.TheConstants.{SHAPE}
use Rattle.fleet_rules.proofs.entries.tables_among.Goals as goal

-- a value that is a table comes behind the tables so far
pub loop-value-preserved : goal.loop-value-preserved
loop-value-preserved c =
    let left = map-drop view c.args.values.now c.loop-value.value-index c.value-item.result (c.loop-value-test.true, c.value-item.is) in
    let good : entry_table (view c.value-item.result) ≡ Ok (table_view c.in-Some.table.now) = rw (← c.as_table.ensures, c.in-Some.is) refl in
    let items = rw c.if-is_err.ensures.negation at c.push.ensures.items in
    rw (items, map-append) (turn-good entry_table _ _ _ c.loop-value.invariant _ _ _ left good)

-- one that is none decides
pub returns-in_default : goal.returns-in_default
returns-in_default c =
    let left = map-drop view c.args.values.now c.loop-value.value-index c.value-item.result (c.loop-value-test.true, c.value-item.is) in
    let bad : entry_table (view c.value-item.result) ≡ Err (refused SHAPE 0) = rw (← c.as_table.ensures, c.in_default.is) refl in
    rw c.refused.ensures (turn-bad entry_table _ _ _ c.loop-value.invariant _ _ _ left bad)

-- at the end no value is left
pub returns : goal.returns
returns c =
    let over : drop c.loop-value.value-index c.args.values.now ≡ [] = drop_all _ _ c.loop-value-test.false in
    turn-end entry_table _ _ _ c.loop-value.invariant (ap (map view) over)
