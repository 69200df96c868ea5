use Rattle.std.proofs.Common.{◌≡◌, ◌∙◌, true, ap, sym, map, drop, [], Ok, Err}
use Rattle.std.proofs.lemmas.List.{drop_all}
use Rattle.std.proofs.lemmas.List.Elements.{All-push}
use Rattle.toml.specs.View.{view}
use Rattle.tail_book.specs.Name.{is_name}
use Rattle.fleet_rules.specs.TomlValues.{name_of_value}
use Rattle.fleet_rules.proofs.TomlLemmas.{map-drop, turn-bad, turn-end, turn-good}
use Rattle.fleet_rules.proofs.toml_values.names_among.Goals as goal

-- a value that is a name comes behind the names so far
pub loop-value-preserved : goal.loop-value-preserved
loop-value-preserved c =
    let left = map-drop view c.args.values.now c.loop-value.value-index c.value-item.result (c.loop-value-test.true, c.value-item.is) in
    let good : name_of_value (view c.value-item.result) ≡ Ok c.in-Ok.name = sym c.name_of_value.ensures.value ∙ c.in-Ok.is in
    let items = rw c.if-is_err.ensures.negation at c.push.ensures.items in (
      rw items (All-push (λ name. is_name name ≡ true) _ _ c.loop-value.invariant.0 c.in-Ok.ensures.grammar),
      rw items (turn-good name_of_value _ c.loop-value.names.items _ c.loop-value.invariant.1 _ _ c.in-Ok.name left good),
    )

-- one that is none decides
pub returns-in-Err-clause-value : goal.returns-in-Err-clause-value
returns-in-Err-clause-value c =
    let left = map-drop view c.args.values.now c.loop-value.value-index c.value-item.result (c.loop-value-test.true, c.value-item.is) in
    let bad : name_of_value (view c.value-item.result) ≡ Err c.in-Err.code = sym c.name_of_value.ensures.value ∙ c.in-Err.is in
    turn-bad name_of_value _ c.loop-value.names.items _ c.loop-value.invariant.1 _ _ c.in-Err.code left bad

-- at the end no value is left
pub returns-clause-value : goal.returns-clause-value
returns-clause-value c =
    let over : drop c.loop-value.value-index c.args.values.now ≡ [] = drop_all _ _ c.loop-value-test.false in
    turn-end name_of_value _ c.loop-value.names.items _ c.loop-value.invariant.1 (ap (map view) over)
