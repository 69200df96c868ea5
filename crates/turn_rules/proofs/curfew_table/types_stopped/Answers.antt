use Rattle.std.proofs.Common.{◌∙◌, ap, ap₂, sym}
use Rattle.std.specs.Prelude.{◌||◌}
use Rattle.std.proofs.lemmas.List.Folds.{list_any_more}
use Rattle.turn_rules.specs.inside.CurfewTable.{stops_type}
use Rattle.turn_rules.proofs.curfew_table.types_stopped.Goals as goal

-- what one curfew more keeps from the flight is in the set
pub loop-curfew-preserved : goal.loop-curfew-preserved
loop-curfew-preserved c t below =
    let stops = stops_type c.args.book.now t c.args.a in
    let more = list_any_more stops c.args.curfews.now c.loop-curfew.curfew-index c.curfew-item.result c.loop-curfew-test.true in
    c.or-stopped.ensures t ∙ ap₂ (λ x y. x || y) (c.loop-curfew.invariant t below) (c.types_met.ensures t below ∙ ap stops c.curfew-item.is) ∙ sym more
