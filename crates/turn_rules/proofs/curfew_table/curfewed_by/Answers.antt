use Rattle.std.proofs.Common.{◌∙◌, ap}
use Rattle.turn_rules.specs.inside.CurfewTable.{is_type_curfewed}
use Rattle.turn_rules.proofs.curfew_table.curfewed_by.Goals as goal

-- an aircraft is kept from an activity where its type is
pub returns : goal.returns
returns c = c.closes.ensures ∙ ap (λ t. is_type_curfewed c.args.book.now t c.args.a) c.kind_of.ensures.value
