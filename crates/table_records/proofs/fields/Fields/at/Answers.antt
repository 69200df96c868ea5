use Rattle.std.proofs.Common.{◌∙◌, [], ap}
use Rattle.std.specs.Option.{unwrap_or}
use Rattle.table_records.proofs.FieldLemmas.{field_at-found}
use Rattle.table_records.proofs.fields.Fields.at.Goals as goal

pub returns-in-Some : goal.returns-in-Some
returns-in-Some c = rw (← c.self.view_is) (ap (λ found. unwrap_or found []) c.in-Some.ensures.value ∙ field_at-found _ _)

pub returns-in-None : goal.returns-in-None
returns-in-None c = rw (← c.self.view_is) (ap (λ found. unwrap_or found []) c.in-None.ensures.value ∙ field_at-found _ _)
