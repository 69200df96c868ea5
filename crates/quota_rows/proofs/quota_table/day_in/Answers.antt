use Rattle.std.proofs.Common.{sym}
use Rattle.quota_rows.proofs.DayLemmas.{other_lengths_refused}
use Rattle.quota_rows.proofs.quota_table.day_in.Goals as goal

pub returns-then-field-ne10-clause-exact : goal.returns-then-field-ne10-clause-exact
returns-then-field-ne10-clause-exact c = sym (other_lengths_refused c.args.field.now c.if-field-ne10.true)
