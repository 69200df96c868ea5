use Rattle.std.proofs.Common.{◌∙◌}
use Rattle.table_records.proofs.TextLemmas.{is_utf8-told}
use Rattle.quota_rows.proofs.quota_table.is_utf8.Goals as goal

pub returns : goal.returns
returns c = c.is_ok.ensures.value ∙ is_utf8-told c.args.bytes.now _ _ c.from_utf8.result c.from_utf8.ensures.cases
