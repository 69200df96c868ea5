use Rattle.quota_rows.proofs.Belonging.{belongs_tested}
use Rattle.quota_rows.proofs.laws.belongs_decides.Goals as goal

pub returns : goal.returns
returns c = belongs_tested
