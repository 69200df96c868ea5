use Rattle.plan_repair.proofs.ReportLemmas.{read_back}
use Rattle.plan_repair.proofs.laws.repair_is_read_back.Goals as goal

pub returns : goal.returns
returns c = read_back c.repaired_is_read_back.ensures
