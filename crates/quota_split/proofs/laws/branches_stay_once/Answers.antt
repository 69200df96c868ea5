use Rattle.quota_split.proofs.OnceLemmas.{branches_stay}
use Rattle.quota_split.proofs.laws.branches_stay_once.Goals as goal

pub returns : goal.returns
returns c = branches_stay c.has_fact_decides.ensures
