use Rattle.quota_split.proofs.OnceLemmas.{steps_stay}
use Rattle.quota_split.proofs.laws.steps_stay_once.Goals as goal

pub returns : goal.returns
returns c = steps_stay c.has_fact_decides.ensures c.following_facts_are_new.ensures
