use Rattle.std.proofs.Common.{arith}
use Rattle.quota_split.proofs.TieCounts.{no_more_ties}
use Rattle.quota_split.proofs.laws.tied_over_leaves_no_plan.Goals as goal

pub returns : goal.returns
returns c book quota marks once over plan hold keeps =
    let few = no_more_ties c.has_fact_decides.ensures book quota marks once plan hold in omega (arith, few, over, keeps)
