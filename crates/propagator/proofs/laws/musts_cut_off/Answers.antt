use Rattle.propagator.proofs.CutOffs.{must_cuts_off}
use Rattle.propagator.proofs.laws.musts_cut_off.Goals as goal

pub returns : goal.returns
returns c = must_cuts_off c.usable_decides.ensures c.has_fact_decides.ensures
