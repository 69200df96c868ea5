use Rattle.plan_audit.proofs.Told.{no_links_told}
use Rattle.plan_audit.proofs.laws.no_links_are_not_connected.Goals as goal

pub returns : goal.returns
returns c = no_links_told
