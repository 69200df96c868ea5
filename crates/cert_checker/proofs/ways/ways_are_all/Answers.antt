use Rattle.cert_checker.proofs.MetWays.{are_all}
use Rattle.cert_checker.proofs.ways.ways_are_all.Goals as goal

pub returns : goal.returns
returns c = are_all c.rows_are_their_places.ensures c.usable_decides.ensures c.heads_are_links.ensures c.successors_are_links.ensures
