use Rattle.quota_split.proofs.ForcedRoutes.{forced_route}
use Rattle.quota_split.proofs.laws.forced_routes_are_all.Goals as goal

pub returns : goal.returns
returns c book sound marks plan legal forced k lt route of_k fits =
    forced_route book marks k c.legal_routes_rise.ensures c.each_is_flown_once.ensures sound plan legal forced lt route of_k fits
