use Rattle.std.proofs.Common.{◌≡◌, ◌∙◌, map, rules}
use Rattle.std.specs.List.{range_with_len}
use Rattle.tail_book.specs.Lookup.{aircraft}
use Rattle.plan_audit.specs.Kept.{legs_met}
use Rattle.plan_audit.specs.inside.Kept.{route_in}
use Rattle.plan_audit.specs.Met.{names_met}
use Rattle.plan_audit.proofs.KeptRoutes.{routes_are_kept}
use Rattle.plan_audit.proofs.kept_plan.kept.Goals as goal

-- the legs are those of the names met
pub returns : goal.returns
returns c =
    let legs = c.in_ok-legs.legs.items in
    let met : legs ≡ legs_met (names_met c.args.book.now c.args.raw.now) = search rules in
    let made : c.in_ok-routes_in.field-0.items ≡ map (route_in legs) (range_with_len 0 (aircraft c.args.book.now)) = search rules in
    made ∙ routes_are_kept c.args.book.now c.args.raw.now legs met
