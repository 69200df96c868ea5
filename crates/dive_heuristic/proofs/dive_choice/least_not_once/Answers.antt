use Rattle.std.proofs.Common.{◌≡◌, ◌∙◌, ◌<◌, ◌≤◌, arith, rules, sym, length, slice_index_or}
use Rattle.tail_book.specs.Lookup.{activities}
use Rattle.tail_book.specs.declared.flown.Flown.TheVariants.{Never, Once}
use Rattle.tail_book.specs.Plan.{times_flown}
use Rattle.dive_heuristic.proofs.KeptRoutes.{at_or_below}
use Rattle.dive_heuristic.proofs.dive_choice.least_not_once.Goals as goal

-- it is flown once as well
pub loop-a-preserved : goal.loop-a-preserved
loop-a-preserved c =
    let once : slice_index_or c.args.tally.now c.loop-a.a Never ≡ Once = search rules in
    let within : c.loop-a.a < length c.args.tally.now = search rules in
    let counted = c.requires.times c.loop-a.a within in
    at_or_below (λ b. times_flown c.args.routes.now b ≡ 1) c.loop-a.a
    ((c.flown_is_count.ensures (times_flown c.args.routes.now c.loop-a.a) Once).0 (sym counted ∙ once)) c.loop-a.invariant

pub returns : goal.returns
returns c =
    let all : activities c.args.book.now ≤ c.loop-a.a = search rules in
    λ a lt. c.loop-a.invariant a (omega (arith, lt, all))
