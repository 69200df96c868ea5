use Rattle.std.proofs.Common.{◌∙◌, ◌+◌, ◌++◌, ap, take}
use Rattle.std.proofs.lemmas.List.{take_all}
use Rattle.plan_audit.proofs.Deciding.{times-all, taken}
use Rattle.plan_audit.proofs.legal_plan.count_route.Goals as goal

-- the activity is counted behind those so far
pub loop-a-preserved : goal.loop-a-preserved
loop-a-preserved c =
    let route = c.args.route.now in
    let i = c.loop-a.a-index in
    record {
      counts = λ flown are. times-all c.count_activity.new.times _ (flown ++ take (i + 1) route) (taken flown route i c.loop-a-test.true)
          (c.count_activity.ensures.counts (flown ++ take i route) (c.loop-a.invariant.counts flown are));
      long = c.count_activity.ensures.long ∙ c.loop-a.invariant.long;
    }

-- none is left
pub returns-clause-counts : goal.returns-clause-counts
returns-clause-counts c = λ flown are.
    let route = c.args.route.now in
    let i = c.loop-a.a-index in
    times-all c.loop-a.times (flown ++ take i route) (flown ++ route) (ap (λ r. flown ++ r) (take_all i route c.loop-a-test.false)) (c.loop-a.invariant.counts flown are)
