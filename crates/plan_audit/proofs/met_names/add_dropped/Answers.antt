use Rattle.plan_audit.proofs.MetLemmas.{tails-same, activities-same, no_tail, no_activity}
use Rattle.plan_audit.proofs.met_names.add_dropped.Goals as goal

-- no mark is set
pub returns-clause-met_names : goal.returns-clause-met_names
returns-clause-met_names c =
    let old = c.args.met_names.now in
    let adds = c.in_ok-push.ensures.items in
    record {
      tail_marks = tails-same old.tails.items old.met.items c.push.new.self.items c.args.met adds (no_tail c.args.met c.requires.dropped) c.requires.met_names.tail_marks;
      activity_marks = activities-same old.activities.items old.met.items c.push.new.self.items c.args.met adds (no_activity c.args.met c.requires.dropped) c.requires.met_names.activity_marks;
      each_aircraft = c.requires.met_names.each_aircraft;
      each_activity = c.requires.met_names.each_activity;
    }
