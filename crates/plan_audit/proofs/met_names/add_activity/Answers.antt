use Rattle.std.proofs.Common.{◌≡◌, ◌∷◌, [], arith, refl, rules}
use Rattle.plan_audit.specs.declared.met.Met.TheVariants.{Activity}
use Rattle.plan_audit.specs.Met.{tails_met}
use Rattle.plan_audit.proofs.MetLemmas.{activities-more, tails-same}
use Rattle.plan_audit.proofs.met_names.add_activity.Goals as goal

-- its mark is set
pub returns-clause-met_names : goal.returns-clause-met_names
returns-clause-met_names c =
    let old = c.args.met_names.now in
    let adds = c.in_ok-push.ensures.items in
    let none : tails_met (Activity c.args.a ∷ []) ≡ [] = refl in
    record {
      activity_marks = activities-more old.activities.items c.mark.new.marks.items old.met.items c.push.new.self.items c.args.a adds c.mark.ensures (omega arith) c.requires.met_names.activity_marks;
      tail_marks = tails-same old.tails.items old.met.items c.push.new.self.items (Activity c.args.a) adds none c.requires.met_names.tail_marks;
      each_aircraft = search rules;
      each_activity = search rules;
    }
