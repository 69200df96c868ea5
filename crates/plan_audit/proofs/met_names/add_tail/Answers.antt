use Rattle.std.proofs.Common.{◌≡◌, ◌∷◌, [], arith, refl, rules}
use Rattle.plan_audit.specs.declared.met.Met.TheVariants.{Tail}
use Rattle.plan_audit.specs.Met.{activities_met}
use Rattle.plan_audit.proofs.MetLemmas.{tails-more, activities-same}
use Rattle.plan_audit.proofs.met_names.add_tail.Goals as goal

-- its mark is set
pub returns-clause-met_names : goal.returns-clause-met_names
returns-clause-met_names c =
    let old = c.args.met_names.now in
    let adds = c.in_ok-push.ensures.items in
    let none : activities_met (Tail c.args.k ∷ []) ≡ [] = refl in
    record {
      tail_marks = tails-more old.tails.items c.mark.new.marks.items old.met.items c.push.new.self.items c.args.k adds c.mark.ensures (omega arith) c.requires.met_names.tail_marks;
      activity_marks = activities-same old.activities.items old.met.items c.push.new.self.items (Tail c.args.k) adds none c.requires.met_names.activity_marks;
      each_aircraft = search rules;
      each_activity = search rules;
    }
