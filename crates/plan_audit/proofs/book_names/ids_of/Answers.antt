use Rattle.std.proofs.Common.{◌≡◌, rules}
use Rattle.plan_audit.proofs.NameLemmas.{key-new}
use Rattle.plan_audit.proofs.book_names.ids_of.Goals as goal

-- the name is new
pub loop-activity-preserved : goal.loop-activity-preserved
loop-activity-preserved c =
    let name : c.activity.inside.id ≡ c.activity-item.result.id = search rules in
    key-new (λ x. x.id) c.args.activities.now c.loop-activity.activity-index c.activity-item.result c.activity.inside.id c.loop-activity.set.keys c.insert_full.new.self.keys
    c.loop-activity-test.true c.activity-item.is c.requires name c.loop-activity.invariant c.in_ok-insert_full.ensures.keys
