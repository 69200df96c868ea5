use Rattle.std.proofs.Common.{◌≡◌, map, take}
use Rattle.plan_audit.proofs.book_names.ids_of.Given as goal

-- the names so far
abbrev pub invariant-loop-activity : goal.invariant-loop-activity
invariant-loop-activity l = l.set.keys ≡ map (λ x. x.id) (take l.activity-index l.activities)
