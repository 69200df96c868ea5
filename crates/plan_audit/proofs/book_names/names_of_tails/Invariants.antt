use Rattle.std.proofs.Common.{◌≡◌, map, take}
use Rattle.plan_audit.proofs.book_names.names_of_tails.Given as goal

-- the names so far
abbrev pub invariant-loop-tail : goal.invariant-loop-tail
invariant-loop-tail l = l.set.keys ≡ map (λ x. x.name) (take l.tail-index l.tails)
