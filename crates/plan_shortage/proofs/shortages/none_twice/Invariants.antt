use Rattle.std.proofs.Common.{◌≡◌, not, nat_eq, length}
use Rattle.tail_book.specs.Pairs.{each_pair}
use Rattle.plan_shortage.proofs.shortages.none_twice.Given as goal

-- what is left decides
abbrev pub invariant-loop-first : goal.invariant-loop-first
invariant-loop-first l = each_pair (λ a b. not (nat_eq a b)) l.list ≡ each_pair (λ a b. not (nat_eq a b)) l.rest

abbrev pub decreases-loop-first : goal.decreases-loop-first
decreases-loop-first l = length l.rest
