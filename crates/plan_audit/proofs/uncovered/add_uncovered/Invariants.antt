use Rattle.std.proofs.Common.{◌≡◌, ◌++◌, map}
use Rattle.std.specs.List.{filter, range_with_len}
use Rattle.std.specs.Prelude.{not}
use Rattle.tail_book.specs.Numbers.{contains}
use Rattle.plan_audit.specs.declared.broken.Broken.TheVariants as rule
use Rattle.plan_audit.specs.Met.{activities_met}
use Rattle.plan_audit.proofs.uncovered.add_uncovered.Given as goal

-- of the activities before a, those that no route has
abbrev pub invariant-loop-a : goal.invariant-loop-a
invariant-loop-a l = l.list.items ≡ l.fn.list.items ++ map rule.Uncovered (filter (λ a. not (contains (activities_met l.met_names.met.items) a)) (range_with_len 0 l.a))
