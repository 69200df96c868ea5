-- What is chosen where routes of least weight leave room below the target: a pair to split on, a bound by the plan that they are, or
-- nothing. For src/choice.rt.
use Rattle.std.specs.Prelude.{ℕ, ℤ, ⊤, List}
use Rattle.tail_book.specs.Seen.{BookSeen}
use Rattle.branch_marks.specs.declared.fact.Fact.{Fact}
use Rattle.branch_marks.specs.Bound.{bound_of, Passes}
use Rattle.branch_marks.specs.Branches.{IsUndecided}
use Rattle.quota_node.specs.declared.choice.Chosen.{Chosen}
use Rattle.quota_node.specs.declared.choice.Chosen.TheVariants as chosen

-- what may be chosen: an undecided pair, where the sum still leaves room below the target; the bound, where it does not
abbrev pub IsTrueChoice : BookSeen → List Fact → ℤ → ℕ → Chosen → Type 0
IsTrueChoice book marks sum target (chosen.Pair pair) = IsUndecided book marks pair × (¬ Passes (bound_of sum) target)
IsTrueChoice book marks sum target chosen.Bounded = Passes (bound_of sum) target
IsTrueChoice book marks sum target chosen.Nothing = ⊤
