-- What a pair that was looked for comes to is true where the pair is undecided and the sum leaves room.
use Rattle.std.proofs.Common.{◌≡◌, ℕ, ℤ, List, Option, Some, None, subst, sym}
use Rattle.std.specs.Prelude.{IfNone, IfSome}
use Rattle.tail_book.specs.Seen.{BookSeen}
use Rattle.branch_marks.specs.declared.fact.Fact.{Fact}
use Rattle.branch_marks.specs.declared.fact.Pair.{Pair}
use Rattle.branch_marks.specs.Bound.{bound_of, Passes}
use Rattle.branch_marks.specs.Branches.{IsUndecided}
use Rattle.quota_node.specs.declared.choice.Chosen.{Chosen}
use Rattle.quota_node.specs.declared.choice.Chosen.TheVariants as chosen
use Rattle.quota_node.specs.inside.Chosen.{IsTrueChoice}

module _ (book : BookSeen) (marks : List Fact) (sum : ℤ) (target : ℕ) (below : ¬ Passes (bound_of sum) target) where
  pub true_choice : (pair : Option Pair) (answer : Chosen) → IfNone pair (answer ≡ chosen.Nothing) → IfSome pair (λ found. answer ≡ chosen.Pair found)
      → IfSome pair (IsUndecided book marks) → IsTrueChoice book marks sum target answer
  true_choice None answer none some undecided = subst (λ (a : Chosen). IsTrueChoice book marks sum target a) (sym none) tt
  true_choice (Some pair) answer none some undecided =
      subst (λ (a : Chosen). IsTrueChoice book marks sum target a) (sym some) (undecided, below)
