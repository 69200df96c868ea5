use Rattle.std.proofs.Common.{inl, inr}
use Rattle.std.proofs.lemmas.List.Elements.{All-push}
use Rattle.branch_marks.specs.declared.fact.Fact.{Fact}
use Rattle.branch_marks.specs.Branches.{first_branch, second_branch}
use Rattle.branch_marks.specs.Facts.{Holds}
use Rattle.quota_split.proofs.laws.branches_end.Goals as goal

pub returns : goal.returns
returns c table book quotas marks pair target one other plan kept hold = elim (c.one_branch_holds.ensures pair plan).0 [
  | inl first ↦ one plan kept (All-push (λ (fact : Fact). Holds fact plan) marks (first_branch pair) hold first)
  | inr second ↦ other plan kept (All-push (λ (fact : Fact). Holds fact plan) marks (second_branch pair) hold second)
]
