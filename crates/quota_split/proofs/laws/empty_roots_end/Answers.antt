use Rattle.std.proofs.Common.{arith}
use Rattle.branch_marks.specs.Facts.{Holds}
use Rattle.branch_marks.specs.declared.fact.Fact.{Fact}
use Rattle.std.proofs.lemmas.List.Elements.{All-nil}
use Rattle.quota_split.proofs.laws.empty_roots_end.Goals as goal

pub returns : goal.returns
returns c table book is sound for quotas target more closed plan kept =
    let low = closed plan kept (All-nil (λ (fact : Fact). Holds fact plan)) in
    let high = c.legal_plans_cost_at_most_in.ensures book table is sound for plan kept.legal in
    omega (arith, low, high, more)
