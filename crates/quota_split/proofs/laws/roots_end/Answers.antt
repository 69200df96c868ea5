use Rattle.branch_marks.specs.Facts.{Holds}
use Rattle.branch_marks.specs.declared.fact.Fact.{Fact}
use Rattle.std.proofs.lemmas.List.Elements.{All-nil}
use Rattle.quota_split.proofs.laws.roots_end.Goals as goal

pub returns : goal.returns
returns c table book quotas target closed plan kept costs =
    record { kept = kept; costs = costs; least = λ other is. closed other is (All-nil (λ (fact : Fact). Holds fact other)) }
