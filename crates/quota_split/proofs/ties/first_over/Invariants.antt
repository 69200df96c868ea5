use Rattle.std.proofs.Common.{ℕ, ◌<◌}
use Rattle.quota_split.specs.Ties.{IsTiedOver, quota_at}
use Rattle.quota_split.proofs.ties.first_over.Given as goal

-- none of the quotas so far
abbrev pub invariant-loop-q : goal.invariant-loop-q
invariant-loop-q l = (r : ℕ) → r < l.q → ¬ IsTiedOver l.book l.marks.facts (quota_at l.quotas r)
