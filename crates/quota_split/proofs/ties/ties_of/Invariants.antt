use Rattle.std.proofs.Common.{◌≡◌, ◌≤◌, take}
use Rattle.std.specs.List.{count_by}
use Rattle.quota_split.specs.Ties.{is_tie_of}
use Rattle.quota_split.proofs.ties.ties_of.Given as goal

-- what is counted so far
abbrev pub invariant-loop-i : goal.invariant-loop-i
invariant-loop-i l = record {
  counts : l.count ≡ count_by (is_tie_of l.book l.quota) (take l.i l.marks.facts);
  few : l.count ≤ l.i;
}
