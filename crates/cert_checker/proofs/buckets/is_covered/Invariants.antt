use Rattle.std.proofs.Common.{◌<◌, ◌≤◌, ◌≡◌, length, drop}
use Rattle.std.specs.List.{list_any}
use Rattle.branch_marks.specs.FamilyTests.{covers, is_covered_by}
use Rattle.cert_checker.specs.inside.Buckets.{at_in}
use Rattle.cert_checker.proofs.buckets.is_covered.Given as goal

-- the labels from i on decide, and the next one is of no earlier activity
abbrev pub invariant-loop-i : goal.invariant-loop-i
invariant-loop-i l =
    (is_covered_by l.family (record { at = l.b; weight = l.weight; counters = l.counters })
    ≡ list_any (λ member. covers member (record { at = l.b; weight = l.weight; counters = l.counters })) (drop l.i l.family))
    × (l.i < length l.family → l.b ≤ at_in l.family l.i)
