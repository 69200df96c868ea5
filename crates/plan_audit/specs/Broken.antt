-- The rules that a plan breaks, in their order, and what an audit tells of them.
use Rattle.std.specs.Prelude.{◌≡◌, ◌≢◌, List, [], ◌++◌, replicate, length, pos}
use Rattle.tail_book.specs.Seen.{BookSeen, RawPlanSeen}
use Rattle.tail_book.specs.Truth.{IsPlanOf}
use Rattle.plan_audit.specs.declared.broken.Broken.{Broken}
use Rattle.plan_audit.specs.declared.broken.Audit.{Audit}
use Rattle.plan_audit.specs.declared.broken.Audit.TheVariants as audit
use Rattle.plan_audit.specs.declared.met.Met.{Met}
use Rattle.plan_audit.specs.Met.{names_met}
use Rattle.plan_audit.specs.Kept.{kept, legs_met}
use Rattle.plan_audit.specs.Rules.{unknown, twice, uncovered, not_allowed, curfews, no_links, past_limits}

-- the broken rules of a plan whose names were met like this
abbrev pub broken_by : BookSeen → List Met → List Broken
broken_by book met =
    unknown met ++ twice met ++ uncovered book met ++ not_allowed book (legs_met met) ++ curfews book (legs_met met)
    ++ no_links book (legs_met met) ++ past_limits book (replicate (length book.rules.counters) (pos 0)) (legs_met met)

-- the broken rules of a plan: ordered by rule, then as they are read, and what no route has by number
abbrev pub broken : BookSeen → RawPlanSeen → List Broken
broken book raw = broken_by book (names_met book raw)

-- an audit tells the cost of the kept plan, which is then legal, exactly where no rule is broken, and else the broken rules
abbrev pub IsAuditOf : BookSeen → RawPlanSeen → Audit → Type 0
IsAuditOf book raw (audit.Legal cost) = (broken book raw ≡ []) × IsPlanOf book cost (kept book raw)
IsAuditOf book raw (audit.Broken list) = (broken book raw ≢ []) × (list.items ≡ broken book raw)
