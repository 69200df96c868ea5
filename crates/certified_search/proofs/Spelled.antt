-- Each line of a search's certificate is one that a certificate may have. Those of its events are: the log wrote them. The numbers of a
-- book are few, and its fliers are aircraft. The claim is left: the cost of a legal plan is limited, and a
-- bound that is left lies below the final target, so rounded up to whole costs it is at most the target.
use Rattle.std.proofs.Common.{◌+◌, ◌^◌, ◌<◌, ◌≤◌, inl, inr, ℕ, List, [], ◌∷◌, length, Some, refl, arith}
use Rattle.std.proofs.lemmas.List.Elements.{All-cons, All-head, All-nil, All-tail}
use Rattle.std.specs.Prelude.{All}
use Rattle.tail_book.specs.Seen.{BookSeen}
use Rattle.tail_book.specs.Truth.{IsTrueOutcome, claim_of}
use Rattle.tail_book.specs.declared.outcome.Outcome.{Outcome}
use Rattle.tail_book.specs.declared.outcome.Outcome.TheVariants.{Optimal, Infeasible, Between, Above}
use Rattle.tail_book.specs.inside.Bounds.{LegalPlansCostAtMost}
use Rattle.tail_book.specs.CostTable.{costs_of}
use Rattle.tail_book.specs.inside.Sound.{IsBook}
use Rattle.branch_tree.specs.Closing.{IsLeftAt, IsLowest}
use Rattle.node_leaves.specs.Node.{Ending, Hole, Stuck, Bounded, Split, Node}
use Rattle.branch_tree.specs.SearchTree.{IsOutcomeOf}
use Rattle.branch_tree.specs.declared.limit.Limit.{Limit}
use Rattle.cert_lines.specs.Grammar.{IsLine, IsLineClaim, IsVersion}
use Rattle.cert_lines.specs.declared.cert_line.CertLine.{CertLine}
use Rattle.cert_lines.specs.declared.cert_line.CertLine.TheVariants as line
use Rattle.cert_lines.specs.declared.version.Version.{Version}
use Rattle.cert_lines.specs.declared.version.Version.TheVariants.{Full, Lean}
use Rattle.cert_lines.specs.PlanLines.{fly_lines, plan_lines}
use Rattle.cert_lines.specs.Version.{number_of_version}
use Rattle.cert_checker.specs.Certificate.{header_of}

version_good : (version : Version) → IsVersion (number_of_version version)
version_good Full = inl refl
version_good Lean = inr refl

pub header_good : (version : Version) (book : BookSeen) → IsBook book → IsLine (header_of (number_of_version version) book)
header_good version book sound = (version_good version, omega (arith, sound.few_activities), omega (arith, sound.few_tails), omega (arith, sound.rules.few_counters))

flies_good : (a : ℕ) (fliers : List ℕ) → a + length fliers < 2 ^ 32 → All (λ k. k < 2 ^ 32) fliers → All IsLine (fly_lines a fliers)
flies_good a [] few small = All-nil IsLine
flies_good a (k ∷ fliers) few small =
    All-cons IsLine (line.Fly a k) (fly_lines (a + 1) fliers) (omega (arith, few), All-head (λ k. k < 2 ^ 32) k fliers small)
    (flies_good (a + 1) fliers (omega (arith, few)) (All-tail (λ k. k < 2 ^ 32) k fliers small))

pub plan_good : (fliers : List ℕ) → length fliers < 2 ^ 32 → All (λ k. k < 2 ^ 32) fliers → All IsLine (plan_lines (Some fliers))
plan_good fliers few small = All-cons IsLine line.Plan (fly_lines 0 fliers) tt (flies_good 0 fliers (omega (arith, few)) small)

-- a bound that is left lies below the final target, rounded up at most at it
left_below : (final low : ℕ) (ending : Ending) → IsLeftAt final ending low → low ≤ final
left_below final low (Hole a) left = absurd left
left_below final low (Stuck k family) left = absurd left
left_below final low (Bounded duals covers) left = omega (arith, left.0, left.1)
left_below final low (Split pair duals routes dive) left = absurd left

lowest_below : (final low : ℕ) (nodes : List Node) → IsLowest final nodes (Some low) → low ≤ final
lowest_below final low nodes lowest = left_below final low lowest.0.1.ending lowest.0.4

pub claim_good : (book : BookSeen) → IsBook book → LegalPlansCostAtMost → (limit : Limit) (count : ℕ) (closing : List Node) (final : ℕ) (outcome : Outcome)
    → IsOutcomeOf (costs_of book) book limit count closing final outcome → IsTrueOutcome book outcome → IsLineClaim (claim_of outcome)
claim_good book sound most limit count closing final (Optimal plan cost) is truth =
    omega (arith, most book sound plan truth.plan.legal, truth.plan.costs, sound.few_activities)
claim_good book sound most limit count closing final Infeasible is truth = tt
claim_good book sound most limit count closing final (Between plan low high nodes) is truth =
    (omega (arith, most book sound plan truth.plan.legal, truth.plan.costs, sound.few_activities), truth.claim.0)
claim_good book sound most limit count closing final (Above low nodes) is truth =
    omega (arith, lowest_below final low closing is.1, is.0, sound.few_activities)
