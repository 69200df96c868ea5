-- Which lines a certificate may have, of version 1 or 2. For src/spelling.rt.
use Rattle.std.specs.Prelude.{ℕ, ◌≡◌, ◌⊎◌, ◌<◌, ◌^◌, ⊤, Option, Some, None}
use Rattle.tail_book.specs.declared.claim.Claim.{Claim}
use Rattle.tail_book.specs.declared.claim.Claim.TheVariants.{Optimal, Infeasible, Limit}
use Rattle.branch_marks.specs.Events.{IsLineNumber, IsNotable}
use Rattle.cert_lines.specs.declared.cert_line.CertLine.{CertLine}
use Rattle.cert_lines.specs.declared.cert_line.CertLine.TheVariants as line

-- a line spells the cost or the bound
abbrev pub IsLineCost : ℕ → Type 0
IsLineCost cost = cost < 2 ^ 64

-- a line spells the bound and the cost of the best plan, which is above it; or the bound alone
abbrev pub IsLineLimit : ℕ → Option ℕ → Type 0
IsLineLimit low None = IsLineCost low
IsLineLimit low (Some high) = IsLineCost high × (low < high)

-- a line spells the claim
abbrev pub IsLineClaim : Claim → Type 0
IsLineClaim (Optimal cost) = IsLineCost cost
IsLineClaim Infeasible = ⊤
IsLineClaim (Limit low high) = IsLineLimit low high

-- there are two versions; lean leaves stand in the second alone
abbrev pub IsVersion : ℕ → Type 0
IsVersion version = (version ≡ 1) ⊎ (version ≡ 2)

-- the header of a version, an event that a line spells, a lean leaf, the beginning of a plan, who flies an activity, or a claim
abbrev pub IsLine : CertLine → Type 0
IsLine (line.Header version n m c) = IsVersion version × IsLineNumber n × IsLineNumber m × IsLineNumber c
IsLine (line.Event event) = IsNotable event
IsLine line.Lean = ⊤
IsLine line.Plan = ⊤
IsLine (line.Fly a k) = IsLineNumber a × IsLineNumber k
IsLine (line.Claim claim) = IsLineClaim claim
