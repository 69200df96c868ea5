-- Which texts are accepted as certificates of a book, and for which claim. For src/claim.rt and src/laws.rt.
use Rattle.std.specs.Prelude.{◌≡◌, ℕ, ◌+◌, ◌<◌, ⊤, List, [], ◌∷◌, ◌++◌, length, All, Option, Some, None}
use Rattle.tail_book.specs.Seen.{BookSeen}
use Rattle.tail_book.specs.Lookup.{activities, aircraft}
use Rattle.tail_book.specs.Truth.{IsPlanOf, IsTrueClaim}
use Rattle.tail_book.specs.declared.claim.Claim.{Claim}
use Rattle.tail_book.specs.declared.claim.Claim.TheVariants.{Optimal, Infeasible, Limit}
use Rattle.tail_book.specs.CostTable.{costs_of, greatest_cost_in}
use Rattle.tail_book.specs.Fliers.{plan_by}
use Rattle.tail_book.specs.inside.Sound.{IsBook}
use Rattle.cert_lines.specs.declared.cert_line.CertLine.{CertLine}
use Rattle.cert_lines.specs.declared.cert_line.CertLine.TheVariants as line
use Rattle.cert_lines.specs.Grammar.{IsLine}
use Rattle.cert_lines.specs.PlanLines.{plan_lines}
use Rattle.cert_lines.specs.Text.{cert_text}
use Rattle.cert_checker.specs.LeanTree.{LeanTree, IsShownIn, BoundsIn, tree_lines}

-- the header of the book's certificates of a version
abbrev pub header_of : ℕ → BookSeen → CertLine
header_of version book = line.Header version (activities book) (aircraft book) (length book.rules.counters)

-- a certificate's lines: the header, one tree, a plan or none, and the claim
abbrev pub certificate_lines : ℕ → BookSeen → LeanTree → Option (List ℕ) → Claim → List CertLine
certificate_lines version book tree fliers claim = header_of version book ∷ (tree_lines tree ++ (plan_lines fliers ++ line.Claim claim ∷ []))

-- what every bound of the tree has to reach: the claimed cost, more than any legal plan costs, or the claimed bound
abbrev pub asked_of : BookSeen → Claim → ℕ
asked_of book (Optimal cost) = cost
asked_of book Infeasible = greatest_cost_in (costs_of book) + 1
asked_of book (Limit low high) = low

-- what the plan of a claim has to cost, where the claim has one
abbrev pub claimed_cost : Claim → Option ℕ
claimed_cost (Optimal cost) = Some cost
claimed_cost Infeasible = None
claimed_cost (Limit low high) = high

-- these aircraft of the book, one for each of its activities, give a legal plan of this cost
pub record IsPlanOfFliers (book : BookSeen) (cost : ℕ) (fliers : List ℕ) : Type 0 where
  pub one_each : length fliers ≡ activities book
  pub fleet : All (λ k. k < aircraft book) fliers
  pub plan : IsPlanOf book cost (plan_by fliers (aircraft book))

-- there is a plan exactly where the claim has one, and it is legal and costs what is claimed
abbrev pub HasClaimedPlan : BookSeen → Option (List ℕ) → Option ℕ → Type 0
HasClaimedPlan book None None = ⊤
HasClaimedPlan book (Some fliers) None = ⊥
HasClaimedPlan book None (Some cost) = ⊥
HasClaimedPlan book (Some fliers) (Some cost) = IsPlanOfFliers book cost fliers

-- the text is a certificate of the book for this claim, of a version: it spells the lines of a tree that is shown, whose bounds
-- reach what the claim asks, of the claimed plan, and of the claim
pub record IsCertificate (version : ℕ) (book : BookSeen) (tree : LeanTree) (fliers : Option (List ℕ)) (claim : Claim) (text : List ℕ) : Type 0 where
  pub lines : All IsLine (certificate_lines version book tree fliers claim)
  pub spelled : text ≡ cert_text (certificate_lines version book tree fliers claim)
  pub shown : IsShownIn version book [] tree
  pub bounds : BoundsIn book (asked_of book claim) [] tree
  pub plan : HasClaimedPlan book fliers (claimed_cost claim)

-- the text is accepted for this claim
abbrev pub Accepts : BookSeen → List ℕ → Claim → Type 0
Accepts book text claim = (version : ℕ) × (tree : LeanTree) × (fliers : Option (List ℕ)) × IsCertificate version book tree fliers claim text

-- what an accepted text claims is true of the book
abbrev pub AcceptedClaimsAreTrue : Type 0
AcceptedClaimsAreTrue = (book : BookSeen) → IsBook book → (text : List ℕ) (claim : Claim) → Accepts book text claim → IsTrueClaim book claim
