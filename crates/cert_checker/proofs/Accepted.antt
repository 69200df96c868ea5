-- What a certificate's tree bounds, and its plan costs, makes its claim true. The bound is asked of every legal plan.
-- An optimal cost and the cost of a best plan are those of the plan that the fliers make, which is legal. For a claim
-- that no plan is legal, a bound is asked that lies above what any legal plan costs, so there is none.
use Rattle.std.proofs.Common.{◌≡◌, ◌≤◌, ℕ, List, [], ◌∷◌, ◌++◌, Option, Some, None, length, arith, length-append, subst, append_assoc, get_or, refl}
use Rattle.std.specs.Prelude.{All}
use Rattle.tail_book.specs.Cost.{plan_cost}
use Rattle.tail_book.specs.Lookup.{aircraft}
use Rattle.tail_book.specs.Plan.{IsLegalPlan}
use Rattle.tail_book.specs.Seen.{BookSeen}
use Rattle.tail_book.specs.Truth.{SomePlanCostsBy, IsTrueClaim}
use Rattle.tail_book.specs.declared.claim.Claim.{Claim}
use Rattle.tail_book.specs.declared.claim.Claim.TheVariants.{Optimal, Infeasible, Limit}
use Rattle.tail_book.specs.CostTable.{costs_of, greatest_cost_in}
use Rattle.tail_book.specs.Fliers.{plan_by}
use Rattle.cert_lines.specs.declared.cert_line.CertLine.{CertLine}
use Rattle.cert_lines.specs.declared.cert_line.CertLine.TheVariants as line
use Rattle.cert_lines.specs.Grammar.{IsLine, IsLineClaim}
use Rattle.cert_lines.specs.PlanLines.{plan_lines}
use Rattle.cert_checker.specs.Certificate.{HasClaimedPlan, asked_of, certificate_lines, claimed_cost, header_of}
use Rattle.cert_checker.specs.LeanTree.{LeanTree, tree_lines}

at_end : {A : Type 0} (xs : List A) (x : A) → get_or (xs ++ x ∷ []) (length xs) x ≡ x
at_end [] x = refl
at_end (y ∷ xs) x = at_end xs x

last_of_all : {A : Type 0} (P : A → Type 0) (xs : List A) (x : A) → All P (xs ++ x ∷ []) → P x
last_of_all P xs x h = subst P (at_end xs x) (h (length xs) x (omega (arith, length-append xs (x ∷ []))))

-- the claim is a line
pub claim_is_line : (version : ℕ) (book : BookSeen) (tree : LeanTree) (fliers : Option (List ℕ)) (claim : Claim) → All IsLine (certificate_lines version book tree fliers claim) → IsLineClaim claim
claim_is_line version book tree fliers claim lines =
    let ends : certificate_lines version book tree fliers claim ≡ (header_of version book ∷ (tree_lines tree ++ plan_lines fliers)) ++ line.Claim claim ∷ [] =
    rw (append_assoc (tree_lines tree) (plan_lines fliers) (line.Claim claim ∷ [])) refl in
    last_of_all IsLine (header_of version book ∷ (tree_lines tree ++ plan_lines fliers)) (line.Claim claim) (subst (λ (all : List CertLine). All IsLine all) ends lines)

-- the claimed plan costs what is claimed
some_plan : (book : BookSeen) (fliers : Option (List ℕ)) (cost : ℕ) → HasClaimedPlan book fliers (Some cost) → SomePlanCostsBy (plan_cost book) book cost
some_plan book None cost has = absurd has
some_plan book (Some fliers) cost has = (plan_by fliers (aircraft book), has.plan)

module _ (book : BookSeen) (fliers : Option (List ℕ)) (most : (plan : List (List ℕ)) → IsLegalPlan book plan → plan_cost book plan ≤ greatest_cost_in (costs_of book)) where
  pub claim_true : (claim : Claim) → IsLineClaim claim → ((plan : List (List ℕ)) → IsLegalPlan book plan → asked_of book claim ≤ plan_cost book plan)
      → HasClaimedPlan book fliers (claimed_cost claim) → IsTrueClaim book claim
  claim_true (Optimal cost) is_line low has = (some_plan book fliers cost has, low)
  claim_true Infeasible is_line low has = λ plan legal. omega (arith, low plan legal, most plan legal)
  claim_true (Limit low None) is_line bound has = bound
  claim_true (Limit low (Some high)) is_line bound has = (is_line.1, some_plan book fliers high has, bound)
