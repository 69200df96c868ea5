-- A search's certificate is accepted, whichever place came first: its tree is a grown tree, so its nodes are a shown proof tree; its
-- plan is that of its fliers, and its claim asks for what the bounds reach.
use Rattle.std.proofs.Common.{◌≡◌, ◌∙◌, ◌^◌, ◌<◌, ℕ, List, [], ◌∷◌, ◌++◌, length, Option, Some, refl, sym, ap, subst, arith, get_or}
use Rattle.std.proofs.lemmas.List.{length-map}
use Rattle.std.proofs.lemmas.List.Elements.{All-append, All-cons, All-map, All-nil, All-weaker}
use Rattle.std.proofs.lemmas.List.FromFn.{get_or-range_with_len, length-range_with_len}
use Rattle.std.specs.List.{range_with_len}
use Rattle.std.specs.Prelude.{All, option_map}
use Rattle.tail_book.specs.Lookup.{activities, aircraft}
use Rattle.tail_book.specs.Seen.{BookSeen}
use Rattle.tail_book.specs.TableSeen.{CostTableSeen}
use Rattle.tail_book.specs.Truth.{IsPlanOf, IsTrueOutcome, claim_of}
use Rattle.tail_book.specs.declared.outcome.Outcome.{Outcome}
use Rattle.tail_book.specs.declared.outcome.Outcome.TheVariants.{Optimal, Infeasible, Between, Above}
use Rattle.tail_book.specs.inside.Bounds.{LegalPlansCostAtMost}
use Rattle.tail_book.specs.CostTable.{costs_of}
use Rattle.tail_book.specs.Fliers.{flier, fliers_of}
use Rattle.tail_book.specs.inside.Fliers.{FliersFly, PlansOfTheirFliers}
use Rattle.tail_book.specs.inside.Sound.{IsBook}
use Rattle.branch_marks.specs.ProofTree.{Tree}
use Rattle.branch_marks.specs.declared.event.Event.{Event}
use Rattle.branch_tree.specs.GrownTree.{IsGrownTree}
use Rattle.branch_tree.specs.Laws.{GrownTreesAreBounded, SearchTreesAreGrown, ShownNodesAreTrees, claimed}
use Rattle.best_first.specs.BestTree.{closing_of, count_in}
use Rattle.best_first.specs.Laws.{BestTreesAreGrown}
use Rattle.node_leaves.specs.Node.{Node}
use Rattle.node_leaves.specs.NodeEvents.{events_of}
use Rattle.branch_tree.specs.declared.limit.Limit.{Limit}
use Rattle.cert_lines.specs.Grammar.{IsLine}
use Rattle.cert_lines.specs.declared.cert_line.CertLine.{CertLine}
use Rattle.cert_lines.specs.declared.cert_line.CertLine.TheVariants as line
use Rattle.branch_marks.specs.TreeEvents.{tree_events}
use Rattle.cert_lines.specs.declared.version.Version.{Version}
use Rattle.cert_lines.specs.PlanLines.{plan_lines}
use Rattle.cert_lines.specs.Text.{cert_text}
use Rattle.cert_lines.specs.Version.{number_of_version}
use Rattle.cert_checker.specs.Certificate.{Accepts, HasClaimedPlan, IsPlanOfFliers, asked_of, certificate_lines, claimed_cost, header_of}
use Rattle.cert_checker.specs.LeanTree.{BoundsIn, WholeTreesAreLean}
use Rattle.cert_writer.specs.EventLines.{event_lines}
use Rattle.cert_writer.specs.Trailer.{plan_in}
use Rattle.certified_search.specs.OrderedTree.{IsTreeIn}
use Rattle.certified_search.specs.SearchText.{search_lines, search_text}
use Rattle.certified_search.specs.declared.order.Order.{Order}
use Rattle.certified_search.specs.declared.order.Order.TheVariants.{DepthFirst, LeastBound}
use Rattle.certified_search.proofs.Spelled.{claim_good, header_good, plan_good}
use Rattle.certified_search.proofs.TreeSpelling.{told_in, told_lines, told_shows}

-- who flies each activity, where the outcome has a plan
abbrev fliers_in : BookSeen → Outcome → Option (List ℕ)
fliers_in book outcome = option_map (λ plan. fliers_of plan (activities book)) (plan_in outcome)

module _ (book : BookSeen) (sound : IsBook book) where
  module _ (fly : FliersFly) (again : PlansOfTheirFliers) (plan : List (List ℕ)) (cost : ℕ) (truth : IsPlanOf book cost plan) where
    fliers_of_book : All (λ k. k < aircraft book) (fliers_of plan (activities book))
    fliers_of_book = All-map (λ k. k < aircraft book) (flier plan) (range_with_len 0 (activities book)) (λ i d lt.
        let less : i < activities book = omega (arith, lt, length-range_with_len 0 (activities book)) in
        let at : get_or (range_with_len 0 (activities book)) i d ≡ i = omega (arith, get_or-range_with_len 0 (activities book) i d less) in
        subst (λ a. flier plan a < aircraft book) (sym at) (fly book plan truth.legal i less).0)

    one_for_each : length (fliers_of plan (activities book)) ≡ activities book
    one_for_each = length-map (range_with_len 0 (activities book)) (flier plan) ∙ length-range_with_len 0 (activities book)

    plan_of_fliers : IsPlanOfFliers book cost (fliers_of plan (activities book))
    plan_of_fliers = record {
      one_each = one_for_each;
      fleet = fliers_of_book;
      plan = subst (λ (flown : List (List ℕ)). IsPlanOf book cost flown) (sym (again book sound plan truth.legal)) truth;
    }

    plan_spelled : All IsLine (plan_lines (Some (fliers_of plan (activities book))))
    plan_spelled = plan_good (fliers_of plan (activities book)) (omega (arith, one_for_each, sound.few_activities))
        (All-weaker (λ k. k < aircraft book) (λ k. k < 2 ^ 32) (λ k less. omega (arith, less, sound.few_tails)) (fliers_of plan (activities book)) fliers_of_book)

  module _ (fly : FliersFly) (again : PlansOfTheirFliers) where
    has_plan : (outcome : Outcome) → IsTrueOutcome book outcome → HasClaimedPlan book (fliers_in book outcome) (claimed_cost (claim_of outcome))
    has_plan (Optimal plan cost) truth = plan_of_fliers fly again plan cost truth.plan
    has_plan Infeasible truth = tt
    has_plan (Between plan low high nodes) truth = plan_of_fliers fly again plan high truth.plan
    has_plan (Above low nodes) truth = tt

    plans_spelled : (outcome : Outcome) → IsTrueOutcome book outcome → All IsLine (plan_lines (fliers_in book outcome))
    plans_spelled (Optimal plan cost) truth = plan_spelled fly again plan cost truth.plan
    plans_spelled Infeasible truth = All-nil IsLine
    plans_spelled (Between plan low high nodes) truth = plan_spelled fly again plan high truth.plan
    plans_spelled (Above low nodes) truth = All-nil IsLine

-- what a claim asks of the bounds is what its outcome claims
asked_is_claimed : (book : BookSeen) (outcome : Outcome) → asked_of book (claim_of outcome) ≡ claimed (costs_of book) outcome
asked_is_claimed book (Optimal plan cost) = refl
asked_is_claimed book Infeasible = refl
asked_is_claimed book (Between plan low high nodes) = refl
asked_is_claimed book (Above low nodes) = refl

-- the lines of the search are those of the certificate of its tree
same_lines : (version : Version) (book : BookSeen) (told : List Event) (tree : Tree) (outcome : Outcome) → told ≡ tree_events tree
    → search_lines version book told outcome ≡ certificate_lines (number_of_version version) book (told_in version tree) (fliers_in book outcome) (claim_of outcome)
same_lines version book told tree outcome same =
    ap (λ (lines : List CertLine). header_of (number_of_version version) book ∷ (lines ++ (plan_lines (fliers_in book outcome) ++ line.Claim (claim_of outcome) ∷ [])))
    (ap (λ (events : List Event). event_lines version events) same ∙ told_lines version tree)

-- the nodes are those of some grown tree of this outcome
abbrev pub HasGrown : CostTableSeen → BookSeen → Limit → Outcome → List Node → Type 0
HasGrown table book limit outcome nodes = (count : ℕ) × (closing : List Node) × IsGrownTree table book limit outcome count closing nodes

-- so are those of a search in either order
pub grown_in : SearchTreesAreGrown → BestTreesAreGrown → (order : Order) (table : CostTableSeen) (book : BookSeen) (limit : Limit) (outcome : Outcome) (nodes : List Node)
    → IsTreeIn order table book limit outcome nodes → HasGrown table book limit outcome nodes
grown_in searched best DepthFirst table book limit outcome nodes (tree, is, same) = (
  length tree.counted,
  tree.closing,
  subst (λ (all : List Node). IsGrownTree table book limit outcome (length tree.counted) tree.closing all) (sym same) (searched table book limit outcome tree is),
)
grown_in searched best LeastBound table book limit outcome nodes (tree, is, same) = (
  count_in tree,
  closing_of tree,
  subst (λ (all : List Node). IsGrownTree table book limit outcome (count_in tree) (closing_of tree) all) (sym same) (best table book limit outcome tree is),
)

module _ (bounded : GrownTreesAreBounded) (trees : ShownNodesAreTrees) (lean : WholeTreesAreLean) (fly : FliersFly) (again : PlansOfTheirFliers) (most : LegalPlansCostAtMost) where
  pub accepted : (version : Version) (book : BookSeen) → IsBook book → (limit : Limit) (outcome : Outcome) (count : ℕ) (closing nodes : List Node)
      → IsGrownTree (costs_of book) book limit outcome count closing nodes → IsTrueOutcome book outcome → All IsLine (event_lines version (events_of nodes))
      → Accepts book (search_text version book (events_of nodes) outcome) (claim_of outcome)
  accepted version book sound limit outcome count closing nodes is truth spelled =
      let told = events_of nodes in
      let (proof, shown, reached, same) =
      trees (costs_of book) book (claimed (costs_of book) outcome) nodes (bounded (costs_of book) book limit outcome count closing nodes is) in
      let (in_version, reached_in) = told_shows lean book sound version proof (claimed (costs_of book) outcome) shown reached in
      let all : search_lines version book told outcome ≡ certificate_lines (number_of_version version) book (told_in version proof) (fliers_in book outcome) (claim_of outcome) =
      same_lines version book told proof outcome (sym same) in
      let good : All IsLine (search_lines version book told outcome) =
      All-cons IsLine (header_of (number_of_version version) book) (event_lines version told ++ (plan_lines (fliers_in book outcome) ++ line.Claim (claim_of outcome) ∷ [])) (header_good version book sound)
      (All-append IsLine (event_lines version told) (plan_lines (fliers_in book outcome) ++ line.Claim (claim_of outcome) ∷ []) spelled
      (All-append IsLine (plan_lines (fliers_in book outcome)) (line.Claim (claim_of outcome) ∷ []) (plans_spelled book sound fly again outcome truth)
      (All-cons IsLine (line.Claim (claim_of outcome)) [] (claim_good book sound most limit count closing is.final outcome is.answered truth) (All-nil IsLine)))) in (
        number_of_version version,
        told_in version proof,
        fliers_in book outcome,
        record {
          lines = subst (λ (every : List CertLine). All IsLine every) all good;
          spelled = ap (λ (every : List CertLine). cert_text every) all;
          shown = in_version;
          bounds = subst (λ (low : ℕ). BoundsIn book low [] (told_in version proof)) (sym (asked_is_claimed book outcome)) reached_in;
          plan = has_plan book sound fly again outcome truth;
        },
      )
