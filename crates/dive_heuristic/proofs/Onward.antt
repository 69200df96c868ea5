-- A choice and what follows from it, as steps of a dive; and the dive as a whole. The choice is a step where the dive
-- stands, and what follows is joined behind it. The chosen pair was undecided, and no fact makes a pair undecided: so
-- each choice leaves fewer, and a dive ends. Routes of least weight stay low under more marks, and routes that fit all
-- marks at the end fit the first ones, which are fewer.
use Rattle.std.proofs.Common.{◌≡◌, ◌∙◌, ℕ, ℤ, ◌<◌, ◌≤◌, arith, List, [], ◌∷◌, ◌++◌, sym, ap, subst}
use Rattle.tail_book.specs.Seen.{BookSeen}
use Rattle.tail_book.specs.TableSeen.{CostTableSeen}
use Rattle.tail_book.specs.Lookup.{aircraft}
use Rattle.tail_book.specs.Plan.{route_of, IsLegalPlan}
use Rattle.branch_marks.specs.declared.fact.Fact.{Fact}
use Rattle.branch_marks.specs.declared.fact.Fact.TheVariants.{Must}
use Rattle.branch_marks.specs.declared.fact.Pair.TheVariants.{Fly}
use Rattle.branch_marks.specs.Branches.{IsUndecided}
use Rattle.branch_marks.specs.Following.{IsShut, FollowingFactsAreNew}
use Rattle.branch_marks.specs.Marks.{Fits}
use Rattle.branch_marks.specs.inside.BranchTests.{undecided, BranchesLeaveFewer}
use Rattle.dive_heuristic.specs.declared.answer.DiveStep.{DiveStep}
use Rattle.dive_heuristic.specs.declared.answer.DiveStep.TheVariants.{Chosen}
use Rattle.dive_heuristic.specs.Choice.{IsChoice}
use Rattle.dive_heuristic.specs.LeastRoutes.{AreLeastRoutes, IsEachInOne}
use Rattle.dive_heuristic.specs.Dive.{AreSteps, StepsWait, DiveEnd, IsDiveEnd, IsDive, HasNoHole, marks_after}
use Rattle.dive_heuristic.specs.inside.DiveSteps.{AreForced, AddsSteps, StandsAt}
use Rattle.dive_heuristic.specs.declared.least_routes.FirstRoutes.{FirstRoutes}
use Rattle.dive_heuristic.specs.declared.least_routes.FirstRoutes.TheVariants as found
use Rattle.dive_heuristic.specs.inside.Kept.{FitsWithFewer, AreFirstRoutes, HasBegun}
use Rattle.dive_heuristic.specs.inside.Laws.{MoreFactsLeaveNoMore}
use Rattle.dive_heuristic.proofs.Forced.{go_forced, go_both}

module _ (table : CostTableSeen) (book : BookSeen) (duals : List ℤ) where
  pub go_chosen : (marks new : List Fact) (listed listing : List DiveStep) (routes : List (List ℕ)) (k a : ℕ) → StandsAt table book marks duals routes
      → IsChoice book marks routes k a → new ≡ marks ++ Must k a ∷ [] → listing ≡ listed ++ Chosen (Must k a) ∷ []
      → AddsSteps table book duals marks new listed listing
  go_chosen marks new listed listing routes k a stands choice grown noted = record {
    added = Chosen (Must k a) ∷ [];
    marks = grown;
    list = noted;
    are = ((stands.shut, (stands.somebody, (routes, stands.least, choice))), tt);
    wait = tt;
  }

  -- a choice, and all that follows from it
  pub go_choice : FollowingFactsAreNew → (old mid new : List Fact) (listed noted listing : List DiveStep) (routes : List (List ℕ)) (k a : ℕ)
      → StandsAt table book old duals routes → IsChoice book old routes k a → mid ≡ old ++ Must k a ∷ [] → noted ≡ listed ++ Chosen (Must k a) ∷ []
      → AreForced book mid new noted listing → AddsSteps table book duals old new listed listing
  go_choice fresh old mid new listed noted listing routes k a stands choice grown note forced =
      go_both table book duals old mid new listed noted listing
      (go_chosen old mid listed noted routes k a stands choice grown note)
      (go_forced table book duals fresh mid new noted listing forced)

  -- each choice leaves fewer undecided
  pub fewer_after : MoreFactsLeaveNoMore → BranchesLeaveFewer → (old mid new added : List Fact) (k a : ℕ) → mid ≡ old ++ Must k a ∷ []
      → new ≡ mid ++ added → IsUndecided book old (Fly k a) → undecided book new < undecided book old
  fewer_after no_more fewer old mid new added k a chosen forced free =
      let here : undecided book mid < undecided book old = subst (λ (m : List Fact). undecided book m < undecided book old) (sym chosen) (fewer book old (Fly k a) free).0 in
      let rest : undecided book new ≤ undecided book mid = subst (λ (m : List Fact). undecided book m ≤ undecided book mid) (sym forced) (no_more book mid added) in
      omega (arith, here, rest)

  -- steps from the first marks on, and an end that is true where they lead
  pub dive_of : (marks now : List Fact) (steps : List DiveStep) (end : DiveEnd) → AddsSteps table book duals marks now [] steps → IsShut book now
      → IsDiveEnd table book now duals end → IsDive table book marks duals steps end
  dive_of marks now steps end goes shut true_end =
      let same : now ≡ marks_after marks steps = goes.marks ∙ ap (λ (s : List DiveStep). marks_after marks s) (sym goes.list) in
      record {
        in_turn = subst (λ (s : List DiveStep). AreSteps table book marks duals s) (sym goes.list) goes.are;
        shut = subst (λ (m : List Fact). IsShut book m) same shut;
        ends = subst (λ (m : List Fact). IsDiveEnd table book m duals end) same true_end;
      }

  pub wait_of : (marks now : List Fact) (steps : List DiveStep) → AddsSteps table book duals marks now [] steps → StepsWait book marks steps
  wait_of marks now steps goes = subst (λ (s : List DiveStep). StepsWait book marks s) (sym goes.list) goes.wait

  -- routes of least weight that are a plan are a legal plan, and fit the first marks
  pub plan_of : (marks : List Fact) (routes : List (List ℕ)) → AreLeastRoutes table book marks duals routes → IsEachInOne book routes → IsLegalPlan book routes
  plan_of marks routes least once = record { one_each = least.one_each; routes = λ k hk. (least.each k hk).legal; partition = once }

  pub plan_fits : FitsWithFewer → (marks now : List Fact) (steps : List DiveStep) (routes : List (List ℕ)) → AddsSteps table book duals marks now [] steps
      → AreLeastRoutes table book now duals routes → (k : ℕ) → k < aircraft book → Fits book marks k (route_of routes k)
  plan_fits fewer marks now steps routes goes least k hk =
      fewer book marks _ k (route_of routes k) (subst (λ (m : List Fact). Fits book m k (route_of routes k)) goes.marks (least.each k hk).fits)

-- what is told of the first routes, with shut marks where nobody is missing
pub has_begun : (table : CostTableSeen) (book : BookSeen) (marks : List Fact) (duals : List ℤ) (first : FirstRoutes) → IsShut book marks → HasNoHole book marks
    → AreFirstRoutes table book marks duals first → HasBegun table book marks duals first
has_begun table book marks duals (found.Routes routes) shut somebody least = record { shut = shut; somebody = somebody; least = least }
has_begun table book marks duals (found.Dead end) shut somebody dead = dead
