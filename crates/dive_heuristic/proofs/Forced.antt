-- Steps of a dive, joined; and the facts that follow from marks, in their turn, as forced steps. By induction on the
-- first steps: each adds its fact to the marks, so the marks after both lists are those that the second leads to from
-- where the first ended. A fact that follows is not among the marks yet, by a law, and that makes its step a forced
-- one.
use Rattle.std.proofs.Common.{◌≡◌, ◌∙◌, ℤ, List, [], ◌∷◌, ◌++◌, map, refl, sym, ap, subst, append_assoc, append-nil}
use Rattle.std.proofs.lemmas.List.{map-append}
use Rattle.tail_book.specs.Seen.{BookSeen}
use Rattle.tail_book.specs.TableSeen.{CostTableSeen}
use Rattle.branch_marks.specs.declared.fact.Fact.{Fact}
use Rattle.branch_marks.specs.Following.{FollowInTurn, FollowingFactsAreNew}
use Rattle.propagator.specs.InTurn.{WaitInTurn}
use Rattle.dive_heuristic.specs.declared.answer.DiveStep.{DiveStep}
use Rattle.dive_heuristic.specs.declared.answer.DiveStep.TheVariants.{Chosen, Forced}
use Rattle.dive_heuristic.specs.Dive.{AreSteps, StepsWait, fact_of, marks_after}
use Rattle.dive_heuristic.specs.inside.DiveSteps.{AreForced, AddsSteps}

-- the facts of forced steps
facts_of_forced : (facts : List Fact) → map fact_of (map Forced facts) ≡ facts
facts_of_forced [] = refl
facts_of_forced (fact ∷ facts) = ap (λ (rest : List Fact). fact ∷ rest) (facts_of_forced facts)

-- marks after two lists of steps
pub after_both : (marks : List Fact) (first second : List DiveStep) → marks_after (marks_after marks first) second ≡ marks_after marks (first ++ second)
after_both marks first second =
    append_assoc marks (map fact_of first) (map fact_of second)
    ∙ ap (λ (facts : List Fact). marks ++ facts) (sym (map-append fact_of first second))

-- and after a step and others
after_more : (marks : List Fact) (step : DiveStep) (steps : List DiveStep) → marks_after (marks ++ fact_of step ∷ []) steps ≡ marks_after marks (step ∷ steps)
after_more marks step steps = append_assoc marks (fact_of step ∷ []) (map fact_of steps)

module _ (table : CostTableSeen) (book : BookSeen) (duals : List ℤ) where
  steps_both : (marks : List Fact) (first second : List DiveStep) → AreSteps table book marks duals first
      → AreSteps table book (marks_after marks first) duals second → AreSteps table book marks duals (first ++ second)
  steps_both marks [] second one other = subst (λ (m : List Fact). AreSteps table book m duals second) (append-nil marks) other
  steps_both marks (Forced fact ∷ first) second one other = (
    one.0,
    steps_both (marks ++ fact ∷ []) first second one.1
        (subst (λ (m : List Fact). AreSteps table book m duals second) (sym (after_more marks (Forced fact) first)) other),
  )
  steps_both marks (Chosen fact ∷ first) second one other = (
    one.0,
    steps_both (marks ++ fact ∷ []) first second one.1
        (subst (λ (m : List Fact). AreSteps table book m duals second) (sym (after_more marks (Chosen fact) first)) other),
  )

  wait_both : (marks : List Fact) (first second : List DiveStep) → StepsWait book marks first
      → StepsWait book (marks_after marks first) second → StepsWait book marks (first ++ second)
  wait_both marks [] second one other = subst (λ (m : List Fact). StepsWait book m second) (append-nil marks) other
  wait_both marks (Forced fact ∷ first) second one other = (
    one.0,
    wait_both (marks ++ fact ∷ []) first second one.1
        (subst (λ (m : List Fact). StepsWait book m second) (sym (after_more marks (Forced fact) first)) other),
  )
  wait_both marks (Chosen fact ∷ first) second one other =
      wait_both (marks ++ fact ∷ []) first second one
      (subst (λ (m : List Fact). StepsWait book m second) (sym (after_more marks (Chosen fact) first)) other)

  forced_steps : FollowingFactsAreNew → (marks facts : List Fact) → FollowInTurn book marks facts → AreSteps table book marks duals (map Forced facts)
  forced_steps new marks [] follow = tt
  forced_steps new marks (fact ∷ facts) follow =
      (record { new = new book marks fact follow.0; follows = follow.0 }, forced_steps new (marks ++ fact ∷ []) facts follow.1)

  forced_wait : (marks facts : List Fact) → WaitInTurn book marks facts → StepsWait book marks (map Forced facts)
  forced_wait marks [] wait = tt
  forced_wait marks (fact ∷ facts) wait = (wait.0, forced_wait (marks ++ fact ∷ []) facts wait.1)

  pub go_forced : FollowingFactsAreNew → (old new : List Fact) (listed listing : List DiveStep) → AreForced book old new listed listing
      → AddsSteps table book duals old new listed listing
  go_forced fresh old new listed listing forced = record {
    added = map Forced forced.added;
    marks = forced.marks ∙ ap (λ (facts : List Fact). old ++ facts) (sym (facts_of_forced forced.added));
    list = forced.list;
    are = forced_steps fresh old forced.added forced.follow;
    wait = forced_wait old forced.added forced.wait;
  }

  pub go_none : (marks : List Fact) (listed : List DiveStep) → AddsSteps table book duals marks marks listed listed
  go_none marks listed = record { added = []; marks = sym (append-nil marks); list = sym (append-nil listed); are = tt; wait = tt }

  pub go_both : (a b c : List Fact) (l m n : List DiveStep) → AddsSteps table book duals a b l m → AddsSteps table book duals b c m n → AddsSteps table book duals a c l n
  go_both a b c l m n g h = record {
    added = g.added ++ h.added;
    marks = h.marks ∙ ap (λ (z : List Fact). marks_after z h.added) g.marks ∙ after_both a g.added h.added;
    list = h.list ∙ ap (λ (z : List DiveStep). z ++ h.added) g.list ∙ append_assoc l g.added h.added;
    are = steps_both a g.added h.added g.are (subst (λ (z : List Fact). AreSteps table book z duals h.added) g.marks h.are);
    wait = wait_both a g.added h.added g.wait (subst (λ (z : List Fact). StepsWait book z h.added) g.marks h.wait);
  }
