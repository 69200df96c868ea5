-- Facts that follow one after the other. Each is new, since each rule asks for what the fact itself would end. One fact
-- more at the end follows from the marks with all before it, by induction over these. And where the marks hold of a
-- legal plan all of them do: the first holds, so the marks with it hold, and so on along the list.
use Rattle.std.proofs.Common.{◌≡◌, ℕ, List, [], ◌∷◌, ◌++◌, refl, sym, subst, append_assoc}
use Rattle.std.proofs.lemmas.List.{append-nil}
use Rattle.std.proofs.lemmas.List.Elements.{All-contains, All-push}
use Rattle.std.specs.Prelude.{◌↔◌, Contains}
use Rattle.tail_book.specs.Seen.{BookSeen}
use Rattle.tail_book.specs.Plan.{IsLegalPlan}
use Rattle.tail_book.specs.inside.Sound.{IsBook}
use Rattle.branch_marks.specs.declared.fact.Fact.{Fact}
use Rattle.branch_marks.specs.declared.fact.Fact.TheVariants.{Bar, Must, Cut, Tie}
use Rattle.branch_marks.specs.Facts.{Holds, HoldAll}
use Rattle.branch_marks.specs.Marks.{LetsFly}
use Rattle.branch_marks.specs.Following.{Follows, FollowInTurn, FollowingFactsHold}

pub following_is_new : (book : BookSeen) (marks : List Fact) (fact : Fact) → Follows book marks fact → ¬ Contains marks fact
following_is_new book marks (Bar k a) f there = (All-contains (LetsFly k a) marks (Bar k a) f.alive.facts there) refl refl
following_is_new book marks (Must k a) f there = f.unnamed k f.of_book.0 there
following_is_new book marks (Cut a b) f there = f.new there
following_is_new book marks (Tie a b) f there = f

-- a front of a list, and what comes behind it, one element moved over
moved : (marks facts : List Fact) (fact : Fact) → (marks ++ fact ∷ []) ++ facts ≡ marks ++ fact ∷ facts
moved marks facts fact = append_assoc marks (fact ∷ []) facts

pub in_turn_one_more : (book : BookSeen) (marks facts : List Fact) (fact : Fact)
    → FollowInTurn book marks (facts ++ fact ∷ []) ↔ (FollowInTurn book marks facts × Follows book (marks ++ facts) fact)
in_turn_one_more book marks [] fact = (
  (λ h. (tt, subst (λ (ms : List Fact). Follows book ms fact) (sym (append-nil marks)) h.0)),
  (λ h. (subst (λ (ms : List Fact). Follows book ms fact) (append-nil marks) h.1, tt)),
)
in_turn_one_more book marks (first ∷ facts) fact =
    let later = in_turn_one_more book (marks ++ first ∷ []) facts fact in (
      (λ h. let (turn, last) = later.0 h.1 in ((h.0, turn), subst (λ (ms : List Fact). Follows book ms fact) (moved marks facts first) last)),
      (λ h. (h.0.0, later.1 (h.0.1, subst (λ (ms : List Fact). Follows book ms fact) (sym (moved marks facts first)) h.1))),
    )

pub followed_hold : FollowingFactsHold → (book : BookSeen) → IsBook book → (plan : List (List ℕ)) → IsLegalPlan book plan
    → (marks facts : List Fact) → FollowInTurn book marks facts → HoldAll marks plan → HoldAll (marks ++ facts) plan
followed_hold follow book sound plan legal marks [] turn hold = subst (λ (ms : List Fact). HoldAll ms plan) (sym (append-nil marks)) hold
followed_hold follow book sound plan legal marks (fact ∷ facts) turn hold =
    subst (λ (ms : List Fact). HoldAll ms plan) (moved marks facts fact)
    (followed_hold follow book sound plan legal (marks ++ fact ∷ []) facts turn.1
    (All-push (λ f. Holds f plan) marks fact hold (follow book sound marks fact turn.0 plan legal hold)))
