-- One fact more that is new to facts of which none comes twice: still none does.
use Rattle.std.specs.Prelude.{Contains}
use Rattle.std.proofs.Common.{◌≡◌, false, List, [], ◌∷◌, ◌++◌, refl, sym, subst, append_assoc, append-nil}
use Rattle.std.proofs.lemmas.Bool.{false_from_ne_true}
use Rattle.std.proofs.lemmas.List.Elements.{All-contains}
use Rattle.tail_book.specs.Seen.{BookSeen}
use Rattle.branch_marks.specs.declared.fact.Fact.{Fact}
use Rattle.branch_marks.specs.declared.fact.Fact.TheVariants.{Bar, Must, Cut, Tie}
use Rattle.branch_marks.specs.declared.fact.Pair.{Pair}
use Rattle.branch_marks.specs.declared.fact.Pair.TheVariants.{Fly, Link}
use Rattle.branch_marks.specs.Branches.{IsUndecided, first_branch, second_branch}
use Rattle.branch_marks.specs.FactTests.{has_fact}
use Rattle.branch_marks.specs.Following.{FollowInTurn, FollowingFactsAreNew}
use Rattle.branch_marks.specs.Marks.{LetsFly}
use Rattle.branch_marks.specs.inside.FactTests.{HasFactDecides}
use Rattle.branch_marks.specs.inside.Once.{AreOnce, AreOnceBehind}

one_more : (before facts : List Fact) (fact : Fact) → AreOnceBehind before facts → has_fact (before ++ facts) fact ≡ false
    → AreOnceBehind before (facts ++ fact ∷ [])
one_more before [] fact once new = (subst (λ (l : List Fact). has_fact l fact ≡ false) (append-nil before) new, tt)
one_more before (first ∷ facts) fact once new = (
  once.0,
  one_more (before ++ first ∷ []) facts fact once.1
      (subst (λ (l : List Fact). has_fact l fact ≡ false) (sym (append_assoc before (first ∷ []) facts)) new),
)

module _ (decides : HasFactDecides) where
  with_new : (marks : List Fact) (fact : Fact) → AreOnce marks → ¬ Contains marks fact → AreOnce (marks ++ fact ∷ [])
  with_new marks fact once new = one_more [] marks fact once (false_from_ne_true (has_fact marks fact) (λ h. new ((decides marks fact).0 h)))

  pub steps_stay : FollowingFactsAreNew → (book : BookSeen) (marks steps : List Fact) → AreOnce marks → FollowInTurn book marks steps
      → AreOnce (marks ++ steps)
  steps_stay are_new book marks [] once follow = subst AreOnce (sym (append-nil marks)) once
  steps_stay are_new book marks (step ∷ steps) once follow =
      subst AreOnce (append_assoc marks (step ∷ []) steps)
      (steps_stay are_new book (marks ++ step ∷ []) steps (with_new marks step once (are_new book marks step follow.0)) follow.1)

  pub branches_stay : (book : BookSeen) (marks : List Fact) (pair : Pair) → AreOnce marks → IsUndecided book marks pair
      → AreOnce (marks ++ first_branch pair ∷ []) × AreOnce (marks ++ second_branch pair ∷ [])
  branches_stay book marks (Fly k a) once free = (
    with_new marks (Must k a) once free.1,
    with_new marks (Bar k a) once (λ barred. All-contains (LetsFly k a) marks (Bar k a) free.0.facts barred refl refl),
  )
  branches_stay book marks (Link a b) once free = (with_new marks (Tie a b) once free.2, with_new marks (Cut a b) once free.1)
