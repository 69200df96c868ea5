-- The facts of a place: none comes twice, and all are of the book. A fact that follows is new and of the book, and so are both branches
-- of an undecided pair. So a list of such facts can be added to empty marks, one after the other.
use Rattle.std.proofs.Common.{◌≡◌, ◌<◌, ℕ, zero, suc, false, List, [], ◌∷◌, ◌++◌, length, take, get_or, sym, subst, arith, append_assoc, append-nil}
use Rattle.std.specs.Prelude.{All}
use Rattle.std.proofs.lemmas.Bool.{false_from_ne_true}
use Rattle.std.proofs.lemmas.List.Elements.{All-push}
use Rattle.tail_book.specs.Seen.{BookSeen}
use Rattle.branch_marks.specs.declared.fact.Fact.{Fact}
use Rattle.branch_marks.specs.Facts.{IsFactOf}
use Rattle.branch_marks.specs.FactTests.{has_fact}
use Rattle.branch_marks.specs.Following.{Follows, FollowInTurn, FollowingFactsAreNew, FollowingFactsAreOfBook}
use Rattle.branch_marks.specs.inside.FactTests.{HasFactDecides}
use Rattle.branch_marks.specs.inside.Once.{AreOnce, AreOnceBehind}

behind_more : (before facts : List Fact) (fact : Fact) → AreOnceBehind before facts → has_fact (before ++ facts) fact ≡ false
    → AreOnceBehind before (facts ++ fact ∷ [])
behind_more before [] fact once new = (subst (λ (m : List Fact). has_fact m fact ≡ false) (append-nil before) new, tt)
behind_more before (one ∷ facts) fact once new = (
  once.0,
  behind_more (before ++ one ∷ []) facts fact once.1 (subst (λ (m : List Fact). has_fact m fact ≡ false) (sym (append_assoc before (one ∷ []) facts)) new),
)

-- one new fact more
pub once_more : (facts : List Fact) (fact : Fact) → AreOnce facts → has_fact facts fact ≡ false → AreOnce (facts ++ fact ∷ [])
once_more facts fact once new = behind_more [] facts fact once new

once_behind : (before facts : List Fact) (d : Fact) (i : ℕ) → i < length facts → AreOnceBehind before facts → has_fact (before ++ take i facts) (get_or facts i d) ≡ false
once_behind before [] d i less once = absurd (omega (arith, less))
once_behind before (one ∷ facts) d zero less once = subst (λ (m : List Fact). has_fact m one ≡ false) (sym (append-nil before)) once.0
once_behind before (one ∷ facts) d (suc i) less once =
    subst (λ (m : List Fact). has_fact m (get_or facts i d) ≡ false) (append_assoc before (one ∷ []) (take i facts))
    (once_behind (before ++ one ∷ []) facts d i (omega (arith, less)) once.1)

-- each fact is new behind those before it
pub once_at : (facts : List Fact) (d : Fact) (i : ℕ) → i < length facts → AreOnce facts → has_fact (take i facts) (get_or facts i d) ≡ false
once_at facts d i less once = once_behind [] facts d i less once

module _ (has : HasFactDecides) (are_new : FollowingFactsAreNew) (are_of : FollowingFactsAreOfBook) (book : BookSeen) where
  is_new : (marks : List Fact) (fact : Fact) → Follows book marks fact → has_fact marks fact ≡ false
  is_new marks fact follows = false_from_ne_true (has_fact marks fact) (λ on. are_new book marks fact follows ((has marks fact).0 on))

  -- behind steps that follow in their turn
  pub once_steps : (marks steps : List Fact) → FollowInTurn book marks steps → AreOnce marks → AreOnce (marks ++ steps)
  once_steps marks [] follow once = subst AreOnce (sym (append-nil marks)) once
  once_steps marks (step ∷ steps) follow once =
      subst AreOnce (append_assoc marks (step ∷ []) steps)
      (once_steps (marks ++ step ∷ []) steps follow.1 (once_more marks step once (is_new marks step follow.0)))

  pub of_book_steps : (marks steps : List Fact) → FollowInTurn book marks steps → All (IsFactOf book) marks → All (IsFactOf book) (marks ++ steps)
  of_book_steps marks [] follow of_book = subst (λ (m : List Fact). All (IsFactOf book) m) (sym (append-nil marks)) of_book
  of_book_steps marks (step ∷ steps) follow of_book =
      subst (λ (m : List Fact). All (IsFactOf book) m) (append_assoc marks (step ∷ []) steps)
      (of_book_steps (marks ++ step ∷ []) steps follow.1 (All-push (IsFactOf book) marks step of_book (are_of book marks step follow.0)))
