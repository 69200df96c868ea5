-- Facts that follow one after the other, joined: where some follow in turn from the marks, and others from the marks
-- with these, all together follow in turn. By induction on the first ones, each moved over to the marks.
use Rattle.std.proofs.Common.{◌∙◌, List, [], ◌∷◌, ◌++◌, refl, sym, ap, subst, append_assoc, append-nil}
use Rattle.tail_book.specs.Seen.{BookSeen}
use Rattle.branch_marks.specs.declared.fact.Fact.{Fact}
use Rattle.branch_marks.specs.Following.{Follows, FollowInTurn}
use Rattle.propagator.specs.InTurn.{WaitsForFloors, WaitInTurn, GrowInTurn}

module _ (book : BookSeen) where
  follow_both : (marks first second : List Fact) → FollowInTurn book marks first → FollowInTurn book (marks ++ first) second → FollowInTurn book marks (first ++ second)
  follow_both marks [] second f g = subst (λ (z : List Fact). FollowInTurn book z second) (append-nil marks) g
  follow_both marks (fact ∷ first) second f g =
      (f.0, follow_both (marks ++ fact ∷ []) first second f.1 (subst (λ (z : List Fact). FollowInTurn book z second) (sym (append_assoc marks (fact ∷ []) first)) g))

  wait_both : (marks first second : List Fact) → WaitInTurn book marks first → WaitInTurn book (marks ++ first) second → WaitInTurn book marks (first ++ second)
  wait_both marks [] second f g = subst (λ (z : List Fact). WaitInTurn book z second) (append-nil marks) g
  wait_both marks (fact ∷ first) second f g =
      (f.0, wait_both (marks ++ fact ∷ []) first second f.1 (subst (λ (z : List Fact). WaitInTurn book z second) (sym (append_assoc marks (fact ∷ []) first)) g))

  pub grow_none : (marks listed : List Fact) → GrowInTurn book marks marks listed listed
  grow_none marks listed = record { added = []; marks = sym (append-nil marks); list = sym (append-nil listed); follow = tt; wait = tt }

  pub grow_one : (marks listed : List Fact) (fact : Fact) → Follows book marks fact → WaitsForFloors book marks fact
      → GrowInTurn book marks (marks ++ fact ∷ []) listed (listed ++ fact ∷ [])
  grow_one marks listed fact f w = record { added = fact ∷ []; marks = refl; list = refl; follow = (f, tt); wait = (w, tt) }

  pub grow_both : (a b c l m n : List Fact) → GrowInTurn book a b l m → GrowInTurn book b c m n → GrowInTurn book a c l n
  grow_both a b c l m n g h = record {
    added = g.added ++ h.added;
    marks = h.marks ∙ ap (λ (z : List Fact). z ++ h.added) g.marks ∙ append_assoc a g.added h.added;
    list = h.list ∙ ap (λ (z : List Fact). z ++ h.added) g.list ∙ append_assoc l g.added h.added;
    follow = follow_both a g.added h.added g.follow (subst (λ (z : List Fact). FollowInTurn book z h.added) g.marks h.follow);
    wait = wait_both a g.added h.added g.wait (subst (λ (z : List Fact). WaitInTurn book z h.added) g.marks h.wait);
  }
