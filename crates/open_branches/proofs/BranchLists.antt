-- A branch that is owed is kept as a length and a fact: its marks are so many of the facts of the node, and that fact.
-- Facts are only added behind, so a front stays what it was, and so do all branches that are owed. A split puts one
-- branch more on top, whose front is all facts so far; the branch that comes next cuts the facts to its front and adds
-- its own.
-- The facts of a branch are new, since its pair was undecided.
use Rattle.std.proofs.Common.{◌≡◌, ◌∙◌, ℕ, ◌≤◌, true, false, List, [], ◌∷◌, ◌++◌, ◌+◌, length, length-append, take, reverse, refl, sym, ap, subst, arith}
use Rattle.std.proofs.lemmas.Bool.{false_from_ne_true}
use Rattle.std.proofs.lemmas.List.{reverse-append, take-append-le}
use Rattle.std.proofs.Math.Seq.{take-append_seam}
use Rattle.std.proofs.lemmas.List.Elements.{All-contains}
use Rattle.tail_book.specs.Seen.{BookSeen}
use Rattle.branch_marks.specs.Branches.{first_branch, second_branch, UndecidedPairsAreOfBook}
use Rattle.branch_marks.specs.Facts.{IsFactOf}
use Rattle.branch_marks.specs.Marks.{LetsFly}
use Rattle.branch_marks.specs.declared.fact.Fact.{Fact}
use Rattle.branch_marks.specs.declared.fact.Fact.TheVariants.{Bar, Must, Cut, Tie}
use Rattle.branch_marks.specs.declared.fact.Pair.{Pair}
use Rattle.branch_marks.specs.declared.fact.Pair.TheVariants.{Fly, Link}
use Rattle.branch_marks.specs.Undecided.{is_undecided}
use Rattle.branch_marks.specs.inside.BranchTests.{UndecidedDecides}
use Rattle.branch_marks.specs.FactTests.{has_fact}
use Rattle.branch_marks.specs.inside.FactTests.{HasFactDecides}
use Rattle.open_branches.specs.declared.branches.Owed.{Owed}
use Rattle.open_branches.specs.Branches.{AreBehind, AreNewFacts, owed_behind}

-- a list is no shorter with more behind it
longer : (facts more : List Fact) (n : ℕ) → n ≤ length facts → n ≤ length (facts ++ more)
longer facts more n le = let long : length (facts ++ more) ≡ length facts + length more = length-append facts more in omega (arith, long, le)

module _ (book : BookSeen) where
  -- more facts at the end leave all that is owed as it is
  pub behind_more : (facts more : List Fact) (owed : List Owed) → AreBehind book facts owed → AreBehind book (facts ++ more) owed
  behind_more facts more [] behind = tt
  behind_more facts more (one ∷ owed) behind =
      let same = take-append-le one.count facts more behind.0 in (
        longer facts more one.count behind.0,
        behind.1,
        subst (λ (z : List Fact). has_fact z one.fact ≡ false) (sym same) behind.2,
        subst (λ (z : List Fact). AreBehind book z owed) (sym same) behind.3,
      )

  pub owed_more : (facts more : List Fact) (owed : List Owed) → AreBehind book facts owed → owed_behind (facts ++ more) owed ≡ owed_behind facts owed
  owed_more facts more [] behind = refl
  owed_more facts more (one ∷ owed) behind = ap (λ (z : List Fact). (z ++ one.fact ∷ []) ∷ owed_behind z owed) (take-append-le one.count facts more behind.0)

-- the first branch begins with all facts before it
pub front_is : (facts : List Fact) (fact : Fact) → take (length facts) (facts ++ fact ∷ []) ≡ facts
front_is facts fact = take-append_seam facts (fact ∷ [])

-- the branches of an undecided pair are new
pub new_branches : UndecidedDecides → HasFactDecides → UndecidedPairsAreOfBook → (book : BookSeen) (marks : List Fact) (pair : Pair)
    → is_undecided book marks pair ≡ true → AreNewFacts book marks (first_branch pair) (second_branch pair)
new_branches undecided has of_book book marks (Fly k a) open_pair =
    let is = (undecided book marks (Fly k a)).0 open_pair in
    let within = of_book book marks (Fly k a) is in
    record {
      first_of_book = within;
      second_of_book = within;
      first_new = false_from_ne_true (has_fact marks (Must k a)) (λ on. is.1 ((has marks (Must k a)).0 on));
      second_new = false_from_ne_true (has_fact marks (Bar k a)) (λ on. All-contains (LetsFly k a) marks (Bar k a) is.0.facts ((has marks (Bar k a)).0 on) refl refl);
    }
new_branches undecided has of_book book marks (Link a b) open_pair =
    let is = (undecided book marks (Link a b)).0 open_pair in
    let within = of_book book marks (Link a b) is in
    record {
      first_of_book = within;
      second_of_book = within;
      first_new = false_from_ne_true (has_fact marks (Tie a b)) (λ on. is.2 ((has marks (Tie a b)).0 on));
      second_new = false_from_ne_true (has_fact marks (Cut a b)) (λ on. is.1 ((has marks (Cut a b)).0 on));
    }

-- what was put last comes first in turn
pub reversed : (rest : List Owed) (owed : Owed) → reverse (rest ++ owed ∷ []) ≡ owed ∷ reverse rest
reversed rest owed = reverse-append rest (owed ∷ [])

module _ (book : BookSeen) (facts : List Fact) where
  -- the branch that comes next
  pub record IsNext (rest : List Owed) (owed : Owed) (items : List Owed) : Type 0 where
    pub within : owed.count ≤ length facts
    pub of_book : IsFactOf book owed.fact
    pub new : has_fact (take owed.count facts) owed.fact ≡ false
    pub behind : AreBehind book (take owed.count facts ++ owed.fact ∷ []) (reverse rest)
    pub owed_is : owed_behind facts (reverse items) ≡ (take owed.count facts ++ owed.fact ∷ []) ∷ owed_behind (take owed.count facts ++ owed.fact ∷ []) (reverse rest)

  pub next_is : (rest items : List Owed) (owed : Owed) → items ≡ rest ++ owed ∷ [] → AreBehind book facts (reverse items) → IsNext rest owed items
  next_is rest items owed is behind =
      let turned : reverse items ≡ owed ∷ reverse rest = ap reverse is ∙ reversed rest owed in
      let all : AreBehind book facts (owed ∷ reverse rest) = subst (λ (z : List Owed). AreBehind book facts z) turned behind in
      record {
        within = all.0;
        of_book = all.1;
        new = all.2;
        behind = behind_more book (take owed.count facts) (owed.fact ∷ []) (reverse rest) all.3;
        owed_is = ap (λ (z : List Owed). owed_behind facts z) turned
            ∙ ap (λ (z : List (List Fact)). (take owed.count facts ++ owed.fact ∷ []) ∷ z) (sym (owed_more book (take owed.count facts) (owed.fact ∷ []) (reverse rest) all.3));
      }

  -- a split puts one branch behind the other
  pub split_behind : (items : List Owed) (first : Fact) (owed : Owed) → owed.count ≡ length facts → IsFactOf book owed.fact → has_fact facts owed.fact ≡ false
      → AreBehind book facts (reverse items) → AreBehind book (facts ++ first ∷ []) (reverse (items ++ owed ∷ []))
  split_behind items first owed count of_book new behind =
      let front : take owed.count (facts ++ first ∷ []) ≡ facts = ap (λ (n : ℕ). take n (facts ++ first ∷ [])) count ∙ front_is facts first in
      let long = longer facts (first ∷ []) (length facts) (omega arith) in
      subst (λ (z : List Owed). AreBehind book (facts ++ first ∷ []) z) (sym (reversed items owed)) (
        omega (arith, count, long),
        of_book,
        subst (λ (z : List Fact). has_fact z owed.fact ≡ false) (sym front) new,
        subst (λ (z : List Fact). AreBehind book z (reverse items)) (sym front) behind,
      )
