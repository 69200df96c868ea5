-- Of the branches of a split exactly one holds; a further fact makes no pair undecided, and a branch decides its own.
use Rattle.std.proofs.Common.{ℕ, ◌⊎◌, List, [], ◌∷◌, ◌++◌, refl, arith, subst}
use Rattle.std.proofs.lemmas.Bool.{cases_Bool, both_ways}
use Rattle.std.proofs.lemmas.List.{length-append, get_or_append_left}
use Rattle.std.proofs.lemmas.List.Elements.{Contains-append_left, Contains-push, All-contains}
use Rattle.std.specs.Prelude.{All}
use Rattle.tail_book.specs.Seen.{BookSeen}
use Rattle.tail_book.specs.declared.place.Place.{Place}
use Rattle.tail_book.specs.declared.place.Place.TheVariants.{Carry, After}
use Rattle.branch_marks.specs.declared.fact.Fact.{Fact}
use Rattle.branch_marks.specs.declared.fact.Fact.TheVariants.{Bar, Must, Cut, Tie}
use Rattle.branch_marks.specs.declared.fact.Pair.{Pair}
use Rattle.branch_marks.specs.declared.fact.Pair.TheVariants.{Fly, Link}
use Rattle.branch_marks.specs.Facts.{flies, joins, Holds}
use Rattle.branch_marks.specs.Marks.{LetsFly, LetsGo, IsAlive, IsAliveAt, IsUsable}
use Rattle.branch_marks.specs.Branches.{first_branch, second_branch, IsPairOf, IsUndecided}

pub some_branch : (pair : Pair) (plan : List (List ℕ)) → Holds (first_branch pair) plan ⊎ Holds (second_branch pair) plan
some_branch (Fly k a) plan = cases_Bool (flies plan k a)
some_branch (Link a b) plan = cases_Bool (joins plan a b)

pub not_both_branches : (pair : Pair) (plan : List (List ℕ)) → Holds (first_branch pair) plan → ¬ Holds (second_branch pair) plan
not_both_branches (Fly k a) plan one other = both_ways (flies plan k a) other one
not_both_branches (Link a b) plan one other = both_ways (joins plan a b) other one

pub undecided_of_book : (book : BookSeen) (marks : List Fact) (pair : Pair) → IsUndecided book marks pair → IsPairOf book pair
undecided_of_book book marks (Fly k a) u = (u.0.allowed.aircraft, u.0.allowed.activity)
undecided_of_book book marks (Link a b) u = let (k, lt, usable) = u.0 in (usable.before.allowed.activity, usable.after.allowed.activity)

-- what holds of all facts and one more holds of all
all_but_last : {X : Type 0} (P : X → Type 0) (xs : List X) (x : X) → All P (xs ++ x ∷ []) → All P xs
all_but_last {X} P xs x all = λ i d lt.
    let e = length-append xs (x ∷ []) in
    subst (λ (z : X). P z) (get_or_append_left xs (x ∷ []) d i lt) (all i d (omega (arith, e, lt)))

module _ (book : BookSeen) (marks : List Fact) (fact : Fact) where
  alive_before : (k a : ℕ) → IsAlive book (marks ++ fact ∷ []) k a → IsAlive book marks k a
  alive_before k a h = record { allowed = h.allowed; facts = all_but_last (LetsFly k a) marks fact h.facts }

  alive_at_before : (k : ℕ) (x : Place) → IsAliveAt book (marks ++ fact ∷ []) k x → IsAliveAt book marks k x
  alive_at_before k Carry h = tt
  alive_at_before k (After x) h = alive_before k x h

  usable_before : (k : ℕ) (x : Place) (b : ℕ) → IsUsable book (marks ++ fact ∷ []) k x b → IsUsable book marks k x b
  usable_before k x b h = record {
    link = h.link;
    before = alive_at_before k x h.before;
    after = alive_before k b h.after;
    facts = all_but_last (LetsGo k x b) marks fact h.facts;
  }

  pub undecided_before : (pair : Pair) → IsUndecided book (marks ++ fact ∷ []) pair → IsUndecided book marks pair
  undecided_before (Fly k a) u = (alive_before k a u.0, (λ m. u.1 (Contains-append_left marks (fact ∷ []) (Must k a) m)))
  undecided_before (Link a b) u = (
    (let (k, lt, usable) = u.0 in (k, lt, usable_before k (After a) b usable)),
    (λ m. u.1 (Contains-append_left marks (fact ∷ []) (Cut a b) m)),
    (λ m. u.2 (Contains-append_left marks (fact ∷ []) (Tie a b) m)),
  )

pub first_decides : (book : BookSeen) (marks : List Fact) (pair : Pair) → ¬ IsUndecided book (marks ++ first_branch pair ∷ []) pair
first_decides book marks (Fly k a) u = u.1 (Contains-push marks (Must k a))
first_decides book marks (Link a b) u = u.2 (Contains-push marks (Tie a b))

pub second_decides : (book : BookSeen) (marks : List Fact) (pair : Pair) → ¬ IsUndecided book (marks ++ second_branch pair ∷ []) pair
second_decides book marks (Fly k a) u = (All-contains (LetsFly k a) (marks ++ Bar k a ∷ []) (Bar k a) u.0.facts (Contains-push marks (Bar k a))) refl refl
second_decides book marks (Link a b) u = u.1 (Contains-push marks (Cut a b))
