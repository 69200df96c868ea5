-- Whether marks have a fact is decided by its test. Two facts are the same where they are of one kind and both numbers
-- are equal, which is decided kind by kind; marks have a fact where the test of sameness holds for some fact of their
-- list.
use Rattle.std.proofs.Common.{◌≡◌, ℕ, true, false, List, refl, sym, get_or, subst}
use Rattle.std.proofs.lemmas.Bool.{eqb-true, eq-eqb, and_from, and_parts, both_ways}
use Rattle.std.proofs.lemmas.List.Folds.{Any-from_list_any, list_any-from_Any}
use Rattle.std.specs.Prelude.{nat_eq, ◌&&◌, Contains}
use Rattle.std.specs.Bool.{Decides}
use Rattle.branch_marks.specs.declared.fact.Fact.{Fact}
use Rattle.branch_marks.specs.declared.fact.Fact.TheVariants.{Bar, Must, Cut, Tie}
use Rattle.branch_marks.specs.FactTests.{same_fact, has_fact}

both_same : (k a j c : ℕ) (fact : ℕ → ℕ → Fact) → (nat_eq k j && nat_eq a c) ≡ true → fact k a ≡ fact j c
both_same k a j c fact h = let (first, second) = and_parts (nat_eq k j) (nat_eq a c) h in let e = eqb-true k j first in let d = eqb-true a c second in cc

other_kind : {X : Type 0} → false ≡ true → X
other_kind h = absurd (both_ways false refl h)

pub same_is : (fact other : Fact) → same_fact fact other ≡ true → fact ≡ other
same_is (Bar k a) (Bar j c) h = both_same k a j c Bar h
same_is (Bar k a) (Must j c) h = other_kind h
same_is (Bar k a) (Cut j c) h = other_kind h
same_is (Bar k a) (Tie j c) h = other_kind h
same_is (Must k a) (Bar j c) h = other_kind h
same_is (Must k a) (Must j c) h = both_same k a j c Must h
same_is (Must k a) (Cut j c) h = other_kind h
same_is (Must k a) (Tie j c) h = other_kind h
same_is (Cut k a) (Bar j c) h = other_kind h
same_is (Cut k a) (Must j c) h = other_kind h
same_is (Cut k a) (Cut j c) h = both_same k a j c Cut h
same_is (Cut k a) (Tie j c) h = other_kind h
same_is (Tie k a) (Bar j c) h = other_kind h
same_is (Tie k a) (Must j c) h = other_kind h
same_is (Tie k a) (Cut j c) h = other_kind h
same_is (Tie k a) (Tie j c) h = both_same k a j c Tie h

both_themselves : (k a : ℕ) → (nat_eq k k && nat_eq a a) ≡ true
both_themselves k a = and_from (nat_eq k k) (nat_eq a a) (eq-eqb k k refl) (eq-eqb a a refl)

same_itself : (fact : Fact) → same_fact fact fact ≡ true
same_itself (Bar k a) = both_themselves k a
same_itself (Must k a) = both_themselves k a
same_itself (Cut a b) = both_themselves a b
same_itself (Tie a b) = both_themselves a b

pub has_tested : (marks : List Fact) (fact : Fact) → Decides (has_fact marks fact) (Contains marks fact)
has_tested marks fact = (
  (λ h. let a = Any-from_list_any (same_fact fact) marks h in
      let e = same_is fact a.1 a.4 in (a.0, a.2, subst (λ (z : Fact). get_or marks a.0 z ≡ z) (sym e) a.3)),
  (λ m. list_any-from_Any (same_fact fact) marks (m.0, fact, m.1, m.2, same_itself fact)),
)
