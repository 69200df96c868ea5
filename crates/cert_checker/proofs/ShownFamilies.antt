-- A shown family passes five tests. Labels that are of the book, in order and alive have passed three of them at their
-- lines, so what is left to ask is whether the family goes on from the carry-in and from each label.
use Rattle.std.specs.Prelude.{All, ◌==◌, ◌&&◌, nat_le}
use Rattle.std.specs.List.{list_all}
use Rattle.std.proofs.Common.{◌≡◌, ℕ, ℤ, pos, suc, ◌≤◌, Bool, true, false, List, [], ◌∷◌, length, get_or, refl, subst, arith}
use Rattle.std.proofs.lemmas.Bool.{and_from}
use Rattle.std.proofs.lemmas.Bool.Decides.{nat_tests}
use Rattle.std.proofs.lemmas.List.{get_or_default}
use Rattle.tail_book.specs.Seen.{BookSeen}
use Rattle.tail_book.specs.Lookup.{carry_of}
use Rattle.tail_book.specs.declared.place.Place.TheVariants.{Carry, After}
use Rattle.tail_book.specs.CostTable.{costs_of}
use Rattle.tail_book.specs.Pairs.{each_pair}
use Rattle.branch_marks.specs.declared.fact.Fact.{Fact}
use Rattle.branch_marks.specs.Labels.{Label}
use Rattle.branch_marks.specs.FamilyTests.{goes_on}
use Rattle.branch_marks.specs.MarkTests.{is_alive}
use Rattle.branch_marks.specs.TreeTests.{is_shown_family}
use Rattle.cert_checker.specs.inside.Buckets.{IsFamilyOf, IsInOrder, no_label}

-- what holds of each element is what a test of all answers
all_hold : (test : Label → Bool) (xs : List Label) → All (λ x. test x ≡ true) xs → list_all test xs ≡ true
all_hold test [] each = refl
all_hold test (x ∷ xs) each = and_from (test x) (list_all test xs) (each 0 x (omega arith)) (all_hold test xs (λ i d lt. each (suc i) d (omega (arith, lt))))

le_true : (m n : ℕ) → m ≤ n → nat_le m n ≡ true
le_true m n le = grind (arith, nat_tests)

same_true : (m n : ℕ) → m ≡ n → (m == n) ≡ true
same_true m n e = grind (arith, nat_tests)

in_pairs : (family : List Label) → IsInOrder family → each_pair (λ label other. nat_le label.at other.at) family ≡ true
in_pairs [] order = refl
in_pairs (x ∷ xs) order =
    and_from (list_all (λ other. nat_le x.at other.at) xs) (each_pair (λ label other. nat_le label.at other.at) xs)
    (all_hold (λ other. nat_le x.at other.at) xs (λ i d lt.
    le_true x.at (get_or xs i d).at (subst (λ (z : Label). x.at ≤ z.at) (get_or_default xs i no_label d lt) (order 0 (suc i) (omega arith) (omega (arith, lt))))))
    (in_pairs xs (λ i j le lt. order (suc i) (suc j) (omega (arith, le)) (omega (arith, lt))))

three : (a o n b d : Bool) → a ≡ true → o ≡ true → n ≡ true → (b && d) ≡ ((a && (b && d)) && (o && n))
three true true true true true ea eo en = refl
three true true true true false ea eo en = refl
three true true true false d ea eo en = refl
three false o n b d ea eo en = absurd (cc ea)
three true false n b d ea eo en = absurd (cc eo)
three true true false b d ea eo en = absurd (cc en)

pub closed_is : (book : BookSeen) (marks : List Fact) (k : ℕ) (duals : List ℤ) (family : List Label) → IsFamilyOf book marks k family
    → (goes_on (costs_of book) book marks k duals family Carry (pos 0) (carry_of book k)
    && list_all (λ label. goes_on (costs_of book) book marks k duals family (After label.at) label.weight label.counters) family)
    ≡ is_shown_family (costs_of book) book marks k duals family
closed_is book marks k duals family is =
    three (list_all (λ member. is_alive book marks k member.at) family)
    (each_pair (λ label other. nat_le label.at other.at) family) (list_all (λ label. length label.counters == length book.rules.counters) family)
    (goes_on (costs_of book) book marks k duals family Carry (pos 0) (carry_of book k))
    (list_all (λ label. goes_on (costs_of book) book marks k duals family (After label.at) label.weight label.counters) family)
    (all_hold (λ member. is_alive book marks k member.at) family is.alive)
    (in_pairs family is.order)
    (all_hold (λ label. length label.counters == length book.rules.counters) family
    (λ i d lt. same_true (length (get_or family i d).counters) (length book.rules.counters) (is.each i d lt).count))
