-- Marks of which no fact comes twice hold of no plan that has fewer connections of a quota than they have Ties of it: each connection of
-- the plan is tied by one of them at most, and each Tie has one.
use Rattle.std.specs.Prelude.{cond, nat_eq, ◌&&◌, ◌||◌, Contains}
use Rattle.std.specs.List.{count_by}
use Rattle.std.proofs.Common.{◌≡◌, ◌≤◌, ℕ, ◌+◌, Bool, true, false, List, [], ◌∷◌, ◌++◌, inl, inr, refl, sym, subst, arith}
use Rattle.std.proofs.lemmas.Bool.{or_cases, or_left, or_right, and_parts, both_ways, cases_Bool}
use Rattle.std.proofs.lemmas.List.Elements.{All-head, All-tail, Contains-push, Contains-append_left}
use Rattle.std.proofs.lemmas.List.Sums.{sum_by-cons}
use Rattle.tail_book.specs.Seen.{BookSeen}
use Rattle.tail_book.specs.declared.place.Place.{Place}
use Rattle.tail_book.specs.declared.place.Place.TheVariants.{Carry, After}
use Rattle.branch_marks.specs.declared.fact.Fact.{Fact}
use Rattle.branch_marks.specs.declared.fact.Fact.TheVariants.{Bar, Must, Cut, Tie}
use Rattle.branch_marks.specs.Facts.{directly, joins, Holds, HoldAll}
use Rattle.branch_marks.specs.FactTests.{same_fact, has_fact}
use Rattle.branch_marks.specs.inside.FactTests.{HasFactDecides}
use Rattle.branch_marks.specs.inside.Once.{AreOnce, AreOnceBehind}
use Rattle.branch_marks.proofs.FactsDecided.{same_is}
use Rattle.quota_rows.specs.Belongs.{belongs}
use Rattle.quota_rows.specs.KeptPlans.{uses, uses_from}
use Rattle.quota_rows.specs.declared.quota.Quota.{Quota}
use Rattle.quota_split.specs.Ties.{is_tie_of, ties_of}

-- a test as a number
at_most_one : (test : Bool) → cond test 1 0 ≤ 1
at_most_one true = omega arith
at_most_one false = omega arith

is_none : (test : Bool) → test ≡ false → cond test 1 0 ≤ 0
is_none true h = absurd (both_ways true h refl)
is_none false h = omega arith

pub is_one : (test : Bool) → test ≡ true → 1 ≤ cond test 1 0
is_one true h = omega arith
is_one false h = absurd (both_ways false refl h)

-- a count of one fact more
pub one_more : (test : Fact → Bool) (fact : Fact) (facts : List Fact) → count_by test (fact ∷ facts) ≡ cond (test fact) 1 0 + count_by test facts
one_more test fact facts = sum_by-cons (λ (x : Fact). cond (test x) 1 0) fact facts

-- what passes one test passes one of two others: there are no more
either : (test one other : Fact → Bool) → ((fact : Fact) → cond (test fact) 1 0 ≤ cond (one fact) 1 0 + cond (other fact) 1 0) → (facts : List Fact)
    → count_by test facts ≤ count_by one facts + count_by other facts
either test one other each [] = omega arith
either test one other each (fact ∷ facts) =
    omega (arith, one_more test fact facts, one_more one fact facts, one_more other fact facts, each fact, either test one other each facts)

-- no fact that stands before all of them is among them
none : HasFactDecides → (tied : Fact) (before facts : List Fact) → AreOnceBehind before facts → Contains before tied
    → count_by (λ (fact : Fact). same_fact fact tied) facts ≡ 0
none decides tied before [] once there = refl
none decides tied before (fact ∷ facts) once there = elim (cases_Bool (same_fact fact tied)) [
  | inl same ↦ (let is = same_is fact tied same in
      absurd (both_ways (has_fact before fact) once.0 ((decides before fact).1 (subst (λ (z : Fact). Contains before z) (sym is) there))))
  | inr other ↦ (
      let rest = none decides tied (before ++ fact ∷ []) facts once.1 (Contains-append_left before (fact ∷ []) tied there) in
      let here = is_none (same_fact fact tied) other in
      omega (arith, one_more (λ (x : Fact). same_fact x tied) fact facts, rest, here))
]

-- where no fact comes twice, this one comes once at most
one : HasFactDecides → (tied : Fact) (before facts : List Fact) → AreOnceBehind before facts → count_by (λ (fact : Fact). same_fact fact tied) facts ≤ 1
one decides tied before [] once = omega arith
one decides tied before (fact ∷ facts) once = elim (cases_Bool (same_fact fact tied)) [
  | inl same ↦ (
      let is = same_is fact tied same in
      let rest = none decides tied (before ++ fact ∷ []) facts once.1 (subst (λ (z : Fact). Contains (before ++ fact ∷ []) z) is (Contains-push before fact)) in
      let here = at_most_one (same_fact fact tied) in
      omega (arith, one_more (λ (x : Fact). same_fact x tied) fact facts, rest, here))
  | inr other ↦ (
      let rest = one decides tied (before ++ fact ∷ []) facts once.1 in
      let here = is_none (same_fact fact tied) other in
      omega (arith, one_more (λ (x : Fact). same_fact x tied) fact facts, rest, here))
]

-- the fact ties a connection of the rest of a route, from a place on; of the routes of a plan
abbrev pub ties_from : Place → List ℕ → Fact → Bool
ties_from x [] fact = false
ties_from Carry (b ∷ rest) fact = ties_from (After b) rest fact
ties_from (After a) (b ∷ rest) fact = same_fact fact (Tie a b) || ties_from (After b) rest fact

abbrev pub ties_in : List (List ℕ) → Fact → Bool
ties_in [] fact = false
ties_in (route ∷ plan) fact = ties_from Carry route fact || ties_in plan fact

-- a test and one of two others
with_either : (test one other : Bool) → cond (test && (one || other)) 1 0 ≤ cond (test && one) 1 0 + cond (test && other) 1 0
with_either true true other = omega arith
with_either true false other = omega arith
with_either false one other = omega arith

fewer : (test one : Bool) → cond (test && one) 1 0 ≤ cond one 1 0
fewer true one = omega arith
fewer false true = omega arith
fewer false false = omega arith

never : (test : Fact → Bool) → ((fact : Fact) → test fact ≡ false) → (facts : List Fact) → count_by test facts ≡ 0
never test lacks [] = refl
never test lacks (fact ∷ facts) =
    let here = is_none (test fact) (lacks fact) in omega (arith, one_more test fact facts, here, never test lacks facts)

with_false : (test : Bool) → (test && false) ≡ false
with_false true = refl
with_false false = refl

module _ (decides : HasFactDecides) (book : BookSeen) (quota : Quota) (facts : List Fact) (once : AreOnce facts) where
  -- a Tie of the quota that also passes a test, and how many of the facts do
  abbrev tied : (Fact → Bool) → Fact → Bool
  tied test fact = is_tie_of book quota fact && test fact

  abbrev count : (Fact → Bool) → ℕ
  count test = count_by (tied test) facts

  -- what does not belong is no Tie of the quota
  elsewhere : (a b : ℕ) → belongs book quota a b ≡ false → (x : Fact) → (is_tie_of book quota x && same_fact x (Tie a b)) ≡ false
  elsewhere a b not x = elim (cases_Bool (same_fact x (Tie a b))) [
    | inl same ↦ rw (same_is x (Tie a b) same, not) refl
    | inr other ↦ rw (other) (with_false (is_tie_of book quota x))
  ]

  -- one connection is tied once at most, and not at all where it doesn't belong
  here : (a b : ℕ) → count (λ (fact : Fact). same_fact fact (Tie a b)) ≤ cond (belongs book quota a b) 1 0
  here a b = elim (cases_Bool (belongs book quota a b)) [
    | inl does ↦ (
        let most = either (λ (x : Fact). is_tie_of book quota x && same_fact x (Tie a b)) (λ (x : Fact). same_fact x (Tie a b)) (λ (x : Fact). false)
        (λ x. let le = fewer (is_tie_of book quota x) (same_fact x (Tie a b)) in omega (arith, le)) facts in
        let nothing = never (λ (x : Fact). false) (λ x. refl) facts in
        let single = one decides (Tie a b) [] facts once in
        let one_is = is_one (belongs book quota a b) does in
        omega (arith, most, nothing, single, one_is))
    | inr other ↦ (
        let nothing = never (λ (x : Fact). is_tie_of book quota x && same_fact x (Tie a b)) (λ x. elsewhere a b other x) facts in
        omega (arith, nothing))
  ]

  -- so no more Ties are of a route than it uses the quota
  of_rest : (x : Place) (route : List ℕ) → count (ties_from x route) ≤ uses_from book quota x route
  of_rest x [] = let nothing = never (tied (λ (f : Fact). false)) (λ f. with_false (is_tie_of book quota f)) facts in omega (arith, nothing)
  of_rest Carry (b ∷ rest) = let le = of_rest (After b) rest in omega (arith, le)
  of_rest (After a) (b ∷ rest) =
      let parts = either (tied (ties_from (After a) (b ∷ rest))) (tied (λ (f : Fact). same_fact f (Tie a b)))
      (tied (ties_from (After b) rest))
      (λ f. with_either (is_tie_of book quota f) (same_fact f (Tie a b)) (ties_from (After b) rest f)) facts in
      let first = here a b in
      let behind = of_rest (After b) rest in
      omega (arith, parts, first, behind)

  of_plan : (plan : List (List ℕ)) → count (ties_in plan) ≤ uses book quota plan
  of_plan [] = let nothing = never (tied (λ (f : Fact). false)) (λ f. with_false (is_tie_of book quota f)) facts in omega (arith, nothing)
  of_plan (route ∷ plan) =
      let parts = either (tied (ties_in (route ∷ plan))) (tied (ties_from Carry route))
      (tied (ties_in plan))
      (λ f. with_either (is_tie_of book quota f) (ties_from Carry route f) (ties_in plan f)) facts in
      let first = of_rest Carry route in
      let others = of_plan plan in
      omega (arith, parts, first, others)

-- what comes directly after what is tied from there on
from_there : (x : ℕ) (rest : List ℕ) (a b : ℕ) → directly (x ∷ rest) a b ≡ true → ties_from (After x) rest (Tie a b) ≡ true
from_there x [] a b h = elim (or_cases (nat_eq a x && false) false h) [
  | inl first ↦ absurd (both_ways false refl (and_parts (nat_eq a x) false first).1)
  | inr there ↦ absurd (both_ways false refl there)
]
from_there x (y ∷ rest) a b h = elim (or_cases (nat_eq a x && nat_eq b y) (directly (y ∷ rest) a b) h) [
  | inl first ↦ or_left (nat_eq a x && nat_eq b y) (ties_from (After y) rest (Tie a b)) first
  | inr there ↦ or_right (nat_eq a x && nat_eq b y) (ties_from (After y) rest (Tie a b)) (from_there y rest a b there)
]

from_carry : (route : List ℕ) (a b : ℕ) → directly route a b ≡ true → ties_from Carry route (Tie a b) ≡ true
from_carry [] a b h = absurd (both_ways false refl h)
from_carry (x ∷ rest) a b h = from_there x rest a b h

in_plan : (plan : List (List ℕ)) (a b : ℕ) → joins plan a b ≡ true → ties_in plan (Tie a b) ≡ true
in_plan [] a b h = absurd (both_ways false refl h)
in_plan (route ∷ plan) a b h = elim (or_cases (directly route a b) (joins plan a b) h) [
  | inl first ↦ or_left (ties_from Carry route (Tie a b)) (ties_in plan (Tie a b)) (from_carry route a b first)
  | inr there ↦ or_right (ties_from Carry route (Tie a b)) (ties_in plan (Tie a b)) (in_plan plan a b there)
]

-- each Tie of marks that hold of a plan is of one of its connections
same : (test : Bool) → cond test 1 0 ≤ cond (test && true) 1 0
same true = omega arith
same false = omega arith

held : (book : BookSeen) (quota : Quota) (plan : List (List ℕ)) (fact : Fact) → Holds fact plan
    → cond (is_tie_of book quota fact) 1 0 ≤ cond (is_tie_of book quota fact && ties_in plan fact) 1 0
held book quota plan (Bar k a) h = omega arith
held book quota plan (Must k a) h = omega arith
held book quota plan (Cut a b) h = omega arith
held book quota plan (Tie a b) h = rw (in_plan plan a b h) (same (belongs book quota a b))

all_held : (book : BookSeen) (quota : Quota) (plan : List (List ℕ)) (facts : List Fact) → HoldAll facts plan
    → count_by (is_tie_of book quota) facts ≤ count_by (λ (fact : Fact). is_tie_of book quota fact && ties_in plan fact) facts
all_held book quota plan [] h = omega arith
all_held book quota plan (fact ∷ facts) h =
    let first = All-head (λ (f : Fact). Holds f plan) fact facts h in
    let rest = All-tail (λ (f : Fact). Holds f plan) fact facts h in
    omega (
      arith,
      one_more (is_tie_of book quota) fact facts,
      one_more (λ (x : Fact). is_tie_of book quota x && ties_in plan x) fact facts,
      held book quota plan fact first,
      all_held book quota plan facts rest,
    )

-- so marks have no more Ties of the quota than the plan uses it
pub no_more_ties : HasFactDecides → (book : BookSeen) (quota : Quota) (facts : List Fact) → AreOnce facts → (plan : List (List ℕ)) → HoldAll facts plan
    → ties_of book quota facts ≤ uses book quota plan
no_more_ties decides book quota facts once plan h =
    let most = all_held book quota plan facts h in
    let few = of_plan decides book quota facts once plan in
    omega (arith, most, few)
