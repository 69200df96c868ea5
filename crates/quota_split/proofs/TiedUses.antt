-- A plan of which each connection that belongs to a quota has a Tie uses the quota no more often than Ties belong to it: its connections
-- differ, since it flies each activity once, and each is one of the Ties.
use Rattle.std.specs.Prelude.{cond, nat_eq, ◌&&◌, ◌||◌, Contains}
use Rattle.std.specs.List.{count_by}
use Rattle.std.specs.Cmp.Derive.{both_true}
use Rattle.std.proofs.Common.{◌≡◌, ◌≤◌, ◌<◌, ℕ, zero, suc, ◌+◌, Bool, true, false, List, [], ◌∷◌, length, inl, inr, refl, subst, arith}
use Rattle.std.proofs.lemmas.Bool.{or_cases, or_left, or_right, and_parts, both_ways, cases_Bool, eq-eqb}
use Rattle.std.proofs.lemmas.List.Elements.{All-nil, All-cons, All-contains, All-weaker}
use Rattle.std.specs.Prelude.{All}
use Rattle.tail_book.specs.Seen.{BookSeen}
use Rattle.tail_book.specs.Lookup.{activities, aircraft}
use Rattle.tail_book.specs.Numbers.{contains}
use Rattle.tail_book.specs.Plan.{route_of}
use Rattle.tail_book.specs.declared.place.Place.{Place}
use Rattle.tail_book.specs.declared.place.Place.TheVariants.{Carry, After}
use Rattle.tail_book.specs.inside.Rising.{IsRisingFrom}
use Rattle.branch_marks.specs.declared.fact.Fact.{Fact}
use Rattle.branch_marks.specs.declared.fact.Fact.TheVariants.{Bar, Must, Cut, Tie}
use Rattle.branch_marks.specs.Facts.{directly, joins}
use Rattle.branch_marks.specs.FactTests.{same_fact}
use Rattle.branch_marks.proofs.FactsDecided.{same_is}
use Rattle.branch_marks.proofs.Neighbours.{rising_contains}
use Rattle.quota_rows.specs.Belongs.{belongs}
use Rattle.quota_rows.specs.KeptPlans.{uses, uses_from}
use Rattle.quota_rows.specs.declared.quota.Quota.{Quota}
use Rattle.quota_split.specs.Ties.{is_tie_of, ties_of}
use Rattle.quota_split.proofs.TieCounts.{is_one, one_more, ties_from, ties_in}

-- a fact that passes a test counts
counted : (test : Fact → Bool) (facts : List Fact) → All (λ (f : Fact). test f ≡ true → 1 ≤ count_by test facts) facts
counted test [] = All-nil (λ (f : Fact). test f ≡ true → 1 ≤ count_by test [])
counted test (fact ∷ facts) =
    All-cons (λ (f : Fact). test f ≡ true → 1 ≤ count_by test (fact ∷ facts)) fact facts
    (λ h. let here = is_one (test fact) h in omega (arith, here, one_more test fact facts))
    (All-weaker (λ (f : Fact). test f ≡ true → 1 ≤ count_by test facts) (λ (f : Fact). test f ≡ true → 1 ≤ count_by test (fact ∷ facts))
    (λ f p h. let le = p h in omega (arith, le, one_more test fact facts)) facts (counted test facts))

-- two tests that no fact passes both of: a third that passes where one of them does counts as many
both : (test one other : Fact → Bool) → ((fact : Fact) → cond (one fact) 1 0 + cond (other fact) 1 0 ≤ cond (test fact) 1 0) → (facts : List Fact)
    → count_by one facts + count_by other facts ≤ count_by test facts
both test one other each [] = omega arith
both test one other each (fact ∷ facts) =
    omega (arith, one_more test fact facts, one_more one fact facts, one_more other fact facts, each fact, both test one other each facts)

apart : (test one other : Bool) → (one ≡ true → other ≡ true → ⊥) → cond (test && one) 1 0 + cond (test && other) 1 0 ≤ cond (test && (one || other)) 1 0
apart test true true not = absurd (not refl refl)
apart true true false not = omega arith
apart true false true not = omega arith
apart true false false not = omega arith
apart false true false not = omega arith
apart false false true not = omega arith
apart false false false not = omega arith

-- what is tied along a route is a connection of it
there_from : (x : ℕ) (rest : List ℕ) (a b : ℕ) → ties_from (After x) rest (Tie a b) ≡ true → directly (x ∷ rest) a b ≡ true
there_from x [] a b h = absurd (both_ways false refl h)
there_from x (y ∷ rest) a b h = elim (or_cases (nat_eq a x && nat_eq b y) (ties_from (After y) rest (Tie a b)) h) [
  | inl first ↦ or_left (nat_eq a x && nat_eq b y) (directly (y ∷ rest) a b) first
  | inr there ↦ or_right (nat_eq a x && nat_eq b y) (directly (y ∷ rest) a b) (there_from y rest a b there)
]

carry_from : (route : List ℕ) (a b : ℕ) → ties_from Carry route (Tie a b) ≡ true → directly route a b ≡ true
carry_from [] a b h = absurd (both_ways false refl h)
carry_from (x ∷ rest) a b h = there_from x rest a b h

joined : (plan : List (List ℕ)) (a b : ℕ) → ties_in plan (Tie a b) ≡ true → joins plan a b ≡ true
joined [] a b h = absurd (both_ways false refl h)
joined (route ∷ plan) a b h = elim (or_cases (ties_from Carry route (Tie a b)) (ties_in plan (Tie a b)) h) [
  | inl first ↦ or_left (directly route a b) (joins plan a b) (carry_from route a b first)
  | inr there ↦ or_right (directly route a b) (joins plan a b) (joined plan a b there)
]

-- and its second activity is flown there
second_in : (x : Place) (route : List ℕ) (a b : ℕ) → ties_from x route (Tie a b) ≡ true → contains route b ≡ true
second_in x [] a b h = absurd (both_ways false refl h)
second_in Carry (y ∷ rest) a b h = or_right (nat_eq b y) (contains rest b) (second_in (After y) rest a b h)
second_in (After x) (y ∷ rest) a b h = elim (or_cases (nat_eq a x && nat_eq b y) (ties_from (After y) rest (Tie a b)) h) [
  | inl first ↦ or_left (nat_eq b y) (contains rest b) (and_parts (nat_eq a x) (nat_eq b y) first).1
  | inr there ↦ or_right (nat_eq b y) (contains rest b) (second_in (After y) rest a b there)
]

second_somewhere : (plan : List (List ℕ)) (a b : ℕ) → ties_in plan (Tie a b) ≡ true → (k : ℕ) × (contains (route_of plan k) b ≡ true)
second_somewhere [] a b h = absurd (both_ways false refl h)
second_somewhere (route ∷ plan) a b h = elim (or_cases (ties_from Carry route (Tie a b)) (ties_in plan (Tie a b)) h) [
  | inl first ↦ (0, second_in Carry route a b first)
  | inr there ↦ (let (k, has) = second_somewhere plan a b there in (suc k, has))
]

module _ (book : BookSeen) (quota : Quota) (marks : List Fact) where
  abbrev tied : (Fact → Bool) → Fact → Bool
  tied test fact = is_tie_of book quota fact && test fact

  abbrev count : (Fact → Bool) → ℕ
  count test = count_by (tied test) marks

  here : (a b : ℕ) → (belongs book quota a b ≡ true → Contains marks (Tie a b))
      → cond (belongs book quota a b) 1 0 ≤ count (λ (f : Fact). same_fact f (Tie a b))
  here a b has = elim (cases_Bool (belongs book quota a b)) [
    | inl does ↦ (
        let one : 1 ≤ count (λ (f : Fact). same_fact f (Tie a b)) =
        All-contains (λ (f : Fact). tied (λ (g : Fact). same_fact g (Tie a b)) f ≡ true → 1 ≤ count (λ (g : Fact). same_fact g (Tie a b)))
        marks (Tie a b) (counted (tied (λ (g : Fact). same_fact g (Tie a b))) marks) (has does)
        (both_true does (both_true (eq-eqb a a refl) (eq-eqb b b refl))) in
        rw does one)
    | inr not ↦ rw not (omega arith)
  ]

  -- a Tie of one test and of another
  split : (one other : Fact → Bool) → ((a b : ℕ) → one (Tie a b) ≡ true → other (Tie a b) ≡ true → ⊥) → (fact : Fact)
      → cond (tied one fact) 1 0 + cond (tied other fact) 1 0 ≤ cond (tied (λ (f : Fact). one f || other f) fact) 1 0
  split one other not (Bar k a) = omega arith
  split one other not (Must k a) = omega arith
  split one other not (Cut a b) = omega arith
  split one other not (Tie a b) = apart (belongs book quota a b) (one (Tie a b)) (other (Tie a b)) (not a b)

  of_rest : (n : ℕ) (x : Place) (route : List ℕ) → IsRisingFrom n x route
      → ((a b : ℕ) → ties_from x route (Tie a b) ≡ true → belongs book quota a b ≡ true → Contains marks (Tie a b))
      → uses_from book quota x route ≤ count (ties_from x route)
  of_rest n x [] up has = omega arith
  of_rest n Carry (b ∷ rest) up has = let le = of_rest n (After b) rest up.2 has in omega (arith, le)
  of_rest n (After a) (b ∷ rest) up has =
      let first = here a b (has a b (or_left (nat_eq a a && nat_eq b b) (ties_from (After b) rest (Tie a b)) (both_true (eq-eqb a a refl) (eq-eqb b b refl)))) in
      let behind = of_rest n (After b) rest up.2
      (λ c d h. has c d (or_right (nat_eq c a && nat_eq d b) (ties_from (After b) rest (Tie c d)) h)) in
      let parts = both (tied (ties_from (After a) (b ∷ rest))) (tied (λ (f : Fact). same_fact f (Tie a b))) (tied (ties_from (After b) rest))
      (split (λ (f : Fact). same_fact f (Tie a b)) (ties_from (After b) rest) (λ c d one other.
      (let e = same_is (Tie c d) (Tie a b) one in
      let again = subst (λ (f : Fact). ties_from (After b) rest f ≡ true) e other in
      let less = (rising_contains n (After b) rest b up.2 (second_in (After b) rest a b again)).0 in
      absurd (omega (arith, less))))) marks in
      omega (arith, first, behind, parts)

  pub of_plan : (n : ℕ) (plan : List (List ℕ)) → ((k : ℕ) → IsRisingFrom n Carry (route_of plan k))
      → ((i j b : ℕ) → contains (route_of plan i) b ≡ true → contains (route_of plan j) b ≡ true → i ≡ j)
      → ((a b : ℕ) → ties_in plan (Tie a b) ≡ true → belongs book quota a b ≡ true → Contains marks (Tie a b))
      → uses book quota plan ≤ count (ties_in plan)
  of_plan n [] up once has = omega arith
  of_plan n (route ∷ plan) up once has =
      let first = of_rest n Carry route (up 0) (λ a b h. has a b (or_left (ties_from Carry route (Tie a b)) (ties_in plan (Tie a b)) h)) in
      let others = of_plan n plan (λ k. up (suc k)) (λ i j b h g. (let e = once (suc i) (suc j) b h g in omega (arith, e)))
      (λ a b h. has a b (or_right (ties_from Carry route (Tie a b)) (ties_in plan (Tie a b)) h)) in
      let parts = both (tied (ties_in (route ∷ plan))) (tied (ties_from Carry route)) (tied (ties_in plan))
      (split (ties_from Carry route) (ties_in plan) (λ a b one other.
      (let (k, there) = second_somewhere plan a b other in
      let e = once 0 (suc k) b (second_in Carry route a b one) there in
      absurd (omega (arith, e))))) marks in
      omega (arith, first, others, parts)

  fewer : (test one : Bool) → cond (test && one) 1 0 ≤ cond test 1 0
  fewer true true = omega arith
  fewer true false = omega arith
  fewer false one = omega arith

  all_ties : (test : Fact → Bool) (facts : List Fact) → count_by (tied test) facts ≤ count_by (is_tie_of book quota) facts
  all_ties test [] = omega arith
  all_ties test (fact ∷ facts) =
      let here_le = fewer (is_tie_of book quota fact) (test fact) in
      omega (arith, here_le, one_more (tied test) fact facts, one_more (is_tie_of book quota) fact facts, all_ties test facts)

  pub tied_uses : (n : ℕ) (plan : List (List ℕ)) → ((k : ℕ) → IsRisingFrom n Carry (route_of plan k))
      → ((i j b : ℕ) → contains (route_of plan i) b ≡ true → contains (route_of plan j) b ≡ true → i ≡ j)
      → ((a b : ℕ) → joins plan a b ≡ true → belongs book quota a b ≡ true → Contains marks (Tie a b))
      → uses book quota plan ≤ ties_of book quota marks
  tied_uses n plan up once has =
      let most = of_plan n plan up once (λ a b h. has a b (joined plan a b h)) in
      let few = all_ties (ties_in plan) marks in
      omega (arith, most, few)

-- the routes of a plan rise, also past its end, where they are empty
pub all_rise : (book : BookSeen) (plan : List (List ℕ)) → ((k : ℕ) → k < aircraft book → IsRisingFrom (activities book) Carry (route_of plan k))
    → length plan ≡ aircraft book → (k : ℕ) → IsRisingFrom (activities book) Carry (route_of plan k)
all_rise book plan each all k = at plan k (λ lt. each k (omega (arith, lt, all)))
  where
    at : (plan : List (List ℕ)) (k : ℕ) → (k < length plan → IsRisingFrom (activities book) Carry (route_of plan k))
        → IsRisingFrom (activities book) Carry (route_of plan k)
    at [] k each = tt
    at (route ∷ plan) zero each = each (omega arith)
    at (route ∷ plan) (suc k) each = at plan k (λ lt. each (omega (arith, lt)))

-- and no two of them have the same activity
pub one_alone : (book : BookSeen) (plan : List (List ℕ)) → ((k : ℕ) → IsRisingFrom (activities book) Carry (route_of plan k))
    → ((a : ℕ) → a < activities book
    → (k : ℕ) × (k < aircraft book) × (contains (route_of plan k) a ≡ true) × ((j : ℕ) → contains (route_of plan j) a ≡ true → j ≡ k))
    → (i j a : ℕ) → contains (route_of plan i) a ≡ true → contains (route_of plan j) a ≡ true → i ≡ j
one_alone book plan up once i j a h g =
    let (k, _, _, only) = once a (rising_contains (activities book) Carry (route_of plan i) a (up i) h).1 in
    let first = only i h in let second = only j g in omega (arith, first, second)
