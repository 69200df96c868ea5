-- An activity has an only carrier where the first aircraft that is alive there is the last one too, and no Must names it. A
-- Must gives the activity to that aircraft, so that one activity less is unnamed from then on.
use Rattle.std.specs.Prelude.{Result, Ok, Err, OnOk, ◌≢◌, nat_eq, if◌then◌else◌}
use Rattle.std.proofs.Common.{◌≡◌, ◌∙◌, ℕ, zero, suc, ◌<◌, ◌≤◌, ◌+◌, Bool, true, false, inl, inr, List, [], ◌∷◌, ◌++◌, refl, sym, ap, subst, arith, below_more}
use Rattle.std.proofs.lemmas.Bool.{both_ways, cases_order, or_left, or_right, or_cases, and_from, eq-eqb, false_from_ne_true}
use Rattle.std.proofs.lemmas.List.Folds.{list_any-append}
use Rattle.tail_book.specs.Seen.{BookSeen}
use Rattle.tail_book.specs.Lookup.{activities, aircraft}
use Rattle.branch_marks.specs.declared.fact.Fact.{Fact}
use Rattle.branch_marks.specs.declared.fact.Fact.TheVariants.{Must}
use Rattle.branch_marks.specs.Below.{some_below, count_below}
use Rattle.branch_marks.specs.FactTests.{same_fact, has_fact}
use Rattle.branch_marks.specs.inside.FactTests.{HasFactDecides}
use Rattle.branch_marks.specs.MarkTests.{is_alive}
use Rattle.branch_marks.specs.inside.MarkTests.{AliveDecides}
use Rattle.branch_marks.specs.Following.{IsOnlyCarrier}
use Rattle.std.proofs.lemmas.Bool.Decides.{eqb_tells}
use Rattle.branch_marks.specs.MarksSeen.{MarksSeen}
use Rattle.branch_marks.specs.inside.MarkTables.{AreMarksOf}
use Rattle.propagator.specs.InTurn.{GrowInTurn}
use Rattle.floor_rows.specs.inside.FloorRow.{FloorRowSeen}
use Rattle.propagator.specs.inside.Rows.{AreRowsOf, ChangesOnly}
use Rattle.propagator.specs.inside.SameFor.{SameFor, SameFloors, SameDead, MustsLeaveOthers}
use Rattle.propagator.specs.inside.Settling.{ActsOn, StandsFor, StandBelow}
use Rattle.propagator.proofs.Arriving.{same_on}
use Rattle.propagator.proofs.InTurn.{grow_both}
use Rattle.propagator.proofs.Settled.{AreSettling, stands_on}
use Rattle.propagator.specs.inside.Unnamed.{is_named, unnamed}

module _ (alive : AliveDecides) (book : BookSeen) (marks : List Fact) (a : ℕ) where
  -- who is not the only carrier is not alive
  pub others_dead : (k j : ℕ) → IsOnlyCarrier book marks k a → j < aircraft book → j ≢ k → is_alive book marks j a ≡ false
  others_dead k j carrier lt ne = false_from_ne_true (is_alive book marks j a) (λ t. ne (carrier.alone j lt ((alive book marks j a).0 t)))

-- a test that holds below n of some number, where it implies another, which then does
some_more : (p q : ℕ → Bool) → ((x : ℕ) → p x ≡ true → q x ≡ true) → (n : ℕ) → some_below p n ≡ true → some_below q n ≡ true
some_more p q more zero h = h
some_more p q more (suc n) h = elim (or_cases (p n) (some_below p n) h) [
  | inl t ↦ or_left (q n) (some_below q n) (more n t)
  | inr t ↦ or_right (q n) (some_below q n) (some_more p q more n t)
]

some_at : (p : ℕ → Bool) (n k : ℕ) → k < n → p k ≡ true → some_below p n ≡ true
some_at p zero k lt h = absurd (omega (arith, lt))
some_at p (suc n) k lt h = elim (cases_order k n) [
  | inl e ↦ or_left (p n) (some_below p n) (ap p (sym e) ∙ h)
  | inr o ↦ elim o [
    | inl less ↦ or_right (p n) (some_below p n) (some_at p n k less h)
    | inr over ↦ absurd (omega (arith, lt, over))
  ]
]

pub at_some : (p : ℕ → Bool) (n : ℕ) → some_below p n ≡ true → (k : ℕ) × (k < n) × (p k ≡ true)
at_some p zero h = absurd (both_ways false refl h)
at_some p (suc n) h = elim (or_cases (p n) (some_below p n) h) [
  | inl t ↦ (n, omega arith, t)
  | inr t ↦ (let (k, lt, holds) = at_some p n t in (k, omega (arith, lt), holds))
]

-- the numbers that fail a test are no more where the test holds more often, and fewer where it holds of one more
one_less : (p q : Bool) → (p ≡ true → q ≡ true) → (if q then 0 else 1) ≤ (if p then 0 else 1)
one_less true true h = omega arith
one_less true false h = absurd (both_ways false refl (h refl))
one_less false true h = omega arith
one_less false false h = omega arith

fails_no_more : (p q : ℕ → Bool) → ((x : ℕ) → p x ≡ true → q x ≡ true) → (n : ℕ) → count_below (λ x. if q x then 0 else 1) n ≤ count_below (λ x. if p x then 0 else 1) n
fails_no_more p q more zero = omega arith
fails_no_more p q more (suc n) =
    let here = one_less (p n) (q n) (more n) in
    let rest = fails_no_more p q more n in
    omega (arith, here, rest)

less_here : (p q : Bool) → p ≡ false → q ≡ true → (if q then 0 else 1) < (if p then 0 else 1)
less_here true q e f = absurd (both_ways true e refl)
less_here false true e f = omega arith
less_here false false e f = absurd (both_ways false refl f)

fails_less : (p q : ℕ → Bool) → ((x : ℕ) → p x ≡ true → q x ≡ true) → (n a : ℕ) → a < n → p a ≡ false → q a ≡ true
    → count_below (λ x. if q x then 0 else 1) n < count_below (λ x. if p x then 0 else 1) n
fails_less p q more zero a lt e f = absurd (omega (arith, lt))
fails_less p q more (suc n) a lt e f = elim (cases_order a n) [
  | inl same ↦ (
      let here = less_here (p n) (q n) (ap p (sym same) ∙ e) (ap q (sym same) ∙ f) in
      let rest = fails_no_more p q more n in
      omega (arith, here, rest))
  | inr o ↦ elim o [
    | inl less ↦ (
        let here = one_less (p n) (q n) (more n) in
        let rest = fails_less p q more n a less e f in
        omega (arith, here, rest))
    | inr over ↦ absurd (omega (arith, lt, over))
  ]
]

-- with a Must of an only carrier, and whatever is added then, one activity less is unnamed
pub fewer_unnamed : HasFactDecides → (book : BookSeen) (marks added : List Fact) (k a : ℕ) → IsOnlyCarrier book marks k a
    → unnamed book ((marks ++ Must k a ∷ []) ++ added) < unnamed book marks
unfolding unnamed
fewer_unnamed decides book marks added k a carrier =
    fails_less (is_named book marks) (is_named book ((marks ++ Must k a ∷ []) ++ added)) more_named (activities book) a carrier.of_book.1 not_yet now
  where
    kept : (fact : Fact) → has_fact marks fact ≡ true → has_fact ((marks ++ Must k a ∷ []) ++ added) fact ≡ true
    kept fact h =
        list_any-append (same_fact fact) (marks ++ Must k a ∷ []) added
        ∙ or_left (has_fact (marks ++ Must k a ∷ []) fact) (has_fact added fact)
        (list_any-append (same_fact fact) marks (Must k a ∷ []) ∙ or_left (has_fact marks fact) (has_fact (Must k a ∷ []) fact) h)

    more_named : (x : ℕ) → is_named book marks x ≡ true → is_named book ((marks ++ Must k a ∷ []) ++ added) x ≡ true
    more_named x h = some_more (λ j. has_fact marks (Must j x)) (λ j. has_fact ((marks ++ Must k a ∷ []) ++ added) (Must j x)) (λ j. kept (Must j x)) (aircraft book) h

    not_yet : is_named book marks a ≡ false
    not_yet = false_from_ne_true (is_named book marks a) (λ t.
        let (j, lt, has) = at_some (λ i. has_fact marks (Must i a)) (aircraft book) t in
        carrier.unnamed j lt ((decides marks (Must j a)).0 has))

    now : is_named book ((marks ++ Must k a ∷ []) ++ added) a ≡ true
    now = some_at (λ j. has_fact ((marks ++ Must k a ∷ []) ++ added) (Must j a)) (aircraft book) k carrier.of_book.0
        (list_any-append (same_fact (Must k a)) (marks ++ Must k a ∷ []) added
        ∙ or_left (has_fact (marks ++ Must k a ∷ []) (Must k a)) (has_fact added (Must k a))
        (list_any-append (same_fact (Must k a)) marks (Must k a ∷ [])
        ∙ or_right (has_fact marks (Must k a)) (has_fact (Must k a ∷ []) (Must k a))
        (or_left (same_fact (Must k a) (Must k a)) false (and_from (nat_eq k k) (nat_eq a a) (eq-eqb k k refl) (eq-eqb a a refl)))))

-- what stands on an answer stands on it still once more follows
pub on_ok : {T E P Q : Type 0} (result : Result T E) → (P → Q) → OnOk result P → OnOk result Q
on_ok (Ok v) f p = f p
on_ok (Err e) f p = p

-- once the activity is given to its carrier and that one is settled, all are settled
pub carried : SameFloors → SameDead → MustsLeaveOthers → AliveDecides → (book : BookSeen) (marks mid new : List Fact) (k a : ℕ) (rows next : List FloorRowSeen)
    → IsOnlyCarrier book marks k a → mid ≡ marks ++ Must k a ∷ [] → ActsOn book k mid new → ChangesOnly k rows next
    → StandBelow book marks rows (aircraft book) → StandsFor book new next k → StandBelow book new next (aircraft book)
carried same_floors same_dead leave alive book marks mid new k a rows next carrier is acts others stand here j lt = elim (eqb_tells j k) [
  | inl same ↦ subst (λ (z : ℕ). StandsFor book new next z) (sym same.1) here
  | inr apart ↦ stands_on same_floors same_dead book j marks new rows next
      (same_on book j marks mid new
      (subst (λ (z : List Fact). SameFor book j marks z) (sym is) (leave book marks k a j apart.1 (others_dead alive book marks a k j carrier lt apart.1)))
      (acts.others j apart.1))
      (others j apart.1) (stand j lt)
]

-- all aircraft are settled, while activities are given to their only carriers: where none was found, those below a have none
pub record AreCarrying (book : BookSeen) (old new : MarksSeen) (listed listing : List Fact) (rows : List FloorRowSeen) (found : Bool) (a : ℕ) : Type 0 where
  pub settling : AreSettling book (aircraft book) old new listed listing rows
  pub fewer : unnamed book new.facts ≤ unnamed book old.facts
  pub some : found ≡ true → unnamed book new.facts < unnamed book old.facts
  pub none : found ≡ false → (k c : ℕ) → c < a → ¬ IsOnlyCarrier book new.facts k c

-- one was found at a, and given its activity
pub carry_found : (book : BookSeen) (old mid new : MarksSeen) (listed half listing : List Fact) (rows next : List FloorRowSeen) (was some : Bool) (a : ℕ)
    → AreCarrying book old mid listed half rows was a → AreMarksOf book new → GrowInTurn book mid.facts new.facts half listing → AreRowsOf book next
    → StandBelow book new.facts next (aircraft book) → unnamed book new.facts < unnamed book mid.facts → some ≡ true → AreCarrying book old new listed listing next some (a + 1)
carry_found book old mid new listed half listing rows next was some a so_far marks grows room stand less is = record {
  settling = record {
    marks = marks;
    grows = grow_both book old.facts mid.facts new.facts listed half listing so_far.settling.grows grows;
    room = room;
    stand = stand;
  };
  fewer = (let up_to = so_far.fewer in omega (arith, less, up_to));
  some = λ _. (let up_to = so_far.fewer in omega (arith, less, up_to));
  none = λ off. absurd (both_ways some off is);
}

-- there is none at a
pub carry_none : (book : BookSeen) (old new : MarksSeen) (listed listing : List Fact) (rows : List FloorRowSeen) (some : Bool) (a : ℕ)
    → AreCarrying book old new listed listing rows some a → ((k : ℕ) → ¬ IsOnlyCarrier book new.facts k a) → AreCarrying book old new listed listing rows some (a + 1)
carry_none book old new listed listing rows some a so_far none = record {
  settling = so_far.settling;
  fewer = so_far.fewer;
  some = so_far.some;
  none = λ off k c lt. below_more (λ (x : ℕ). ¬ IsOnlyCarrier book new.facts k x) a (so_far.none off k) (none k) c lt;
}
