-- In a legal plan of which the marks hold each route fits them. A fact tells something of the whole plan, and so of each
-- route: an activity stands in one route alone, so what some route does with it, the route that has it does. Along the
-- route each link is then let by each fact, since its numbers rise: what lies before a place is not met again behind it.
use Rattle.std.proofs.Common.{◌≡◌, ◌∙◌, ℕ, ◌<◌, inl, inr, true, false, arith, List, [], ◌∷◌, ℤ, refl, sym, subst}
use Rattle.std.proofs.lemmas.Bool.{eqb-true, eq-eqb, or_cases, or_left, and_parts, both_ways}
use Rattle.std.proofs.lemmas.List.Elements.{All-weaker}
use Rattle.std.specs.Prelude.{nat_eq, ◌&&◌}
use Rattle.tail_book.specs.Seen.{BookSeen}
use Rattle.tail_book.specs.declared.place.Place.{Place}
use Rattle.tail_book.specs.declared.place.Place.TheVariants.{Carry, After}
use Rattle.tail_book.specs.Lookup.{activities, aircraft, carry_of}
use Rattle.tail_book.specs.Numbers.{contains}
use Rattle.tail_book.specs.Plan.{route_of, IsLegalPlan}
use Rattle.tail_book.specs.inside.Rising.{LegalRoutesRise, EachIsFlownOnce, IsRisingFrom}
use Rattle.tail_book.specs.Route.{IsLegalFrom}
use Rattle.tail_book.specs.inside.Sound.{IsBook}
use Rattle.branch_marks.specs.declared.fact.Fact.{Fact}
use Rattle.branch_marks.specs.declared.fact.Fact.TheVariants.{Bar, Must, Cut, Tie}
use Rattle.branch_marks.specs.Facts.{begins, directly, joins, Holds, HoldAll}
use Rattle.branch_marks.specs.Marks.{LetsFly, LetsGo, LetsEnd, IsAlive, IsAliveAt, FitsFrom, Fits}
use Rattle.branch_marks.proofs.Neighbours.{begins_contains, first_contained, second_contained, joins_of_route, route_of_joins, rising_contains, directly_rises, not_both, up_to_itself, at_before, before_later, IsWithin, starts_within, next_within}

module _ (rise : LegalRoutesRise) (once : EachIsFlownOnce) (book : BookSeen) (sound : IsBook book)
    (plan : List (List ℕ)) (legal : IsLegalPlan book plan) (k : ℕ) (hk : k < aircraft book) where
  rising : IsRisingFrom (activities book) Carry (route_of plan k)
  rising = rise book sound k (route_of plan k) (legal.routes k hk)

  -- whoever else has an activity of this route is the same aircraft
  same_flier : (j a : ℕ) → contains (route_of plan k) a ≡ true → contains (route_of plan j) a ≡ true → j ≡ k
  same_flier j a here there =
      let (who, _, _, only) = once book plan legal a (rising_contains (activities book) Carry (route_of plan k) a rising here).1 in
      only j there ∙ sym (only k here)

  -- a tie of the plan is one of the route that has either end
  tied_first : (a c : ℕ) → joins plan a c ≡ true → contains (route_of plan k) a ≡ true → directly (route_of plan k) a c ≡ true
  tied_first a c h here =
      let (j, _, there) = route_of_joins plan a c h in
      subst (λ (i : ℕ). directly (route_of plan i) a c ≡ true) (same_flier j a here (first_contained a c (route_of plan j) there)) there

  tied_second : (a c : ℕ) → joins plan a c ≡ true → contains (route_of plan k) c ≡ true → directly (route_of plan k) a c ≡ true
  tied_second a c h here =
      let (j, _, there) = route_of_joins plan a c h in
      subst (λ (i : ℕ). directly (route_of plan i) a c ≡ true) (same_flier j c here (second_contained a c (route_of plan j) there)) there

  lets_fly : (a : ℕ) → contains (route_of plan k) a ≡ true → (fact : Fact) → Holds fact plan → LetsFly k a fact
  lets_fly a here (Bar j c) h = λ ej ec. both_ways (contains (route_of plan k) a) (rw (ej, ec) at h) here
  lets_fly a here (Must j c) h = λ e. same_flier j a here (rw e at h)
  lets_fly a here (Cut c d) h = tt
  lets_fly a here (Tie c d) h = tt

  -- the second of two neighbours among b and what comes behind it lies behind b
  behind : (b : ℕ) (rest : List ℕ) (a e : ℕ) → IsRisingFrom (activities book) (After b) rest → directly (b ∷ rest) a e ≡ true → b < e
  behind b rest a e up h = elim (or_cases (nat_eq a b && begins rest e) (directly rest a e) h) [
    | inl q ↦ (rising_contains (activities book) (After b) rest e up (begins_contains rest e (and_parts (nat_eq a b) (begins rest e) q).1)).0
    | inr q ↦ (rising_contains (activities book) (After b) rest e up (second_contained a e rest q)).0
  ]

  lets_go : (x : Place) (b : ℕ) (rest : List ℕ) → IsWithin (route_of plan k) x (b ∷ rest) → IsRisingFrom (activities book) x (b ∷ rest)
      → (fact : Fact) → Holds fact plan → LetsGo k x b fact
  lets_go x b rest w up (Bar j c) h = tt
  lets_go x b rest w up (Must j c) h = λ ej before. elim (w.back c (rw ej at h)) [
    | inl u ↦ absurd (not_both x c u before)
    | inr t ↦ elim (or_cases (nat_eq c b) (contains rest c) t) [
      | inl e ↦ (let same : c ≡ b = eqb-true c b e in omega (arith, same))
      | inr r ↦ (let later = (rising_contains (activities book) (After b) rest c up.2 r).0 in omega (arith, later))
    ]
  ]
  lets_go x b rest w up (Cut c d) h = λ at e. both_ways (joins plan c d) h (joins_of_route plan k c d (w.pair c d at (eq-eqb d b e)))
  lets_go x b rest w up (Tie c d) h = (
    (λ at. let t = tied_first c d h (w.here c at) in
        elim (w.pairs_back c d t) [
          | inl u ↦ absurd (not_both x d u (at_before x c d at (directly_rises (activities book) Carry (route_of plan k) c d rising t)))
          | inr s ↦ elim s [
            | inl p ↦ eqb-true d b p.1
            | inr r ↦ absurd (not_both x c (up_to_itself x c at) (rising_contains (activities book) x (b ∷ rest) c up (first_contained c d (b ∷ rest) r)).0)
          ]
        ]),
    (λ e. let t = tied_second c d h (w.forth d (or_left (nat_eq d b) (contains rest d) (eq-eqb d b e))) in
        elim (w.pairs_back c d t) [
          | inl u ↦ absurd (not_both x d u (before_later x b d up.0 (omega (arith, e))))
          | inr s ↦ elim s [
            | inl p ↦ p.0
            | inr r ↦ (let later = behind b rest c d up.2 r in absurd (omega (arith, e, later)))
          ]
        ]),
  )

  lets_end : (x : Place) → IsWithin (route_of plan k) x [] → (fact : Fact) → Holds fact plan → LetsEnd k x fact
  lets_end x w (Bar j c) h = tt
  lets_end x w (Must j c) h = λ ej before. elim (w.back c (rw ej at h)) [
    | inl u ↦ not_both x c u before
    | inr t ↦ both_ways false refl t
  ]
  lets_end x w (Cut c d) h = tt
  lets_end x w (Tie c d) h = λ at.
      let t = tied_first c d h (w.here c at) in
      elim (w.pairs_back c d t) [
        | inl u ↦ not_both x d u (at_before x c d at (directly_rises (activities book) Carry (route_of plan k) c d rising t))
        | inr s ↦ elim s [
          | inl p ↦ both_ways false refl p.1
          | inr r ↦ both_ways false refl r
        ]
      ]

  module _ (marks : List Fact) (hold : HoldAll marks plan) where
    fits_from : (x : Place) (rest : List ℕ) (values : List ℤ) → IsWithin (route_of plan k) x rest → IsRisingFrom (activities book) x rest
        → IsLegalFrom book k x values rest → IsAliveAt book marks k x → FitsFrom book marks k x rest
    fits_from x [] values w up legal_rest alive = All-weaker (λ fact. Holds fact plan) (LetsEnd k x) (lets_end x w) marks hold
    fits_from x (b ∷ rest) values w up legal_rest alive =
        let here = w.forth b (or_left (nat_eq b b) (contains rest b) (eq-eqb b b refl)) in
        let next : IsAlive book marks k b = record {
          allowed = legal_rest.1.after;
          facts = All-weaker (λ fact. Holds fact plan) (LetsFly k b) (lets_fly b here) marks hold;
        } in (
          record {
            link = legal_rest.1;
            before = alive;
            after = next;
            facts = All-weaker (λ fact. Holds fact plan) (LetsGo k x b) (lets_go x b rest w up) marks hold;
          },
          fits_from (After b) rest _ (next_within (route_of plan k) x b rest up.0 w) up.2 legal_rest.3 next,
        )

    pub fits_marked : Fits book marks k (route_of plan k)
    fits_marked = fits_from Carry (route_of plan k) (carry_of book k) (starts_within (route_of plan k)) rising (legal.routes k hk) tt
