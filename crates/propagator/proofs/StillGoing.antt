-- Where a connection is dead that was not, some aircraft went on over it before. It has lost the link since, and then the fact
-- that took it is noted; or it comes to the first activity with another floor, and then this is flagged.
use Rattle.std.specs.Prelude.{◌⊎◌, ◌&&◌, ◌||◌, not, nat_eq, nat_lt, nat_le, All, Contains, IfSome}
use Rattle.std.proofs.Common.{◌≡◌, ◌∙◌, ℕ, zero, suc, ℤ, ◌<◌, ◌≤◌, Bool, true, false, inl, inr, arith, List, [], ◌∷◌, ◌++◌, length, get_or, refl, sym, ap, subst, take, drop, append_assoc, append-nil, Option, None, Some}
use Rattle.std.specs.List.{list_all}
use Rattle.std.proofs.lemmas.Bool.{both_ways, cases_Bool, and_parts, and_from, or_left, or_right, ltb-true, ltb-false, lt-ltb, le-leb, cases_order}
use Rattle.std.proofs.lemmas.Bool.Decides.{eqb_tells}
use Rattle.std.proofs.lemmas.List.{length-append, get_or_append_left, take-append-drop}
use Rattle.std.proofs.lemmas.List.Elements.{Contains-append_left, Contains-append_right, Contains-get_or}
use Rattle.tail_book.specs.Seen.{BookSeen}
use Rattle.tail_book.specs.declared.place.Place.TheVariants.{After}
use Rattle.tail_book.specs.Lookup.{activities, aircraft}
use Rattle.tail_book.specs.Counters.{step}
use Rattle.tail_book.specs.LegalTests.{within_limits}
use Rattle.tail_book.specs.inside.Tests.{LimitsDecide}
use Rattle.branch_marks.specs.declared.fact.Fact.{Fact}
use Rattle.branch_marks.specs.declared.fact.Fact.TheVariants.{Bar, Must, Cut, Tie}
use Rattle.branch_marks.specs.Marks.{IsAlive, IsUsable, LetsFly, LetsGo}
use Rattle.branch_marks.specs.MarkTests.{is_usable, lets_fly, lets_go}
use Rattle.branch_marks.specs.inside.MarkTests.{AliveDecides, UsableDecides}
use Rattle.branch_marks.specs.Below.{some_below}
use Rattle.branch_marks.specs.Following.{CannotGoBy, IsDeadBy, IsDeadConnection, IsShut}
use Rattle.floor_rows.specs.inside.LeastOver.{floor_of}
use Rattle.floor_rows.specs.inside.Neighbours.{goes_on_to}
use Rattle.propagator.specs.Keeping.{KeepsFront, KeepsSeen}
use Rattle.floor_rows.specs.inside.FloorRow.{FloorRowSeen}
use Rattle.propagator.specs.inside.Rows.{floors_in}
use Rattle.propagator.specs.inside.Settling.{IsSettledFor, StandBelow}
use Rattle.propagator.specs.inside.Suspects.{is_suspect, IsNoted, AreNoted}
use Rattle.propagator.specs.inside.Moves.{MovesAll}
use Rattle.propagator.specs.inside.Touching.{is_set}
use Rattle.propagator.proofs.FactsTouch.{lets_past}
use Rattle.propagator.proofs.MoreMarks.{alive_kept, usable_kept}
use Rattle.propagator.proofs.OnlyCarriers.{at_some}
use Rattle.propagator.proofs.SeenFront.{front_on}

-- the fact lets aircraft j fly both ends, and go from the one to the other
abbrev lets_link : ℕ → ℕ → ℕ → Fact → Bool
lets_link j a b fact = lets_fly j a fact && (lets_fly j b fact && lets_go j (After a) b fact)

fails_at : (p : Fact → Bool) (xs : List Fact) → list_all p xs ≡ false → (i : ℕ) × (i < length xs) × ((d : Fact) → p (get_or xs i d) ≡ false)
fails_at p [] h = absurd (both_ways true h refl)
fails_at p (x ∷ xs) h = elim (cases_Bool (p x)) [
  | inr off ↦ (0, omega arith, λ d. off)
  | inl on ↦ (let (i, lt, fails) = fails_at p xs (sym (ap (λ (t : Bool). t && list_all p xs) on) ∙ h) in (suc i, omega (arith, lt), fails))
]

module _ (book : BookSeen) (j a b : ℕ) where
  usable_stays : (old since : List Fact) → list_all (lets_link j a b) since ≡ true → is_usable book (old ++ since) j (After a) b ≡ is_usable book old j (After a) b
  usable_stays old [] h = ap (λ (z : List Fact). is_usable book z j (After a) b) (append-nil old)
  usable_stays old (fact ∷ since) h =
      let (here, rest) = and_parts (lets_link j a b fact) (list_all (lets_link j a b) since) h in
      let (first, more) = and_parts (lets_fly j a fact) (lets_fly j b fact && lets_go j (After a) b fact) here in
      let (second, go) = and_parts (lets_fly j b fact) (lets_go j (After a) b fact) more in
      ap (λ (z : List Fact). is_usable book z j (After a) b) (sym (append_assoc old (fact ∷ []) since))
      ∙ usable_stays (old ++ fact ∷ []) since rest
      ∙ usable_kept book old fact j (After a) b (alive_kept book old fact j a first) (alive_kept book old fact j b second) go

all_front : (P : Fact → Type 0) (xs ys : List Fact) → All P (xs ++ ys) → All P xs
all_front P xs ys h i d lt =
    let all = length-append xs ys in
    subst P (get_or_append_left xs ys d i lt) (h i d (omega (arith, lt, all)))

alive_before : (book : BookSeen) (old since : List Fact) (k a : ℕ) → IsAlive book (old ++ since) k a → IsAlive book old k a
alive_before book old since k a is = record { allowed = is.allowed; facts = all_front (LetsFly k a) old since is.facts }

usable_before : (book : BookSeen) (old since : List Fact) (k a b : ℕ) → IsUsable book (old ++ since) k (After a) b → IsUsable book old k (After a) b
usable_before book old since k a b is = record {
  link = is.link;
  before = alive_before book old since k a is.before;
  after = alive_before book old since k b is.after;
  facts = all_front (LetsGo k (After a) b) old since is.facts;
}

module _ (leave arrive : List Bool) (pass : List ℕ) (j : ℕ) where
  fly_noted : (x : ℕ) (fact : Fact) → IsNoted leave arrive pass fact → lets_fly j x fact ≡ false → (is_set leave x ≡ true) × (is_set arrive x ≡ true)
  fly_noted x (Bar k c) noted off = elim (eqb_tells c x) [
    | inl here ↦ (subst (λ (z : ℕ). is_set leave z ≡ true) here.1 noted.0, subst (λ (z : ℕ). is_set arrive z ≡ true) here.1 noted.1)
    | inr other ↦ absurd (both_ways (lets_fly j x (Bar k c)) off (not_both (nat_eq k j) (nat_eq c x) other.0))
  ]
    where
      not_both : (p t : Bool) → t ≡ false → not (p && t) ≡ true
      not_both true t e = ap not e
      not_both false t e = refl
  fly_noted x (Must k c) noted off = elim (eqb_tells c x) [
    | inl here ↦ (subst (λ (z : ℕ). is_set leave z ≡ true) here.1 noted.0, subst (λ (z : ℕ). is_set arrive z ≡ true) here.1 noted.1)
    | inr other ↦ absurd (both_ways (lets_fly j x (Must k c)) off (ap (λ (t : Bool). not t || nat_eq k j) other.0))
  ]
  fly_noted x (Cut c d) noted off = absurd (both_ways true off refl)
  fly_noted x (Tie c d) noted off = absurd (both_ways true off refl)

  module _ (a b : ℕ) where
    leaves : is_set leave a ≡ true → is_suspect leave arrive pass a b ≡ true
    leaves on = or_left (is_set leave a) (is_set arrive b || nat_lt (get_or pass a 0) b) on

    arrives : is_set arrive b ≡ true → is_suspect leave arrive pass a b ≡ true
    arrives on = or_right (is_set leave a) (is_set arrive b || nat_lt (get_or pass a 0) b) (or_left (is_set arrive b) (nat_lt (get_or pass a 0) b) on)

    passes : nat_lt (get_or pass a 0) b ≡ true → is_suspect leave arrive pass a b ≡ true
    passes on = or_right (is_set leave a) (is_set arrive b || nat_lt (get_or pass a 0) b) (or_right (is_set arrive b) (nat_lt (get_or pass a 0) b) on)

    go_noted : (fact : Fact) → IsNoted leave arrive pass fact → lets_go j (After a) b fact ≡ false → (is_suspect leave arrive pass a b ≡ true) ⊎ (fact ≡ Cut a b)
    go_noted (Bar k c) noted off = absurd (both_ways true off refl)
    go_noted (Must k c) noted off = elim (cases_Bool (nat_lt a c)) [
      | inr before ↦ absurd (both_ways (lets_go j (After a) b (Must k c)) off (ap (λ (t : Bool). not t || nat_le b c) (and_off (nat_eq k j) (nat_lt a c) before)))
      | inl before ↦ elim (cases_Bool (nat_lt c b)) [
        | inl over ↦ inl (passes (let least = noted.2 a (ltb-true a c before) in let less = ltb-true c b over in lt-ltb (get_or pass a 0) b (omega (arith, least, less))))
        | inr short ↦ absurd (both_ways (lets_go j (After a) b (Must k c)) off (or_right (not (nat_eq k j && nat_lt a c)) (nat_le b c) (not_over short)))
      ]
    ]
      where
        and_off : (p t : Bool) → t ≡ false → (p && t) ≡ false
        and_off true t e = e
        and_off false t e = refl

        not_over : nat_lt c b ≡ false → nat_le b c ≡ true
        not_over short = le-leb b c (ltb-false c b short)
    go_noted (Cut c d) noted off = elim (eqb_tells a c) [
      | inr other ↦ absurd (both_ways (lets_go j (After a) b (Cut c d)) off (ap (λ (t : Bool). not (t && nat_eq d b)) other.0))
      | inl here ↦ elim (eqb_tells d b) [
        | inr other ↦ absurd (both_ways (lets_go j (After a) b (Cut c d)) off (ap not (and_off (nat_eq a c) (nat_eq d b) other.0)))
        | inl there ↦ inr (ap (λ (z : ℕ). Cut z d) (sym here.1) ∙ ap (λ (z : ℕ). Cut a z) there.1)
      ]
    ]
      where
        and_off : (p t : Bool) → t ≡ false → (p && t) ≡ false
        and_off true t e = e
        and_off false t e = refl
    go_noted (Tie c d) noted off = elim (eqb_tells a c) [
      | inl here ↦ inl (leaves (subst (λ (z : ℕ). is_set leave z ≡ true) (sym here.1) noted.0))
      | inr other ↦ elim (eqb_tells d b) [
        | inl there ↦ inl (arrives (subst (λ (z : ℕ). is_set arrive z ≡ true) there.1 noted.1))
        | inr apart ↦ absurd (both_ways (lets_go j (After a) b (Tie c d)) off (lets_past (nat_eq a c) (nat_eq d b) other.0 apart.0))
      ]
    ]

    link_noted : (fact : Fact) → IsNoted leave arrive pass fact → lets_link j a b fact ≡ false → (is_suspect leave arrive pass a b ≡ true) ⊎ (fact ≡ Cut a b)
    link_noted fact noted off = elim (cases_Bool (lets_fly j a fact)) [
      | inr first ↦ inl (leaves (fly_noted a fact noted first).0)
      | inl fly ↦ elim (cases_Bool (lets_fly j b fact)) [
        | inr second ↦ inl (arrives (fly_noted b fact noted second).1)
        | inl fly' ↦ go_noted fact noted
            (sym (ap (λ (t : Bool). t && lets_go j (After a) b fact) fly') ∙ sym (ap (λ (t : Bool). t && (lets_fly j b fact && lets_go j (After a) b fact)) fly) ∙ off)
      ]
    ]

-- with this floor aircraft j goes on from a to b
abbrev goes_with : BookSeen → List Fact → ℕ → ℕ → ℕ → Option (List ℤ) → Bool
goes_with book marks j a b None = false
goes_with book marks j a b (Some low) = goes_on_to book marks j a low b

none_below : (p : ℕ → Bool) (n : ℕ) → some_below p n ≡ false → (x : ℕ) → x < n → p x ≡ false
none_below p zero h x lt = absurd (omega (arith, lt))
none_below p (suc n) h x lt = elim (cases_Bool (p n)) [
  | inl on ↦ absurd (both_ways (some_below p (suc n)) h (ap (λ (t : Bool). t || some_below p n) on))
  | inr off ↦ elim (cases_order x n) [
    | inl same ↦ (ap p same ∙ off)
    | inr o ↦ elim o [
      | inl less ↦ none_below p n (sym (ap (λ (t : Bool). t || some_below p n) off) ∙ h) x less
      | inr more ↦ absurd (omega (arith, lt, more))
    ]
  ]
]

module _ (alive : AliveDecides) (usable : UsableDecides) (limits : LimitsDecide) (book : BookSeen) (old since : List Fact) (a b : ℕ) where
  cannot : (j : ℕ) (floor : Option (List ℤ)) → goes_with book old j a b floor ≡ false → IsUsable book old j (After a) b → CannotGoBy book j a b floor
  cannot j None off link = tt
  cannot j (Some low) off link = λ within. both_ways (goes_on_to book old j a low b) off
      (and_from (is_usable book old j (After a) b) (within_limits book.rules.counters (step book j (After a) b low))
      ((usable book old j (After a) b).1 link) ((limits book.rules.counters (step book j (After a) b low)).1 within))

  -- somebody went on before
  went_on : IsShut book old → IsDeadConnection book (old ++ since) a b → (j : ℕ) × (j < aircraft book) × (goes_with book old j a b (floor_of book old j a) ≡ true)
  went_on shut dead = elim (cases_Bool (some_below (λ j. goes_with book old j a b (floor_of book old j a)) (aircraft book))) [
    | inl some ↦ at_some (λ j. goes_with book old j a b (floor_of book old j a)) (aircraft book) some
    | inr none ↦ absurd (shut (Cut a b) dead.of_book (record {
      of_book = dead.of_book;
      new = λ has. dead.new (Contains-append_left old since (Cut a b) has);
      usable = (let (k, lt, link) = dead.usable in (k, lt, usable_before book old since k a b link));
      dead = λ j lt link. cannot j (floor_of book old j a)
          (none_below (λ i. goes_with book old i a b (floor_of book old i a)) (aircraft book) none j lt) link;
    }))
  ]

  goes_low : (j : ℕ) (floor : Option (List ℤ)) → goes_with book old j a b floor ≡ true
      → (low : List ℤ) × (floor ≡ Some low) × (is_usable book old j (After a) b ≡ true) × (within_limits book.rules.counters (step book j (After a) b low) ≡ true)
  goes_low j None on = absurd (both_ways false refl on)
  goes_low j (Some low) on =
      let (link, within) = and_parts (is_usable book old j (After a) b) (within_limits book.rules.counters (step book j (After a) b low)) on in
      (low, refl, link, within)

  -- an aircraft is settled that comes there with no floor, so it does not come there
  no_floor : (j : ℕ) → j < aircraft book → a < activities book → IsSettledFor book (old ++ since) j → IsAlive book (old ++ since) j a
      → ¬ (floor_of book (old ++ since) j a ≡ None)
  no_floor j lt within settled on none = settled a within (record {
    of_book = (lt, within);
    alive = on;
    dead = subst (λ (floor : Option (List ℤ)). IsDeadBy book (old ++ since) j a floor) (sym none) tt;
  })

  pub not_dead : (leave arrive : List Bool) (pass : List ℕ) → IsShut book old → All (IsNoted leave arrive pass) since
      → ((j : ℕ) → j < aircraft book → IsSettledFor book (old ++ since) j)
      → ((j : ℕ) → j < aircraft book → is_set leave a ≡ false → (floor_of book (old ++ since) j a ≡ floor_of book old j a) ⊎ (floor_of book (old ++ since) j a ≡ None))
      → is_suspect leave arrive pass a b ≡ false → ¬ IsDeadConnection book (old ++ since) a b
  not_dead leave arrive pass shut noted settled moves off dead =
      let (j, lt, on) = went_on shut dead in
      let (low, is, link, within) = goes_low j (floor_of book old j a) on in
      elim (cases_Bool (list_all (lets_link j a b) since)) [
        | inr lost ↦ (let (i, inside, fails) = fails_at (lets_link j a b) since lost in
            elim (link_noted leave arrive pass j a b (get_or since i (Cut 0 0)) (noted i (Cut 0 0) inside) (fails (Cut 0 0))) [
              | inl flag ↦ both_ways (is_suspect leave arrive pass a b) off flag
              | inr same ↦ dead.new (Contains-append_right old since (Cut a b)
                  (subst (λ (fact : Fact). Contains since fact) same (Contains-get_or since i (Cut 0 0) inside)))
            ])
        | inl all ↦ (let now = (usable book (old ++ since) j (After a) b).0 (usable_stays book j a b old since all ∙ link) in
            elim (moves j lt (first_off (is_set leave a) (is_set arrive b || nat_lt (get_or pass a 0) b) off)) [
              | inr none ↦ no_floor j lt dead.of_book.0 (settled j lt) now.before none
              | inl same ↦ subst (λ (floor : Option (List ℤ)). CannotGoBy book j a b floor) (same ∙ is) (dead.dead j lt now)
                  ((limits book.rules.counters (step book j (After a) b low)).0 within)
            ])
      ]
    where
      first_off : (p q : Bool) → (p || q) ≡ false → p ≡ false
      first_off true q e = e
      first_off false q e = refl

-- so no link that is not suspect is dead
pub others_alive : AliveDecides → UsableDecides → LimitsDecide → (book : BookSeen) (facts more marks : List Fact) (seen : Option ℕ) (rows next : List FloorRowSeen)
    (first moved leave arrive : List Bool) (pass : List ℕ) → KeepsSeen book facts rows seen → marks ≡ facts ++ more → MovesAll first moved rows next
    → StandBelow book marks next (aircraft book) → AreNoted marks seen moved leave arrive pass → length leave ≡ activities book
    → (a b : ℕ) → is_suspect leave arrive pass a b ≡ false → ¬ IsDeadConnection book marks a b
others_alive alive usable limits book facts more marks None rows next first moved leave arrive pass keeps grown moves stand noted all a b off dead =
    let within : a < activities book = dead.of_book.0 in
    both_ways (is_suspect leave arrive pass a b) off
    (or_left (is_set leave a) (is_set arrive b || nat_lt (get_or pass a 0) b) (noted a (omega (arith, within, all))))
others_alive alive usable limits book facts more marks (Some n) rows next first moved leave arrive pass keeps grown moves stand noted all a b off dead =
    subst (λ (z : List Fact). ¬ IsDeadConnection book z a b) whole
    (not_dead alive usable limits book (take n marks) (drop n marks) a b leave arrive pass front.shut noted.1
    (λ j lt. subst (λ (z : List Fact). IsSettledFor book z j) (sym whole) (stand j lt).settled)
    (λ j lt still. subst (λ (z : List Fact). (floor_of book z j a ≡ floor_of book (take n marks) j a) ⊎ (floor_of book z j a ≡ None)) (sym whole) (same j lt still)) off) dead
  where
    whole : take n marks ++ drop n marks ≡ marks
    whole = take-append-drop n marks

    front : KeepsFront book marks rows n
    front = subst (λ (z : List Fact). KeepsFront book z rows n) (sym grown) (front_on book facts more rows n keeps)

    same : (j : ℕ) → j < aircraft book → is_set leave a ≡ false
        → (floor_of book marks j a ≡ floor_of book (take n marks) j a) ⊎ (floor_of book marks j a ≡ None)
    same j lt still =
        subst (λ (listed : List (Option (List ℤ))). (get_or listed a None ≡ floor_of book (take n marks) j a) ⊎ (get_or listed a None ≡ None)) (stand j lt).floors
        (subst (λ (listed : List (Option (List ℤ))). (get_or (floors_in next j) a None ≡ get_or listed a None) ⊎ (get_or (floors_in next j) a None ≡ None)) (front.floors j lt)
        (moves.floors j a (noted.0 a still)))

pub few_seen : (book : BookSeen) (facts more marks : List Fact) (rows : List FloorRowSeen) (seen : Option ℕ) → KeepsSeen book facts rows seen → marks ≡ facts ++ more
    → IfSome seen (λ n. n ≤ length marks)
few_seen book facts more marks rows None keeps grown = tt
few_seen book facts more marks rows (Some n) keeps grown =
    let few = keeps.few in
    let all = length-append facts more in
    let same = ap (λ (z : List Fact). length z) grown in
    omega (arith, few, all, same)
