-- Which flights an open departure b may follow: those that may wait, are alive and have waited for the turn. By the
-- kinds of facts: no Tie begins at such a flight, no Cut and no Tie leads to b, and each Must before b is below the
-- floor, from which on the flight stands. The other way round, a flight before the last Must would pass over it, and a
-- Tie that begins at a flight would have to lead to b, which none does: so whoever b may follow may wait.
use Rattle.std.proofs.Common.{◌≡◌, ℕ, pos, ◌+◌, ◌≤ℤ◌, ◌<◌, ◌≤◌, inl, inr, Bool, true, false, cond, arith, refl, List, [], ◌∷◌, length, subst, sym, ap, ap₂, ◌∙◌, ◌-◌, get_or}
use Rattle.std.specs.Prelude.{All, Option, None, Some, ◌&&◌, nat_eq}
use Rattle.std.specs.Int.{int_max}
use Rattle.std.specs.List.{Contains}
use Rattle.std.proofs.lemmas.Bool.{cases_lt, eqb-true, eq-eqb}
use Rattle.std.proofs.lemmas.Int.{ints}
use Rattle.std.proofs.lemmas.List.{get_or_default}
use Rattle.std.proofs.lemmas.List.Elements.{All-cons, All-head, All-tail}
use Rattle.tail_book.specs.Seen.{BookSeen}
use Rattle.tail_book.specs.declared.place.Place.TheVariants.{After}
use Rattle.tail_book.specs.Lookup.{activities, is_flight, to_port, kind_of, type_turn, port_turn}
use Rattle.tail_book.specs.Link.{gap, turn_time}
use Rattle.branch_marks.specs.declared.fact.Fact.{Fact}
use Rattle.branch_marks.specs.declared.fact.Fact.TheVariants.{Bar, Must, Cut, Tie}
use Rattle.branch_marks.specs.declared.named.Named.{Named}
use Rattle.branch_marks.specs.declared.named.Named.TheVariants.{Nothing, One, Several}
use Rattle.branch_marks.specs.Marks.{IsAlive, IsUsable, LetsGo}
use Rattle.branch_marks.specs.inside.Named.{named_from, with_named}
use Rattle.branch_marks.specs.inside.MarkTables.{tied_after}
use Rattle.pricing.specs.declared.stand.Stand.{Stand}
use Rattle.pricing.specs.inside.Waiting.{IsArrival, IsOpen, MayWait}

-- neither is nothing
differs : (same : Bool) (w : ℕ) → cond same (One w) Several ≡ Nothing → ⊥
differs true w h = grind (arith, h)
differs false w h = grind (arith, h)

ties_of : (same : Bool) (c y d : ℕ) → (same ≡ true → ⊥) → cond same (Some d) None ≡ None
ties_of true c y d apart = absurd (apart refl)
ties_of false c y d apart = refl

-- a tie behind x names its end, and one behind another activity does not
pub is_tied : (c x d : ℕ) → c ≡ x → cond (nat_eq c x) (Some d) None ≡ None → ⊥
is_tied c x d same h = let yes : nat_eq c x ≡ true = eq-eqb c x same in grind (arith, yes, h)

not_tied : (c y d : ℕ) → (y ≡ c → ⊥) → cond (nat_eq c y) (Some d) None ≡ None
not_tied c y d apart = ties_of (nat_eq c y) c y d (λ yes. apart (sym (eqb-true c y yes)))

abbrev pub IsNone : (Fact → Option ℕ) → Fact → Type 0
IsNone names fact = names fact ≡ None

-- where nothing is named in the end, nothing was before, and nothing more is
nothing_before : (named : Named) (one : Option ℕ) → with_named named one ≡ Nothing → (named ≡ Nothing) × (one ≡ None)
nothing_before named None h = (h, refl)
nothing_before Nothing (Some v) h = absurd (grind (arith, h))
nothing_before (One w) (Some v) h = absurd (differs (nat_eq w v) w h)
nothing_before Several (Some v) h = absurd (grind (arith, h))

pub nothing_named : (names : Fact → Option ℕ) (named : Named) (facts : List Fact) → named_from names named facts ≡ Nothing → (named ≡ Nothing) × All (IsNone names) facts
nothing_named names named [] h = (h, λ i d lt. absurd (omega (arith, lt)))
nothing_named names named (fact ∷ facts) h =
    let rest = nothing_named names (with_named named (names fact)) facts h in
    let here = nothing_before named (names fact) rest.0 in (here.0, All-cons (IsNone names) fact facts here.1 rest.1)

none_named : (names : Fact → Option ℕ) (facts : List Fact) → All (IsNone names) facts → named_from names Nothing facts ≡ Nothing
none_named names [] none = refl
none_named names (fact ∷ facts) none =
    let here : names fact ≡ None = All-head (IsNone names) fact facts none in
    ap (λ (o : Option ℕ). named_from names (with_named Nothing o) facts) here ∙ none_named names facts (All-tail (IsNone names) fact facts none)

-- what stands at a place is there
pub at_place : (facts : List Fact) (i : ℕ) (d : Fact) → i < length facts → Contains facts (get_or facts i d)
at_place facts i d lt = (i, lt, get_or_default facts i (get_or facts i d) d lt)

-- a fact that ties nothing behind x, and nothing to b, cuts nothing from it and asks for nothing between lets k go from x to b
lets_go : (k x b floor : ℕ) (fact : Fact) → tied_after x fact ≡ None → ((c : ℕ) → fact ≡ Cut c b → ⊥) → ((c : ℕ) → fact ≡ Tie c b → ⊥)
    → ((c : ℕ) → fact ≡ Must k c → c < b → c < floor) → floor ≤ x + 1 → LetsGo k (After x) b fact
lets_go k x b floor (Bar j c) untied cut tie must behind = tt
lets_go k x b floor (Must j c) untied cut tie must behind = λ same before. elim (cases_lt c b) [
  | inl less ↦ let low = must c (ap (λ (m : ℕ). Must m c) same) less in absurd (omega (arith, low, behind, before))
  | inr le ↦ le
]
lets_go k x b floor (Cut c d) untied cut tie must behind = λ at same. cut c (ap (λ (m : ℕ). Cut c m) same)
lets_go k x b floor (Tie c d) untied cut tie must behind =
    (λ at. absurd (is_tied c x d (sym at) untied), λ same. absurd (tie c (ap (λ (m : ℕ). Tie c m) same)))

-- a fact that lets k go from y to b ties nothing behind y, where nothing is tied to b
goes_untied : (k y b : ℕ) (facts : List Fact) (fact : Fact) → Contains facts fact → LetsGo k (After y) b fact → ((c : ℕ) → Contains facts (Tie c b) → ⊥) → tied_after y fact ≡ None
goes_untied k y b facts (Bar j c) has lets none = refl
goes_untied k y b facts (Must j c) has lets none = refl
goes_untied k y b facts (Cut c d) has lets none = refl
goes_untied k y b facts (Tie c d) has lets none =
    not_tied c y d (λ at. none c (subst (λ (m : ℕ). Contains facts (Tie c m)) (lets.0 at) has))

module _ (book : BookSeen) (k : ℕ) (marks : List Fact) (stand : Stand) (b : ℕ) (leaves : IsOpen book marks k stand b) where
  turn_is : (x : ℕ) → IsArrival book stand.port x → turn_time book k (After x) b ≡ stand.turn
  turn_is x arrival =
      ap₂ (λ (f g : Bool). cond (f && g) (int_max (type_turn book (kind_of book k)) (port_turn book (to_port book x))) (pos 0)) arrival.flight leaves.flight
      ∙ ap (λ (p : ℕ). int_max (type_turn book (kind_of book k)) (port_turn book p)) arrival.there ∙ sym leaves.turn

  -- what may wait, is alive and has waited for the turn may be flown on from
  pub usable_from : (x : ℕ) → MayWait book marks stand x → IsAlive book marks k x → stand.turn ≤ℤ gap book k (After x) b → IsUsable book marks k (After x) b
  usable_from x may alive waited =
      let turn = turn_is x may.arrival in record {
        link = record { place = may.arrival.there ∙ sym leaves.airport; time = omega (arith, ints, turn, waited); before = alive.allowed; after = leaves.alive.allowed };
        before = alive;
        after = leaves.alive;
        facts = λ i d lt. let fact = get_or marks i d in
            let has = at_place marks i d lt in
            lets_go k x b stand.floor fact ((nothing_named (tied_after x) Nothing marks may.untied).1 i d lt)
            (λ c is. leaves.uncut c (subst (Contains marks) is has)) (λ c is. leaves.untied c (subst (Contains marks) is has))
            (λ c is less. leaves.musts c less (subst (Contains marks) is has)) may.behind;
      }

  -- and a flight from which b may be flown may wait, and has waited for the turn
  pub may_wait : (y : ℕ) → y < activities book → is_flight book y ≡ true → IsUsable book marks k (After y) b → MayWait book marks stand y
  may_wait y place flight usable = record {
    arrival = record { place = place; there = usable.link.place ∙ leaves.airport; flight = flight };
    behind = elim (cases_lt (y + 1) stand.floor) [
      | inl less ↦
          let c = stand.floor - 1 in
          let must = leaves.least c (omega (arith, less)) in
          let (q, lt, is) = must.0 in
          let lets : LetsGo k (After y) b (Must k c) = subst (LetsGo k (After y) b) is (usable.facts q (Must k c) lt) in
          let most = lets refl (omega (arith, less)) in
          let early = must.1 in absurd (omega (arith, most, early))
      | inr le ↦ le
    ];
    untied = none_named (tied_after y) marks (λ i d lt. goes_untied k y b marks (get_or marks i d) (at_place marks i d lt) (usable.facts i d lt) leaves.untied);
  }

  pub has_waited : (y : ℕ) → IsArrival book stand.port y → IsUsable book marks k (After y) b → stand.turn ≤ℤ gap book k (After y) b
  has_waited y arrival usable =
      let turn = turn_is y arrival in
      let time = usable.link.time in omega (arith, ints, turn, time)
