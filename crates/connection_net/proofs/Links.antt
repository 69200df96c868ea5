-- A link of the network is a common aircraft of three sets: those that may fly a, those that may fly b, and those whose
-- type turns in the stop between. The sets are filled aircraft by aircraft, and have nobody who is not of the book.
-- Where a ends at the airport at which b starts, a common aircraft is one that has the link, and the other way round;
-- where it does not, nobody has the link. The odd case is a stop in which no turn is in time: each type's turn is a day
-- at most, so nobody turns in it.
use Rattle.std.proofs.Common.{◌≡◌, ◌≢◌, ◌∙◌, ℕ, pos, ◌+◌, ◌-◌, ◌<◌, arith, ap, refl, sym, Bool, true, false, None, Some, get_or}
use Rattle.std.specs.Prelude.{◌&&◌, ◌||◌, nat_eq, nat_lt, IsTrue}
use Rattle.std.specs.List.{list_any, range_with_len}
use Rattle.std.specs.Bool.{Decides}
use Rattle.std.proofs.lemmas.Bool.{and_parts, both_ways, eq-eqb, ne_eqb}
use Rattle.std.proofs.lemmas.Bool.Decides.{nat_tests, Decides-like, same_from_decides}
use Rattle.std.proofs.lemmas.List.Folds.{Any-from_list_any, list_any_at}
use Rattle.std.proofs.lemmas.List.FromFn.{length-range_with_len, get_or-range_with_len}
use Rattle.tail_book.specs.Seen.{BookSeen}
use Rattle.tail_book.specs.declared.place.Place.TheVariants.{After}
use Rattle.tail_book.specs.Lookup.{aircraft, kind_of, type_turn, no_tail, no_type}
use Rattle.tail_book.specs.Ranges.{IsWithin}
use Rattle.tail_book.specs.inside.Sound.{IsBook}
use Rattle.tail_book.specs.LegalTests.{is_allowed, is_link}
use Rattle.tail_book.specs.Link.{is_connected}
use Rattle.connection_net.specs.declared.aircraft_set.AircraftSet.{AircraftSet}
use Rattle.connection_net.specs.declared.link_table.Leg.{Leg}
use Rattle.connection_net.specs.inside.AircraftSet.{has}
use Rattle.connection_net.specs.inside.LinkTable.{AreTurnedIn, IsAskedStop, IsFlownOn, IsLegOf, is_turned}
use Rattle.connection_net.specs.Net.{is_linked}

-- none of no aircraft, and one aircraft more
pub none_yet : (b p : Bool) (i : ℕ) → b ≡ false → b ≡ (nat_lt i 0 && p)
none_yet b p i h = grind (arith, nat_tests)

more_at : (i k : ℕ) (pi pk : Bool) → (i ≡ k → pi ≡ pk) → ((nat_lt i k && pi) || (pk && nat_eq i k)) ≡ (nat_lt i (k + 1) && pi)
more_at i k pi pk same = grind (arith, nat_tests)

pub one_more : (p : ℕ → Bool) (i k : ℕ) (old holds : Bool) → old ≡ (nat_lt i k && p i) → holds ≡ p k → (old || (holds && nat_eq i k)) ≡ (nat_lt i (k + 1) && p i)
one_more p i k old holds so here = rw (so, here) (more_at i k (p i) (p k) (λ e. ap p e))

-- only aircraft of the book are allowed anything
pub allowed_is_below : (book : BookSeen) (i a : ℕ) → (nat_lt i (aircraft book) && is_allowed book i a) ≡ is_allowed book i a
unfolding is_allowed
allowed_is_below book i a = grind arith

lt_and : (k n : ℕ) → k < n → (p : Bool) → (nat_lt k n && p) ≡ p
lt_and k n lt p = grind (arith, nat_tests)

below_from : (k n : ℕ) (p b : Bool) → b ≡ (nat_lt k n && p) → b ≡ true → k < n
below_from k n p b so h = grind (arith, nat_tests)

apart : (p t f : Bool) → p ≡ false → ((p && t) && f) ≡ true → ⊥
apart p t f unfit all = grind arith

-- a test of the numbers below n: one of them passes
pub any_below : (p : ℕ → Bool) (n : ℕ) → Decides (list_any p (range_with_len 0 n)) ((k : ℕ) × (k < n) × (p k ≡ true))
any_below p n =
    let long = length-range_with_len 0 n in (
      (λ h.
          let found = Any-from_list_any p (range_with_len 0 n) h in
          let lt : found.0 < n = omega (arith, found.2, long) in
          let same : found.1 ≡ 0 + found.0 = sym found.3 ∙ get_or-range_with_len 0 n found.0 found.1 lt in
          (found.1, omega (arith, same, lt), found.4)),
      (λ one.
          let at : get_or (range_with_len 0 n) one.0 0 ≡ one.0 = get_or-range_with_len 0 n one.0 0 one.1 ∙ omega arith in
          list_any_at p (range_with_len 0 n) one.0 0 (omega (arith, one.1, long)) (ap p at ∙ one.2)),
    )

-- a type's turn is at most a day
turn_within : (book : BookSeen) → IsBook book → (k : ℕ) → k < aircraft book → IsWithin (pos 0) (pos 1440) (type_turn book (kind_of book k))
turn_within book sound k lt = (sound.rules.kinds (kind_of book k) no_type (sound.tails k no_tail lt).kind).turn

-- where no turn is in time, no aircraft turns
pub none_turns : (book : BookSeen) (before after : Leg) → IsBook book → IsAskedStop before after None → IsFlownOn book before after → ⊥
none_turns book before after sound none flown =
    let k = flown.0 in
    let turned = (and_parts (has after.fliers k) _ (and_parts (has before.fliers k) _ flown.2).1).1 in
    both_ways _ (none (type_turn book (kind_of book k)) (turn_within book sound k flown.1)) turned

-- the set of the stop has those who turn
turns_alike : (book : BookSeen) (before after : Leg) (stop k : ℕ) (set : AircraftSet) → IsBook book → IsAskedStop before after (Some stop) → AreTurnedIn book stop set
    → k < aircraft book → has set k ≡ is_turned before after (type_turn book (kind_of book k))
turns_alike book before after stop k set sound asked sets lt =
    sets k ∙ lt_and _ _ lt _ ∙ sym (asked.1 (type_turn book (kind_of book k)) (turn_within book sound k lt))

pub flown_from_meeting : (book : BookSeen) (before after : Leg) (stop : ℕ) (set : AircraftSet) → IsBook book → IsAskedStop before after (Some stop) → AreTurnedIn book stop set
    → (k : ℕ) → IsTrue (has before.fliers k && (has after.fliers k && has set k)) → IsFlownOn book before after
flown_from_meeting book before after stop set sound asked sets k met =
    let in_set = (and_parts (has after.fliers k) _ (and_parts (has before.fliers k) _ met).1).1 in
    let lt = below_from k (aircraft book) _ _ (sets k) in_set in
    (k, lt, rw (← turns_alike book before after stop k set sound asked sets lt) met)

pub meeting_from_flown : (book : BookSeen) (before after : Leg) (stop : ℕ) (set : AircraftSet) → IsBook book → IsAskedStop before after (Some stop) → AreTurnedIn book stop set
    → IsFlownOn book before after → (k : ℕ) × IsTrue (has before.fliers k && (has after.fliers k && has set k))
meeting_from_flown book before after stop set sound asked sets flown =
    (flown.0, rw (turns_alike book before after stop flown.0 set sound asked sets flown.1) flown.2)

-- a link by the rows of its activities
link_is : (book : BookSeen) (a b : ℕ) (before after : Leg) → IsLegOf book a before → IsLegOf book b after → (k : ℕ)
    → is_link book k (After a) b
    ≡ ((nat_eq before.to after.from && is_turned before after (type_turn book (kind_of book k))) && (has before.fliers k && has after.fliers k))
unfolding is_link is_connected
link_is book a b before after la lb k =
    rw (la.to, lb.from, la.end, la.flight, lb.flight, la.turn, lb.start, la.fliers k, lb.fliers k) refl

both_fly : (t fa fb : Bool) → ((true && t) && (fa && fb)) ≡ true → (fa && (fb && t)) ≡ true
both_fly t fa fb h = grind arith

fly_both : (t fa fb : Bool) → (fa && (fb && t)) ≡ true → ((true && t) && (fa && fb)) ≡ true
fly_both t fa fb h = grind arith

-- where the airports are one, some aircraft has the link exactly where some aircraft flies on
pub linked_there : (book : BookSeen) (a b : ℕ) (before after : Leg) (flown : Bool) → IsLegOf book a before → IsLegOf book b after → before.to ≡ after.from
    → Decides flown (IsFlownOn book before after) → flown ≡ is_linked book a b
linked_there book a b before after flown la lb same decided =
    let place = eq-eqb before.to after.from same in
    let turned = λ (k : ℕ). is_turned before after (type_turn book (kind_of book k)) in
    same_from_decides flown (is_linked book a b) decided
    (Decides-like (is_linked book a b)
    (λ one. (one.0, one.1, both_fly (turned one.0) _ _ (ap (λ p. (p && turned one.0) && (has before.fliers one.0 && has after.fliers one.0)) (sym place) ∙ sym (link_is book a b before after la lb one.0) ∙ one.2)))
    (λ one. (one.0, one.1, link_is book a b before after la lb one.0 ∙ ap (λ p. (p && turned one.0) && (has before.fliers one.0 && has after.fliers one.0)) place ∙ fly_both (turned one.0) _ _ one.2))
    (any_below (λ k. is_link book k (After a) b) (aircraft book)))

-- where they are not, nobody has it
pub linked_elsewhere : (book : BookSeen) (a b : ℕ) (before after : Leg) → IsLegOf book a before → IsLegOf book b after → before.to ≢ after.from
    → false ≡ is_linked book a b
linked_elsewhere book a b before after la lb other =
    same_from_decides false (is_linked book a b) ((λ h. both_ways false refl h), (λ h. absurd h))
    (Decides-like (is_linked book a b)
    (λ one. apart _ _ _ (ne_eqb before.to after.from other) (sym (link_is book a b before after la lb one.0) ∙ one.2))
    (λ h. absurd h)
    (any_below (λ k. is_link book k (After a) b) (aircraft book)))
