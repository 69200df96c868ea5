-- The tests of legality decide their facts: each is true exactly where the fact of its name holds.
--
-- A test joins the tests of the fact's parts, so each part is decided by itself. Routes and counters go by induction on
-- their lists; where there are more values than counters, or fewer, the test is false and the fact is absurd.
use Rattle.std.specs.Prelude.{⊤, int_lt, not, ◌==◌}
use Rattle.std.proofs.Common.{◌≡◌, ℕ, ℤ, ◌+ℤ◌, ◌≤ℤ◌, Bool, true, false, arith, List, [], ◌∷◌, refl, sym, length}
use lib.Signed.{◌<ℤ◌}
use Rattle.std.proofs.lemmas.Int.{ints, by_lt_z}
use Rattle.std.proofs.lemmas.Bool.{both_ways}
use Rattle.std.proofs.lemmas.Bool.Decides.{Decides-eqb, Decides-ltb, Decides-and, Decides-not, Decides-like, Decides-below_and}
use Rattle.std.specs.Bool.{Decides}
use Rattle.tail_book.specs.Seen.{CounterSeen, BookSeen}
use Rattle.tail_book.specs.declared.place.Place.{Place}
use Rattle.tail_book.specs.declared.place.Place.TheVariants.{Carry, After}
use Rattle.tail_book.specs.Numbers.{contains, int_le}
use Rattle.tail_book.specs.Lookup.{activities, aircraft, carry_of, from_port, to_port, start_of, avoided}
use Rattle.tail_book.specs.Curfew.{is_curfewed}
use Rattle.tail_book.specs.Allowed.{IsAllowed, is_permitted}
use Rattle.tail_book.specs.Link.{port, free_from, turn_time, IsLink, IsAllowedAt, is_connected}
use Rattle.tail_book.specs.Counters.{step, WithinLimits}
use Rattle.tail_book.specs.Route.{IsLegalFrom, IsLegalRoute}
use Rattle.tail_book.specs.Plan.{times_flown, route_of, IsLegalPlan}
use Rattle.tail_book.specs.LegalTests.{is_allowed, is_allowed_at, is_link, within_limits, is_legal_from, is_legal_route, are_legal_below, are_flown_once_below, is_legal_plan}

pub always : Decides true ⊤
always = ((λ h. tt), (λ h. refl))

pub never : Decides false ⊥
never = ((λ h. both_ways false refl h), (λ h. absurd h))

pub same_test : (b : Bool) → Decides b (b ≡ true)
same_test b = ((λ h. h), (λ h. h))

none_test : (b : Bool) → Decides (not b) (b ≡ false)
none_test true = ((λ h. sym h), (λ h. sym h))
none_test false = ((λ h. refl), (λ h. refl))

pub int_lt_tested : (a b : ℤ) → Decides (int_lt a b) (a <ℤ b)
int_lt_tested a b = grind (arith, ints)

pub int_le_tested : (a b : ℤ) → Decides (int_le a b) (a ≤ℤ b)
int_le_tested a b = Decides-like (int_le a b) (λ n. by_lt_z b a (λ l. absurd (n l)) (λ h. h)) (λ h l. absurd (omega (arith, ints, h, l))) (Decides-not (int_lt b a) (int_lt_tested b a))

pub allowed_tested : (book : BookSeen) (k a : ℕ) → Decides (is_allowed book k a) (IsAllowed book k a)
unfolding is_allowed is_permitted
allowed_tested book k a =
    Decides-like (is_allowed book k a)
    (λ h.
    record {
      aircraft = h.0;
      activity = h.1.0;
      type = h.1.1.0.0;
      tags = h.1.1.0.1.0;
      leaves = h.1.1.0.1.1.0;
      arrives = h.1.1.0.1.1.1.0;
      assigned = h.1.1.0.1.1.1.1;
      open_hours = h.1.1.1;
    })
    (λ r. (r.aircraft, (r.activity, ((r.type, (r.tags, (r.leaves, (r.arrives, r.assigned)))), r.open_hours))))
    (Decides-and _ _ (Decides-ltb k (aircraft book)) (Decides-and _ _ (Decides-ltb a (activities book))
    (Decides-and _ _
    (Decides-and _ _ (same_test _) (Decides-and _ _ (same_test _)
    (Decides-and _ _ (none_test (contains (avoided book k) (from_port book a)))
    (Decides-and _ _ (none_test (contains (avoided book k) (to_port book a))) (same_test _)))))
    (none_test (is_curfewed book k a)))))

allowed_at_tested : (book : BookSeen) (k : ℕ) (x : Place) → Decides (is_allowed_at book k x) (IsAllowedAt book k x)
allowed_at_tested book k Carry = always
allowed_at_tested book k (After x) = allowed_tested book k x

pub link_tested : (book : BookSeen) (k : ℕ) (x : Place) (b : ℕ) → Decides (is_link book k x b) (IsLink book k x b)
unfolding is_link is_connected
link_tested book k x b =
    Decides-like (is_link book k x b) (λ h. record { place = h.0.0; time = h.0.1; before = h.1.0; after = h.1.1 }) (λ l. ((l.place, l.time), (l.before, l.after)))
    (Decides-and _ _
    (Decides-and _ _ (Decides-eqb (port book k x) (from_port book b)) (int_le_tested (free_from book k x +ℤ turn_time book k x b) (start_of book b)))
    (Decides-and _ _ (allowed_at_tested book k x) (allowed_tested book k b)))

pub within_tested : (counters : List CounterSeen) (values : List ℤ) → Decides (within_limits counters values) (WithinLimits counters values)
within_tested [] [] = always
within_tested [] (value ∷ values) = never
within_tested (counter ∷ counters) [] = never
within_tested (counter ∷ counters) (value ∷ values) = Decides-and _ _ (int_le_tested value counter.limit) (within_tested counters values)

legal_from_tested : (book : BookSeen) (k : ℕ) (x : Place) (values : List ℤ) (route : List ℕ) → Decides (is_legal_from book k x values route) (IsLegalFrom book k x values route)
legal_from_tested book k x values [] = always
legal_from_tested book k x values (b ∷ rest) =
    Decides-like (is_legal_from book k x values (b ∷ rest)) (λ h. (h.0, h.1.0, h.1.1.0, h.1.1.1)) (λ h. (h.0, (h.1, (h.2, h.3))))
    (Decides-and _ _ (Decides-ltb b (activities book)) (Decides-and _ _ (link_tested book k x b)
    (Decides-and _ _ (within_tested book.rules.counters (step book k x b values)) (legal_from_tested book k (After b) (step book k x b values) rest))))

pub legal_route_tested : (book : BookSeen) (k : ℕ) (route : List ℕ) → Decides (is_legal_route book k route) (IsLegalRoute book k route)
legal_route_tested book k route = legal_from_tested book k Carry (carry_of book k) route

pub legal_plan_tested : (book : BookSeen) (plan : List (List ℕ)) → Decides (is_legal_plan book plan) (IsLegalPlan book plan)
legal_plan_tested book plan =
    Decides-like (is_legal_plan book plan) (λ h. record { one_each = h.0; routes = h.1.0; partition = h.1.1 }) (λ l. (l.one_each, (l.routes, l.partition)))
    (Decides-and _ _ (Decides-eqb (length plan) (aircraft book)) (Decides-and _ _
    (Decides-below_and (λ k. is_legal_route book k (route_of plan k)) (λ k. IsLegalRoute book k (route_of plan k)) (are_legal_below book plan) (λ k. legal_route_tested book k (route_of plan k)) refl (λ k. refl) (aircraft book))
    (Decides-below_and (λ a. times_flown plan a == 1) (λ a. times_flown plan a ≡ 1) (are_flown_once_below plan) (λ a. Decides-eqb (times_flown plan a) 1) refl (λ a. refl) (activities book))))
