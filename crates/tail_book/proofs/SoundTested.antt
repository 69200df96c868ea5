-- The tests of books and cost tables decide their facts: each joins the tests of the fact's parts.
--
-- Two need more than that. That names differ, and that activities are in order, is tested of each element beside the
-- later ones, by induction on the list. A limit of days is a whole number of days as a fact, and in the test a number
-- of minutes with no rest when divided by 1,440.
use Rattle.std.proofs.Common.{◌≡◌, ◌≤◌, ◌<◌, ◌+◌, ◌*◌, ◌/◌, ◌%◌, ◌^◌, ℕ, ℤ, pos, negsuc, Bool, true, arith, ap, List, [], ◌∷◌, refl, length, suc}
use Rattle.std.proofs.Math.Nat.{mul-mod_left}
use Rattle.std.proofs.lemmas.Int.{ints}
use Rattle.std.proofs.lemmas.Bool.Decides.{Decides-eqb, Decides-ltb, Decides-and, Decides-not, Decides-like, Decides-by_and}
use Rattle.std.proofs.lemmas.List.Kept.{AllPairs-cons}
use Rattle.std.proofs.lemmas.Slice.Eq.{bytes_eq-Decides}
use Rattle.std.specs.Prelude.{All, AllPairs, nat_lt, nat_le, not, bytes_eq, unsigned_abs, ◌+ℤ◌, ◌<ℤ◌, ◌≢◌}
use Rattle.std.specs.List.{list_all}
use Rattle.std.specs.Bool.{Decides}
use Rattle.tail_book.specs.Seen.{ActivitySeen, TailSeen, CurfewSeen, CounterSeen, AirportSeen, RulesSeen, BookSeen}
use Rattle.tail_book.specs.TableSeen.{CostTableSeen}
use Rattle.tail_book.specs.declared.rules.AircraftType.{AircraftType}
use Rattle.tail_book.specs.declared.rules.Band.{Band}
use Rattle.tail_book.specs.declared.rules.Change.{Change}
use Rattle.tail_book.specs.declared.rules.CounterKind.{CounterKind}
use Rattle.tail_book.specs.declared.rules.CounterKind.TheVariants.{Minutes, Landings, Days}
use Rattle.tail_book.specs.Name.{is_name}
use Rattle.tail_book.specs.Ranges.{IsWithin}
use Rattle.tail_book.specs.inside.Sound.{IsLimit, IsActivity, IsTail, IsKind, IsAirport, IsCurfew, IsCounter, IsBand, IsRules, IsBook, is_none_or_below, IsOffset}
use Rattle.tail_book.specs.ActivityOrder.{comes_before}
use Rattle.tail_book.specs.CostTable.{box_end, cost_unit, greatest_cost_in, IsCostTable}
use Rattle.tail_book.specs.Pairs.{each_pair}
use Rattle.tail_book.specs.inside.SoundTests.{is_within, are_below, is_activity, is_tail, is_kind, is_airport, is_curfew, is_limit, is_counter, is_band, are_rules, is_book, is_cost_table, is_offset, is_change, comes_sooner}
use Rattle.tail_book.proofs.Deciding.{int_le_tested, int_lt_tested, same_test}

at_most_tested : (a b : ℕ) → Decides (nat_le a b) (a ≤ b)
at_most_tested a b = grind arith

within_tested : (low high z : ℤ) → Decides (is_within low high z) (IsWithin low high z)
within_tested low high z = Decides-like (is_within low high z) (λ h. record { least = h.0; most = h.1 }) (λ r. (r.least, r.most)) (Decides-and _ _ (int_le_tested low z) (int_le_tested z high))

all_tested : {X : Type 0} (test : X → Bool) (P : X → Type 0) → ((x : X) → Decides (test x) (P x)) → (xs : List X) → Decides (list_all test xs) (All P xs)
all_tested test P each xs = Decides-by_and test P (list_all test) each refl (λ _ _. refl) xs

below_tested : (n : ℕ) (xs : List ℕ) → Decides (are_below n xs) (All (λ x. x < n) xs)
below_tested n xs = all_tested (λ x. nat_lt x n) (λ x. x < n) (λ x. Decides-ltb x n) xs

-- each element beside the later ones: the first beside all others, and these among themselves
pairs_tested : {X : Type 0} (test : X → X → Bool) (R : X → X → Type 0) → ((x y : X) → Decides (test x y) (R x y)) → (xs : List X) → Decides (each_pair test xs) (AllPairs R xs)
pairs_tested test R each [] = ((λ e i j d l m. absurd (omega (arith, m))), (λ h. refl))
pairs_tested test R each (x ∷ xs) =
    Decides-like (each_pair test (x ∷ xs)) (λ h. AllPairs-cons R x xs h.0 h.1)
    (λ h. ((λ k d l. h 0 (suc k) d (omega arith) (omega (arith, l))), (λ i j d l m. h (suc i) (suc j) d (omega (arith, l)) (omega (arith, m)))))
    (Decides-and _ _ (all_tested (test x) (R x) (each x) xs) (pairs_tested test R each xs))

differ_tested : (a b : List ℕ) → Decides (not (bytes_eq a b)) (a ≢ b)
differ_tested a b = Decides-not (bytes_eq a b) (bytes_eq-Decides a b)

activity_tested : (rules : RulesSeen) (aircraft : ℕ) (a : ActivitySeen) → Decides (is_activity rules aircraft a) (IsActivity rules aircraft a)
activity_tested rules aircraft a =
    let timed = Decides-and _ _ (within_tested (pos 0) (pos 120_968_639) a.start) (Decides-and _ _ (within_tested (pos 0) (pos 120_968_639) a.end)
    (Decides-and _ _ (int_le_tested (a.start +ℤ pos 1) a.end) (int_le_tested a.end (a.start +ℤ pos 2880)))) in
    let named = Decides-and _ _ (Decides-ltb a.from (length rules.airports)) (Decides-and _ _ (Decides-ltb a.to (length rules.airports))
    (Decides-and _ _ (below_tested (length rules.kinds) a.types) (Decides-and _ _ (same_test (is_none_or_below a.tail aircraft)) (below_tested (length rules.counters) a.resets)))) in
    let short = Decides-and _ _ (at_most_tested (length a.types) 20) (Decides-and _ _ (at_most_tested (length a.tags) 20) (at_most_tested (length a.resets) 20)) in
    Decides-like (is_activity rules aircraft a)
    (λ h. record {
      id = h.0;
      start = h.1.0.0;
      end = h.1.0.1.0;
      lasts = h.1.0.1.1.0;
      short = h.1.0.1.1.1;
      from = h.1.1.0.0;
      to = h.1.1.0.1.0;
      types = h.1.1.0.1.1.0;
      tail = h.1.1.0.1.1.1.0;
      resets = h.1.1.0.1.1.1.1;
      few_types = h.1.1.1.0;
      few_tags = h.1.1.1.1.0;
      few_resets = h.1.1.1.1.1;
    })
    (λ r. (r.id, ((r.start, (r.end, (r.lasts, r.short))), ((r.from, (r.to, (r.types, (r.tail, r.resets)))), (r.few_types, (r.few_tags, r.few_resets))))))
    (Decides-and _ _ (same_test (is_name a.id)) (Decides-and _ _ timed (Decides-and _ _ named short)))

tail_tested : (rules : RulesSeen) (t : TailSeen) → Decides (is_tail rules t) (IsTail rules t)
tail_tested rules t =
    let comes = Decides-and _ _ (Decides-ltb t.kind (length rules.kinds)) (Decides-and _ _ (Decides-ltb t.at (length rules.airports))
    (Decides-and _ _ (within_tested (pos 0) (pos 120_968_639) t.ready) (at_most_tested t.fixed 100_000))) in
    let marked = Decides-and _ _ (at_most_tested (length t.tags) 20) (Decides-and _ _ (below_tested (length rules.airports) t.avoid) (at_most_tested (length t.avoid) 20)) in
    let carried = Decides-and _ _ (all_tested (is_within (pos 0) (pos 10_000_000)) (IsWithin (pos 0) (pos 10_000_000)) (within_tested (pos 0) (pos 10_000_000)) t.carry)
    (Decides-eqb (length t.carry) (length rules.counters)) in
    Decides-like (is_tail rules t)
    (λ h. record {
      name = h.0;
      kind = h.1.0.0;
      at = h.1.0.1.0;
      ready = h.1.0.1.1.0;
      fixed = h.1.0.1.1.1;
      few_tags = h.1.1.0.0;
      avoid = h.1.1.0.1.0;
      few_avoided = h.1.1.0.1.1;
      carry = h.1.1.1.0;
      one_carry_each = h.1.1.1.1;
    })
    (λ r. (r.name, ((r.kind, (r.at, (r.ready, r.fixed))), ((r.few_tags, (r.avoid, r.few_avoided)), (r.carry, r.one_carry_each)))))
    (Decides-and _ _ (same_test (is_name t.name)) (Decides-and _ _ comes (Decides-and _ _ marked carried)))

kind_tested : (t : AircraftType) → Decides (is_kind t) (IsKind t)
kind_tested t =
    Decides-like (is_kind t) (λ h. record { name = h.0; rate = h.1.0; turn = h.1.1 }) (λ r. (r.name, (r.rate, r.turn)))
    (Decides-and _ _ (same_test (is_name t.name)) (Decides-and _ _ (at_most_tested t.rate 300) (within_tested (pos 0) (pos 1440) t.turn)))

offset_tested : (z : ℤ) → Decides (is_offset z) (IsOffset z)
offset_tested z = within_tested (negsuc 839) (pos 840) z

airport_tested : (p : AirportSeen) → Decides (is_airport p) (IsAirport p)
airport_tested p =
    let changes = all_tested is_change (λ change. IsOffset change.offset) (λ change. offset_tested change.offset) p.changes in
    let rising = pairs_tested comes_sooner (λ (a b : Change). a.at <ℤ b.at) (λ a b. int_lt_tested a.at b.at) p.changes in
    Decides-like (is_airport p)
    (λ h. record { name = h.0; offset = h.1.0; turn = h.1.1.0; changes = h.1.1.1.0; rising = h.1.1.1.1 })
    (λ r. (r.name, (r.offset, (r.turn, (r.changes, r.rising)))))
    (Decides-and _ _ (same_test (is_name p.name)) (Decides-and _ _ (offset_tested p.offset)
    (Decides-and _ _ (within_tested (pos 0) (pos 1440) p.turn) (Decides-and _ _ changes rising))))

curfew_tested : (rules : RulesSeen) (c : CurfewSeen) → Decides (is_curfew rules c) (IsCurfew rules c)
curfew_tested rules c =
    Decides-like (is_curfew rules c) (λ h. record { airport = h.0; from = h.1.0; to = h.1.1.0; types = h.1.1.1.0; few_types = h.1.1.1.1 }) (λ r. (r.airport, (r.from, (r.to, (r.types, r.few_types)))))
    (Decides-and _ _ (Decides-ltb c.airport (length rules.airports)) (Decides-and _ _ (within_tested (pos 0) (pos 1439) c.from) (Decides-and _ _ (within_tested (pos 0) (pos 1439) c.to)
    (Decides-and _ _ (below_tested (length rules.kinds) c.types) (at_most_tested (length c.types) 20)))))

-- whole days, in minutes
days_of : (limit : ℤ) → IsWithin (pos 1440) (pos 14_400_000) limit × (unsigned_abs limit % 1440 ≡ 0) → IsLimit Days limit
days_of (pos m) h =
    let whole : m ≡ m / 1440 * 1440 = omega (arith, h.1) in
    let most : m ≤ 14_400_000 = omega (arith, ints, h.0.most) in
    let least : 1440 ≤ m = omega (arith, ints, h.0.least) in
    (pos (m / 1440), ap pos whole, record { least = omega (arith, ints, whole, least); most = omega (arith, ints, whole, most) })
days_of (negsuc m) h = absurd (omega (arith, ints, h.0.least))

minutes_of : (limit : ℤ) → IsLimit Days limit → IsWithin (pos 1440) (pos 14_400_000) limit × (unsigned_abs limit % 1440 ≡ 0)
minutes_of limit (pos d, is, within) = rw is (record { least = omega (arith, ints, within.least); most = omega (arith, ints, within.most) }, mul-mod_left d 1440)
minutes_of limit (negsuc d, is, within) = absurd (omega (arith, ints, within.least))

limit_tested : (kind : CounterKind) (limit : ℤ) → Decides (is_limit kind limit) (IsLimit kind limit)
limit_tested Minutes limit = within_tested (pos 1) (pos 10_000_000) limit
limit_tested Landings limit = within_tested (pos 1) (pos 10_000_000) limit
limit_tested Days limit =
    Decides-like (is_limit Days limit) (days_of limit) (minutes_of limit)
    (Decides-and _ _ (within_tested (pos 1440) (pos 14_400_000) limit) (Decides-eqb (unsigned_abs limit % 1440) 0))

counter_tested : (rules : RulesSeen) (c : CounterSeen) → Decides (is_counter rules c) (IsCounter rules c)
counter_tested rules c =
    Decides-like (is_counter rules c) (λ h. record { name = h.0; limit = h.1.0; bases = h.1.1.0; few_bases = h.1.1.1.0; stop = h.1.1.1.1 }) (λ r. (r.name, (r.limit, (r.bases, (r.few_bases, r.stop)))))
    (Decides-and _ _ (same_test (is_name c.name)) (Decides-and _ _ (limit_tested c.kind c.limit) (Decides-and _ _ (below_tested (length rules.airports) c.bases)
    (Decides-and _ _ (at_most_tested (length c.bases) 200) (within_tested (pos 1) (pos 100_000) c.stop)))))

band_tested : (b : Band) → Decides (is_band b) (IsBand b)
band_tested b =
    Decides-like (is_band b) (λ h. record { upto = h.0; cost = h.1 }) (λ r. (r.upto, r.cost))
    (Decides-and _ _ (within_tested (pos 0) (pos 10_000_000) b.upto) (at_most_tested b.cost 1_000_000))

rules_tested : (rules : RulesSeen) → Decides (are_rules rules) (IsRules rules)
rules_tested rules =
    let kinds = Decides-and _ _ (at_most_tested (length rules.kinds) 20) (Decides-and _ _ (all_tested is_kind IsKind kind_tested rules.kinds)
    (pairs_tested (λ a b. not (bytes_eq a.name b.name)) (λ a b. a.name ≢ b.name) (λ a b. differ_tested a.name b.name) rules.kinds)) in
    let airports = Decides-and _ _ (at_most_tested (length rules.airports) 200) (Decides-and _ _ (all_tested is_airport IsAirport airport_tested rules.airports)
    (pairs_tested (λ a b. not (bytes_eq a.name b.name)) (λ a b. a.name ≢ b.name) (λ a b. differ_tested a.name b.name) rules.airports)) in
    let curfews = Decides-and _ _ (at_most_tested (length rules.curfews) 400) (all_tested (is_curfew rules) (IsCurfew rules) (curfew_tested rules) rules.curfews) in
    let counters = Decides-and _ _ (at_most_tested (length rules.counters) 6) (Decides-and _ _ (all_tested (is_counter rules) (IsCounter rules) (counter_tested rules) rules.counters)
    (pairs_tested (λ a b. not (bytes_eq a.name b.name)) (λ a b. a.name ≢ b.name) (λ a b. differ_tested a.name b.name) rules.counters)) in
    let bands = Decides-and _ _ (at_most_tested (length rules.bands) 8) (all_tested is_band IsBand band_tested rules.bands) in
    Decides-like (are_rules rules)
    (λ h. record {
      few_kinds = h.0.0;
      kinds = h.0.1.0;
      kind_names = h.0.1.1;
      few_airports = h.1.0.0;
      airports = h.1.0.1.0;
      airport_names = h.1.0.1.1;
      few_curfews = h.1.1.0.0;
      curfews = h.1.1.0.1;
      few_counters = h.1.1.1.0.0;
      counters = h.1.1.1.0.1.0;
      counter_names = h.1.1.1.0.1.1;
      few_bands = h.1.1.1.1.0;
      bands = h.1.1.1.1.1;
    })
    (λ r. ((r.few_kinds, (r.kinds, r.kind_names)), ((r.few_airports, (r.airports, r.airport_names)), ((r.few_curfews, r.curfews), ((r.few_counters, (r.counters, r.counter_names)), (r.few_bands, r.bands))))))
    (Decides-and _ _ kinds (Decides-and _ _ airports (Decides-and _ _ curfews (Decides-and _ _ counters bands))))

pub book_tested : (book : BookSeen) → Decides (is_book book) (IsBook book)
book_tested book =
    let tails = Decides-and _ _ (at_most_tested (length book.tails) 200) (Decides-and _ _ (all_tested (is_tail book.rules) (IsTail book.rules) (tail_tested book.rules) book.tails)
    (pairs_tested (λ a b. not (bytes_eq a.name b.name)) (λ a b. a.name ≢ b.name) (λ a b. differ_tested a.name b.name) book.tails)) in
    let ordered = pairs_tested comes_before (λ a b. comes_before a b ≡ true) (λ a b. same_test (comes_before a b)) book.activities in
    let ids = pairs_tested (λ a b. not (bytes_eq a.id b.id)) (λ a b. a.id ≢ b.id) (λ a b. differ_tested a.id b.id) book.activities in
    let activities = Decides-and _ _ (at_most_tested (length book.activities) 4000)
    (Decides-and _ _ (all_tested (is_activity book.rules (length book.tails)) (IsActivity book.rules (length book.tails)) (activity_tested book.rules (length book.tails)) book.activities) (Decides-and _ _ ordered ids)) in
    Decides-like (is_book book)
    (λ h. record {
      rules = h.0;
      few_tails = h.1.0.0;
      tails = h.1.0.1.0;
      tail_names = h.1.0.1.1;
      few_activities = h.1.1.0;
      activities = h.1.1.1.0;
      ordered = h.1.1.1.1.0;
      ids = h.1.1.1.1.1;
    })
    (λ r. (r.rules, ((r.few_tails, (r.tails, r.tail_names)), (r.few_activities, (r.activities, (r.ordered, r.ids))))))
    (Decides-and _ _ (rules_tested book.rules) (Decides-and _ _ tails activities))

pub cost_table_tested : (table : CostTableSeen) → Decides (is_cost_table table) (IsCostTable table)
cost_table_tested table =
    let fly = all_tested (λ cost. nat_le cost table.fly_max) (λ cost. cost ≤ table.fly_max) (λ cost. at_most_tested cost table.fly_max) table.fly in
    let bands = all_tested (λ band. nat_le band.cost table.band_max) (λ band. band.cost ≤ table.band_max) (λ band. at_most_tested band.cost table.band_max) table.bands in
    Decides-like (is_cost_table table) (λ h. record { fly = h.0; bands = h.1.0; sums = h.1.1 }) (λ r. (r.fly, (r.bands, r.sums)))
    (Decides-and _ _ fly (Decides-and _ _ bands (at_most_tested (table.n * box_end table + cost_unit * greatest_cost_in table) (2 ^ 61))))
