-- Where no rule is broken, the kept plan is legal: each route is, and each activity is met, and so flown, exactly once.
-- The list of broken rules is empty only where each of its parts is, so no leg and no activity fails a test.
use Rattle.std.proofs.Common.{◌≡◌, ◌≢◌, ◌∙◌, sym, refl, ap, arith, ℕ, zero, suc, ◌+◌, ◌<◌, ◌≤◌, inl, inr, Bool, true, false, List, [], ◌++◌, map, length, replicate, pos}
use Rattle.std.specs.Prelude.{not, ◌==◌}
use Rattle.std.specs.List.{filter, range_with_len}
use Rattle.std.proofs.lemmas.Bool.{cases_Bool, eq-eqb}
use Rattle.std.proofs.lemmas.Bool.Decides.{nat_tests}
use Rattle.std.proofs.lemmas.List.FromFn.{length-map-range_with_len, get_or-map-range_with_len}
use Rattle.tail_book.specs.Seen.{BookSeen, RawPlanSeen}
use Rattle.tail_book.specs.Numbers.{contains}
use Rattle.tail_book.specs.Lookup.{activities, aircraft}
use Rattle.tail_book.specs.declared.place.Place.TheVariants.{Carry}
use Rattle.tail_book.specs.Plan.{times_flown, route_of}
use Rattle.tail_book.specs.inside.Sound.{IsBook}
use Rattle.tail_book.specs.LegalTests.{is_legal_route, are_legal_below, are_flown_once_below, is_legal_plan}
use Rattle.tail_book.specs.inside.Tests.{LegalPlanDecides}
use Rattle.tail_book.specs.Truth.{IsPlanOf}
use Rattle.plan_audit.specs.declared.met.Met.{Met}
use Rattle.plan_audit.specs.declared.broken.Broken.{Broken}
use Rattle.plan_audit.specs.declared.broken.Broken.TheVariants as rule
use Rattle.plan_audit.specs.Met.{activities_met, names_met}
use Rattle.plan_audit.specs.Kept.{route_met, kept, legs_met}
use Rattle.plan_audit.specs.inside.LegCost.{legs_cost}
use Rattle.plan_audit.specs.Rules.{unknown, twice, uncovered, not_allowed, curfews, no_links, past_limits}
use Rattle.plan_audit.specs.Broken.{broken, broken_by}
use Rattle.plan_audit.proofs.Deciding.{routes-legal}
use Rattle.plan_audit.proofs.WellMet.{names_well_met}
use Rattle.plan_audit.proofs.Along.{kept_cost, kept_times, count_one}
use Rattle.plan_audit.proofs.Legality.{both, negated, none_first, none_later, first_empty, second_empty, IsUnbroken, routes_legal_first}

-- the parts of a list that is empty are
pub record ArePartsEmpty (book : BookSeen) (met : List Met) : Type 0 where
  pub unknown : unknown met ≡ []
  pub twice : twice met ≡ []
  pub uncovered : uncovered book met ≡ []
  pub legs : IsUnbroken book (replicate (length book.rules.counters) (pos 0)) (legs_met met)

pub parts_empty : (book : BookSeen) (met : List Met) → broken_by book met ≡ [] → ArePartsEmpty book met
parts_empty book met e =
    let legs = legs_met met in
    let limits = past_limits book (replicate (length book.rules.counters) (pos 0)) legs in
    let names = unknown met ++ twice met in
    let missed = names ++ uncovered book met in
    let refused = missed ++ not_allowed book legs in
    let closed = refused ++ curfews book legs in
    let apart = closed ++ no_links book legs in
    let no_apart : apart ≡ [] = first_empty apart limits e in
    let no_closed : closed ≡ [] = first_empty closed (no_links book legs) no_apart in
    let no_refused : refused ≡ [] = first_empty refused (curfews book legs) no_closed in
    let no_missed : missed ≡ [] = first_empty missed (not_allowed book legs) no_refused in
    let no_names : names ≡ [] = first_empty names (uncovered book met) no_missed in
    record {
      unknown = first_empty (unknown met) (twice met) no_names;
      twice = second_empty (unknown met) (twice met) no_names;
      uncovered = second_empty names (uncovered book met) no_missed;
      legs = record {
        allowed = second_empty missed (not_allowed book legs) no_refused;
        open_hours = second_empty refused (curfews book legs) no_closed;
        links = second_empty closed (no_links book legs) no_apart;
        limits = second_empty apart limits e;
      };
    }

-- no number of a range passes a test, where none is left
none_passes : (f : ℕ → Broken) (p : ℕ → Bool) (s n : ℕ) → map f (filter p (range_with_len s n)) ≡ [] → (a : ℕ) → s ≤ a → a < s + n → p a ≡ false
none_passes f p s zero e a least most = absurd (omega (arith, least, most))
none_passes f p s (suc n) e a least most = elim (cases_Bool (s == a)) [
  | inl t ↦ (let same : s ≡ a = grind (arith, nat_tests) in ap p (sym same) ∙ none_first f p s (range_with_len (s + 1) n) e)
  | inr t ↦ (
      let other : s ≢ a = grind (arith, nat_tests) in
      none_passes f p (s + 1) n (none_later f p s (range_with_len (s + 1) n) e) a (omega (arith, other, least)) (omega (arith, most)))
]

once_below : (plan : List (List ℕ)) (n : ℕ) → ((a : ℕ) → a < n → times_flown plan a ≡ 1) → are_flown_once_below plan n ≡ true
once_below plan zero each = refl
once_below plan (suc n) each =
    both (times_flown plan n == 1) (are_flown_once_below plan n) (eq-eqb (times_flown plan n) 1 (each n (omega arith))) (once_below plan n (λ a lt. each a (omega (arith, lt))))

pub kept_route : (book : BookSeen) (raw : RawPlanSeen) (k : ℕ) → k < aircraft book → route_of (kept book raw) k ≡ route_met (names_met book raw) k
kept_route book raw k within = get_or-map-range_with_len (route_met (names_met book raw)) 0 (aircraft book) k k [] within (omega arith)

-- where no rule is broken, the kept plan is legal
kept_passes : (book : BookSeen) → IsBook book → (raw : RawPlanSeen) → broken book raw ≡ [] → is_legal_plan book (kept book raw) ≡ true
kept_passes book sound raw e =
    let met = names_met book raw in
    let well = names_well_met book raw in
    let parts = parts_empty book met e in
    let routes = routes_legal_first book sound met (replicate (length book.rules.counters) (pos 0)) 0 Carry well.of_book well.led parts.legs in
    let once : (a : ℕ) → a < activities book → times_flown (kept book raw) a ≡ 1 = λ a within.
    kept_times book raw a
    ∙ count_one a (activities_met met) well.activities
    (negated (contains (activities_met met) a)
    (none_passes rule.Uncovered (λ b. not (contains (activities_met met) b)) 0 (activities book) parts.uncovered a (omega arith) (omega (arith, within)))) in
    both (length (kept book raw) == aircraft book) _ (eq-eqb (length (kept book raw)) (aircraft book) (length-map-range_with_len (route_met met) 0 (aircraft book)))
    (both (are_legal_below book (kept book raw) (aircraft book)) _
    (routes-legal book (kept book raw) (aircraft book) (λ k within. ap (is_legal_route book k) (kept_route book raw k within) ∙ routes k))
    (once_below (kept book raw) (activities book) once))

pub unbroken_is_legal : LegalPlanDecides → (book : BookSeen) → IsBook book → (raw : RawPlanSeen) → broken book raw ≡ []
    → IsPlanOf book (legs_cost book (legs_met (names_met book raw))) (kept book raw)
unbroken_is_legal decides book sound raw e = record {
  legal = (decides book (kept book raw)).0 (kept_passes book sound raw e);
  costs = kept_cost book raw;
}
