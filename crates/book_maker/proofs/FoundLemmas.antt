-- What an entry keeps by itself it keeps with numbers in place of names, and its numbers are of the book.
--
-- A number that was found is the place of a name in a list, and so is below the list's length; a list of numbers is as
-- long as the list of names that it stands for; every other field is the record's own.
use Rattle.std.proofs.Common.{◌≡◌, ◌∙◌, ◌<◌, ℕ, ℤ, pos, Bool, true, false, not, cond, nat_lt, [], ◌∷◌, ◌++◌, List, length, map, replicate, slice_set, All, Option, Some, None, IsTrue, Result, Ok, Err, ap, arith, refl, sym}
use Rattle.std.specs.List.{position_or_len}
use Rattle.std.specs.Option.{ok_or}
use Rattle.std.specs.Str.{bytes_eq}
use Rattle.std.proofs.lemmas.Bool.Decides.{nat_tests}
use Rattle.std.proofs.lemmas.Int.{ints}
use Rattle.std.proofs.lemmas.List.{length-map, length-set, length-replicate}
use Rattle.std.proofs.lemmas.List.Elements.{All-cons, All-head, All-nil, All-replicate, All-set, All-tail}
use Rattle.tail_text.specs.Checks.{look, must}
use Rattle.tail_text.specs.declared.codes.TheConstants.{TWICE}
use Rattle.tail_book.specs.declared.limits.TheConstants.{VALUE_LIMIT}
use Rattle.tail_book.specs.Seen.{ActivitySeen, CounterSeen, CurfewSeen, RulesSeen, TailSeen}
use Rattle.tail_book.specs.Ranges.{IsWithin}
use Rattle.tail_book.specs.inside.Sound.{IsActivity, IsCounter, IsCurfew, IsTail, is_none_or_below}
use Rattle.timetable_reader.specs.inside.Activity.{IsRawActivity}
use Rattle.timetable_reader.specs.Activity.{RawActivitySeen}
use Rattle.fleet_rules.specs.inside.RawRules.{IsRawCounter, IsRawCurfew}
use Rattle.fleet_rules.specs.RawRules.{RawCounterSeen, RawCurfewSeen}
use Rattle.fleet_rules.specs.inside.Tail.{IsRawCarry, IsRawTail}
use Rattle.fleet_rules.specs.Tail.{RawTailSeen}
use Rattle.fleet_rules.specs.declared.tail.RawCarry.{RawCarry}
use Rattle.book_maker.specs.NameNumbers.{number_in, numbers_in, optional_number_in, place_in}
use Rattle.book_maker.specs.RulesFound.{counter_in, curfew_in}
use Rattle.book_maker.specs.CarryFound.{carry_from, carry_in, is_named}
use Rattle.book_maker.specs.TailFound.{tail_in}
use Rattle.book_maker.specs.ActivityFound.{activity_in}

-- what a look at a value gave, and what it went on to
pub record Looked {A B E : Type 0} (r : Result A E) (next : A → Result B E) (b : B) : Type 0 where
  pub value : A
  pub gave : r ≡ Ok value
  pub went_on : next value ≡ Ok b

pub looked : {A B E : Type 0} (r : Result A E) (next : A → Result B E) (b : B) → look r next ≡ Ok b → Looked r next b
looked (Ok a) next b e = record { value = a; gave = refl; went_on = e }
looked (Err code) next b e = cc e

passed : {A : Type 0} (test : Bool) (code : ℕ) (next : Result A ℕ) (a : A) → must test code next ≡ Ok a → next ≡ Ok a
passed true code next a e = e
passed false code next a e = cc e

-- a number is below the count of names
below : (names : List (List ℕ)) (x : List ℕ) (n : ℕ) → number_in names x ≡ Ok n → n < length names
below names x n e = by (position_or_len (bytes_eq x) names) e
  where
    by : (i : ℕ) → ok_or {T = ℕ} {E = ℕ} (cond (nat_lt i (length names)) (Some i) None) 12 ≡ Ok n → n < length names
    by i h = here (nat_lt i (length names)) refl h
      where
        here : (t : Bool) → nat_lt i (length names) ≡ t → ok_or {T = ℕ} {E = ℕ} (cond t (Some i) None) 12 ≡ Ok n → n < length names
        here true is h =
            let same : i ≡ n = cc h in
            rw (← same) (grind (arith, nat_tests))
        here false is h = cc h

all_below : (names xs : List (List ℕ)) (ns : List ℕ) → numbers_in names xs ≡ Ok ns → All (λ n. n < length names) ns
all_below names [] ns e =
    let none : [] ≡ ns = cc e in
    rw (← none) (All-nil (λ n. n < length names))
all_below names (x ∷ xs) ns e =
    let first = looked (number_in names x) (λ n. look (numbers_in names xs) (λ rest. Ok (n ∷ rest))) ns e in
    let others = looked (numbers_in names xs) (λ rest. Ok (first.value ∷ rest)) ns first.went_on in
    let whole : first.value ∷ others.value ≡ ns = cc (others.went_on) in
    rw (← whole) (All-cons (λ n. n < length names) first.value others.value (below names x first.value first.gave) (all_below names xs others.value others.gave))

as_many : (names xs : List (List ℕ)) (ns : List ℕ) → numbers_in names xs ≡ Ok ns → length ns ≡ length xs
as_many names [] ns e =
    let none : [] ≡ ns = cc e in
    rw (← none) refl
as_many names (x ∷ xs) ns e =
    let first = looked (number_in names x) (λ n. look (numbers_in names xs) (λ rest. Ok (n ∷ rest))) ns e in
    let others = looked (numbers_in names xs) (λ rest. Ok (first.value ∷ rest)) ns first.went_on in
    let whole : first.value ∷ others.value ≡ ns = cc (others.went_on) in
    omega (arith, ap length whole, as_many names xs others.value others.gave)

assigned : (names : List (List ℕ)) (x : Option (List ℕ)) (k : Option ℕ) → optional_number_in names x ≡ Ok k → IsTrue (is_none_or_below k (length names))
assigned names None k e =
    let none : None ≡ k = cc e in
    rw (← none) refl
assigned names (Some x) k e =
    let found = looked (number_in names x) (λ n. Ok (Some n)) k e in
    let is : Some found.value ≡ k = cc (found.went_on) in
    rw (← is) (test found.value (length names) (below names x found.value found.gave))
  where
    test : (i n : ℕ) → i < n → nat_lt i n ≡ true
    test i n h = grind (arith, nat_tests)

-- a curfew
pub curfew_sound : (airports kinds : List (List ℕ)) (rules : RulesSeen) → length rules.airports ≡ length airports → length rules.kinds ≡ length kinds
    → (raw : RawCurfewSeen) (c : CurfewSeen) → IsRawCurfew raw → curfew_in airports kinds raw ≡ Ok c → IsCurfew rules c
curfew_sound airports kinds rules ports types raw c sound e =
    let airport = looked (number_in airports raw.airport) _ c e in
    let named = looked (numbers_in kinds raw.types) _ c airport.went_on in
    let is : record { airport = airport.value; from = raw.from; to = raw.to; types = named.value; starts = raw.starts; landings = raw.landings } ≡ c = cc (named.went_on) in
    rw (← is) (record {
      airport = rw ports (below airports raw.airport airport.value airport.gave);
      from = sound.from;
      to = sound.to;
      types = rw types (all_below kinds raw.types named.value named.gave);
      few_types = rw (as_many kinds raw.types named.value named.gave) sound.types.few;
    })

-- a counter
pub counter_sound : (airports : List (List ℕ)) (rules : RulesSeen) → length rules.airports ≡ length airports
    → (raw : RawCounterSeen) (c : CounterSeen) → IsRawCounter raw → counter_in airports raw ≡ Ok c → IsCounter rules c
counter_sound airports rules ports raw c sound e =
    let bases = looked (numbers_in airports raw.bases) _ c e in
    let is : record { name = raw.name; kind = raw.kind; limit = raw.limit; bases = bases.value; stop = raw.stop } ≡ c = cc (bases.went_on) in
    rw (← is) (record {
      name = sound.name;
      limit = sound.limit;
      bases = rw ports (all_below airports raw.bases bases.value bases.gave);
      few_bases = rw (as_many airports raw.bases bases.value bases.gave) sound.bases.few;
      stop = sound.stop;
    })

pub counter_named : (airports : List (List ℕ)) (raw : RawCounterSeen) (c : CounterSeen) → counter_in airports raw ≡ Ok c → c.name ≡ raw.name
counter_named airports raw c e =
    let bases = looked (numbers_in airports raw.bases) _ c e in
    let is : record { name = raw.name; kind = raw.kind; limit = raw.limit; bases = bases.value; stop = raw.stop } ≡ c = cc (bases.went_on) in
    rw (← is) refl

-- carry values, one for each counter
abbrev IsCarry : ℤ → Type 0
IsCarry = IsWithin (pos 0) VALUE_LIMIT

pub record AreCarry (counters : List (List ℕ)) (values : List ℤ) : Type 0 where
  pub each : All IsCarry values
  pub one_each : length values ≡ length counters

carried : (counters : List (List ℕ)) (before : List RawCarry) (values : List ℤ) (items : List RawCarry) (carry : List ℤ)
    → AreCarry counters values → All IsRawCarry items → carry_from counters before values items ≡ Ok carry → AreCarry counters carry
unfolding carry_from
carried counters before values [] carry so_far h e =
    let is : values ≡ carry = cc e in
    rw (← is) so_far
carried counters before values (item ∷ more) carry so_far h e =
    let known = looked (number_in counters item.counter) _ carry e in
    let first = passed (not (is_named before item.counter)) TWICE (carry_from counters (before ++ item ∷ []) (slice_set values known.value item.value) more) carry known.went_on in
    carried counters (before ++ item ∷ []) (slice_set values known.value item.value) more carry
    (record {
      each = All-set IsCarry values known.value item.value (All-head IsRawCarry item more h).value so_far.each;
      one_each = length-set values known.value item.value ∙ so_far.one_each;
    }) (All-tail IsRawCarry item more h) first

pub carry_sound : (counters : List (List ℕ)) (items : List RawCarry) (carry : List ℤ) → All IsRawCarry items → carry_in counters items ≡ Ok carry → AreCarry counters carry
carry_sound counters items carry h e =
    carried counters [] (replicate (length counters) (pos 0)) items carry
    (record {
      each = All-replicate IsCarry (length counters) (pos 0) (record { least = omega (arith, ints); most = omega (arith, ints) });
      one_each = length-replicate (length counters) (pos 0);
    }) h e

-- an aircraft
pub tail_sound : (kinds airports counters tags : List (List ℕ)) (rules : RulesSeen) → length rules.kinds ≡ length kinds → length rules.airports ≡ length airports → length rules.counters ≡ length counters
    → (raw : RawTailSeen) (t : TailSeen) → IsRawTail raw → tail_in kinds airports counters tags raw ≡ Ok t → IsTail rules t
tail_sound kinds airports counters tags rules types ports counts raw t sound e =
    let kind = looked (number_in kinds raw.kind) _ t e in
    let at = looked (number_in airports raw.at) _ t kind.went_on in
    let avoid = looked (numbers_in airports raw.avoid) _ t at.went_on in
    let carry = looked (carry_in counters raw.carry) _ t avoid.went_on in
    let is : record { name = raw.name; kind = kind.value; at = at.value; ready = raw.ready; fixed = raw.fixed; tags = map (place_in tags) raw.tags; avoid = avoid.value; carry = carry.value } ≡ t = cc (carry.went_on) in
    let values = carry_sound counters raw.carry carry.value sound.carry.each carry.gave in
    rw (← is) (record {
      name = sound.name;
      kind = rw types (below kinds raw.kind kind.value kind.gave);
      at = rw ports (below airports raw.at at.value at.gave);
      ready = sound.ready;
      fixed = sound.fixed;
      few_tags = rw length-map sound.tags.few;
      avoid = rw ports (all_below airports raw.avoid avoid.value avoid.gave);
      few_avoided = rw (as_many airports raw.avoid avoid.value avoid.gave) sound.avoid.few;
      carry = values.each;
      one_carry_each = values.one_each ∙ sym counts;
    })

pub tail_named : (kinds airports counters tags : List (List ℕ)) (raw : RawTailSeen) (t : TailSeen) → tail_in kinds airports counters tags raw ≡ Ok t → t.name ≡ raw.name
tail_named kinds airports counters tags raw t e =
    let kind = looked (number_in kinds raw.kind) _ t e in
    let at = looked (number_in airports raw.at) _ t kind.went_on in
    let avoid = looked (numbers_in airports raw.avoid) _ t at.went_on in
    let carry = looked (carry_in counters raw.carry) _ t avoid.went_on in
    let is : record { name = raw.name; kind = kind.value; at = at.value; ready = raw.ready; fixed = raw.fixed; tags = map (place_in tags) raw.tags; avoid = avoid.value; carry = carry.value } ≡ t = cc (carry.went_on) in
    rw (← is) refl

-- an activity
pub activity_sound : (kinds airports counters tails tags : List (List ℕ)) (rules : RulesSeen) → length rules.kinds ≡ length kinds → length rules.airports ≡ length airports → length rules.counters ≡ length counters
    → (raw : RawActivitySeen) (a : ActivitySeen) → IsRawActivity raw → activity_in kinds airports counters tails tags raw ≡ Ok a → IsActivity rules (length tails) a
activity_sound kinds airports counters tails tags rules types ports counts raw a sound e =
    let from = looked (number_in airports raw.from) _ a e in
    let to = looked (number_in airports raw.to) _ a from.went_on in
    let named = looked (numbers_in kinds raw.types) _ a to.went_on in
    let tail = looked (optional_number_in tails raw.tail) _ a named.went_on in
    let resets = looked (numbers_in counters raw.resets) _ a tail.went_on in
    let is : record { id = raw.id; flight = raw.flight; from = from.value; to = to.value; start = raw.start; end = raw.end; types = named.value; tags = map (place_in tags) raw.tags; tail = tail.value; resets = resets.value } ≡ a = cc (resets.went_on) in
    rw (← is) (record {
      id = sound.id;
      from = rw ports (below airports raw.from from.value from.gave);
      to = rw ports (below airports raw.to to.value to.gave);
      start = sound.start;
      end = sound.end;
      lasts = sound.least;
      short = sound.most;
      types = rw types (all_below kinds raw.types named.value named.gave);
      few_types = rw (as_many kinds raw.types named.value named.gave) sound.types.few;
      few_tags = rw length-map sound.tags.few;
      tail = assigned tails raw.tail tail.value tail.gave;
      resets = rw counts (all_below counters raw.resets resets.value resets.gave);
      few_resets = rw (as_many counters raw.resets resets.value resets.gave) sound.resets.few;
    })

pub activity_named : (kinds airports counters tails tags : List (List ℕ)) (raw : RawActivitySeen) (a : ActivitySeen) → activity_in kinds airports counters tails tags raw ≡ Ok a → a.id ≡ raw.id
activity_named kinds airports counters tails tags raw a e =
    let from = looked (number_in airports raw.from) _ a e in
    let to = looked (number_in airports raw.to) _ a from.went_on in
    let named = looked (numbers_in kinds raw.types) _ a to.went_on in
    let tail = looked (optional_number_in tails raw.tail) _ a named.went_on in
    let resets = looked (numbers_in counters raw.resets) _ a tail.went_on in
    let is : record { id = raw.id; flight = raw.flight; from = from.value; to = to.value; start = raw.start; end = raw.end; types = named.value; tags = map (place_in tags) raw.tags; tail = tail.value; resets = resets.value } ≡ a = cc (resets.went_on) in
    rw (← is) refl
