-- The book that is made keeps what every book keeps.
--
-- What a record keeps by itself comes from the readers. That its numbers are of the book holds since every name that is
-- used was found; that names differ, since no entry repeats one; and the order is that of `OrderLemmas`.
use Rattle.std.proofs.Common.{◌≡◌, ◌≢◌, ◌∙◌, refl, ap, arith, ℕ, ◌+◌, ◌≤◌, List, [], ◌∷◌, length, map, Some, None, Result, Ok, All, AllPairs, sym, subst}
use Rattle.std.proofs.lemmas.List.{length-map}
use Rattle.std.proofs.lemmas.List.Sorted.{All-permutation, length_permutation}
use Rattle.tail_text.specs.declared.refusal.Table.TheVariants.{Fleet, Rules, Timetable}
use Rattle.tail_book.specs.Seen.{ActivitySeen, AirportSeen, BookSeen, CounterSeen, CurfewSeen, RulesSeen, TailSeen}
use Rattle.tail_book.specs.inside.Sound.{IsActivity, IsAirport, IsBook, IsCounter, IsCurfew, IsRules, IsTail}
use Rattle.tail_book.specs.declared.rules.AircraftType.{AircraftType}
use Rattle.timetable_reader.specs.inside.Activity.{IsRawActivity}
use Rattle.timetable_reader.specs.Activity.{RawActivitySeen}
use Rattle.tail_book.specs.declared.limits.TheConstants.{ACTIVITY_LIMIT, TAIL_LIMIT}
use Rattle.fleet_rules.specs.inside.RawRules.{AreRawRules, IsRawAirport, IsRawCounter, IsRawCurfew}
use Rattle.fleet_rules.specs.RawRules.{RawRulesSeen}
use Rattle.fleet_rules.specs.inside.Tail.{IsRawTail}
use Rattle.fleet_rules.specs.Tail.{RawTailSeen}
use Rattle.book_maker.specs.inside.Known.{HasAsMany, KnownNames, with_rules}
use Rattle.book_maker.specs.LookedUp.{looked_up_in}
use Rattle.book_maker.specs.RulesFound.{airport_in, airport_names, counter_in, counter_names, curfew_in, kind_names, rules_in}
use Rattle.book_maker.specs.TailFound.{tail_in}
use Rattle.book_maker.specs.ActivityFound.{activity_in}
use Rattle.book_maker.specs.Made.{activities_in, tails_in}
use Rattle.book_maker.specs.Tags.{tags_of}
use Rattle.book_maker.specs.Order.{in_order}
use Rattle.book_maker.proofs.EntryFacts.{found-all, found-differ, found-many, found-texts}
use Rattle.book_maker.proofs.ChangeLemmas.{airport_named, airport_sound}
use Rattle.book_maker.proofs.FoundLemmas.{activity_named, activity_sound, counter_named, counter_sound, curfew_sound, looked, tail_named, tail_sound}
use Rattle.book_maker.proofs.OrderLemmas.{differ_anywhere, in_order-ordered, in_order-permutes}

-- entries that are taken as they are
taken_as_is : {A : Type 0} (entry b : A) → ◌≡◌ {A = Result A ℕ} (Ok entry) (Ok b) → b ≡ entry
taken_as_is entry b e = let same : entry ≡ b = cc e in sym same

unchanged : {A : Type 0} (xs ys : List A) → map (λ x. x) xs ≡ map (λ y. y) ys → xs ≡ ys
unchanged xs ys e = sym (itself xs) ∙ e ∙ itself ys
  where
    itself : {A : Type 0} (zs : List A) → map (λ z. z) zs ≡ zs
    itself [] = refl
    itself (z ∷ zs) = ap (λ more. z ∷ more) (itself zs)

-- the four kinds of entries of the rules gave these
pub record RulesGave (raw : RawRulesSeen) (kinds : List AircraftType) (airports : List AirportSeen) (curfews : List CurfewSeen) (counters : List CounterSeen) : Type 0 where
  pub kinds_gave : looked_up_in Rules 1 (λ t. Some t.name) (λ t. Ok t) raw.kinds ≡ Ok kinds
  pub airports_gave : looked_up_in Rules (1 + length raw.kinds) (λ p. Some p.name) airport_in raw.airports ≡ Ok airports
  pub curfews_gave : looked_up_in Rules (1 + length raw.kinds + length raw.airports) (λ _. None) (curfew_in (airport_names raw) (kind_names raw)) raw.curfews ≡ Ok curfews
  pub counters_gave : looked_up_in Rules (1 + length raw.kinds + length raw.airports + length raw.curfews) (λ c. Some c.name) (counter_in (airport_names raw)) raw.counters ≡ Ok counters

module _ (raw : RawRulesSeen) (sound : AreRawRules raw) (kinds : List AircraftType) (airports : List AirportSeen) (curfews : List CurfewSeen) (counters : List CounterSeen)
    (gave : RulesGave raw kinds airports curfews counters) where
  abbrev rules : RulesSeen
  rules = record { kinds = kinds; airports = airports; curfews = curfews; counters = counters; bands = raw.bands }

  kinds_same : kinds ≡ raw.kinds
  kinds_same = unchanged kinds raw.kinds (found-texts Rules (λ t. Some t.name) (λ t. Ok t) (λ t. t) (λ t. t) taken_as_is 1 [] raw.kinds kinds gave.kinds_gave)

  ports_counted : length airports ≡ length raw.airports
  ports_counted = found-many Rules (λ p. Some p.name) airport_in _ [] raw.airports airports gave.airports_gave

  pub kinds_many : length kinds ≡ length (kind_names raw)
  kinds_many = ap length kinds_same ∙ sym (length-map raw.kinds (λ t. t.name))

  pub airports_many : length airports ≡ length (airport_names raw)
  airports_many = ports_counted ∙ sym (length-map raw.airports (λ p. p.name))

  counted : length counters ≡ length raw.counters
  counted = found-many Rules (λ c. Some c.name) (counter_in (airport_names raw)) _ [] raw.counters counters gave.counters_gave

  pub counters_many : length counters ≡ length (counter_names raw)
  counters_many = counted ∙ sym (length-map raw.counters (λ c. c.name))

  -- the rules that are found are sound
  pub rules_sound : IsRules rules
  rules_sound = record {
    kinds = rw kinds_same sound.kinds;
    kind_names = found-differ Rules (λ t. t.name) (λ t. t.name) (λ t. Ok t) (λ entry b e. ap (λ t. t.name) (taken_as_is entry b e)) 1 raw.kinds kinds gave.kinds_gave;
    few_kinds = rw kinds_same sound.few_kinds;
    airports = found-all Rules (λ p. Some p.name) airport_in IsRawAirport IsAirport (λ entry p h e. airport_sound entry p h e) _ [] raw.airports airports sound.airports gave.airports_gave;
    airport_names = found-differ Rules (λ p. p.name) (λ p. p.name) airport_in airport_named (1 + length raw.kinds) raw.airports airports gave.airports_gave;
    few_airports = omega (arith, sound.few_airports, ports_counted);
    curfews = found-all Rules (λ _. None) (curfew_in (airport_names raw) (kind_names raw)) IsRawCurfew (IsCurfew rules)
        (λ entry c h e. curfew_sound (airport_names raw) (kind_names raw) rules airports_many kinds_many entry c h e) _ [] raw.curfews curfews sound.curfews gave.curfews_gave;
    few_curfews = omega (arith, sound.few_curfews, found-many Rules (λ _. None) (curfew_in (airport_names raw) (kind_names raw)) _ [] raw.curfews curfews gave.curfews_gave);
    counters = found-all Rules (λ c. Some c.name) (counter_in (airport_names raw)) IsRawCounter (IsCounter rules)
        (λ entry c h e. counter_sound (airport_names raw) rules airports_many entry c h e) _ [] raw.counters counters sound.counters gave.counters_gave;
    counter_names = found-differ Rules (λ c. c.name) (λ c. c.name) (counter_in (airport_names raw)) (counter_named (airport_names raw)) _ raw.counters counters gave.counters_gave;
    few_counters = omega (arith, sound.few_counters, counted);
    bands = sound.bands;
    few_bands = sound.few_bands;
  }

  -- and there are as many as names
  pub rules_many : (before : KnownNames) → HasAsMany (with_rules before raw) rules
  rules_many before = record { kinds = kinds_many; airports = airports_many; counters = counters_many }

-- what the rules of the definition keep
pub record AreFound (raw : RawRulesSeen) (rules : RulesSeen) : Type 0 where
  pub sound : IsRules rules
  pub many : (before : KnownNames) → HasAsMany (with_rules before raw) rules

pub rules_in-found : (raw : RawRulesSeen) (found : RulesSeen) → AreRawRules raw → rules_in raw ≡ Ok found → AreFound raw found
rules_in-found raw found sound e =
    let kinds = looked (looked_up_in Rules 1 (λ t. Some t.name) (λ t. Ok t) raw.kinds) _ found e in
    let airports = looked (looked_up_in Rules (1 + length raw.kinds) (λ p. Some p.name) airport_in raw.airports) _ found kinds.went_on in
    let curfews = looked (looked_up_in Rules (1 + length raw.kinds + length raw.airports) (λ _. None) (curfew_in (airport_names raw) (kind_names raw)) raw.curfews) _ found airports.went_on in
    let counters = looked (looked_up_in Rules (1 + length raw.kinds + length raw.airports + length raw.curfews) (λ c. Some c.name) (counter_in (airport_names raw)) raw.counters) _ found curfews.went_on in
    let gave : RulesGave raw kinds.value airports.value curfews.value counters.value = record { kinds_gave = kinds.gave; airports_gave = airports.gave; curfews_gave = curfews.gave; counters_gave = counters.gave } in
    let is : record { kinds = kinds.value; airports = airports.value; curfews = curfews.value; counters = counters.value; bands = raw.bands } ≡ found = cc (counters.went_on) in
    rw (← is) (record {
      sound = rules_sound raw sound kinds.value airports.value curfews.value counters.value gave;
      many = rules_many raw sound kinds.value airports.value curfews.value counters.value gave;
    })

module _ (raw_activities : List RawActivitySeen) (raw_tails : List RawTailSeen) (raw : RawRulesSeen) (rules : RulesSeen) (tails : List TailSeen) (activities : List ActivitySeen)
    (tails_gave : tails_in raw (tags_of raw_tails raw_activities) raw_tails ≡ Ok tails)
    (activities_gave : activities_in raw raw_tails (tags_of raw_tails raw_activities) raw_activities ≡ Ok activities) where
  abbrev tags : List (List ℕ)
  tags = tags_of raw_tails raw_activities

  abbrev book : BookSeen
  book = record { activities = in_order activities; tails = tails; rules = rules }

  -- ids differ, so the activities have one order
  pub ids_differ : AllPairs (λ a b. a.id ≢ b.id) activities
  ids_differ = found-differ Timetable (λ a. a.id) (λ a. a.id) (activity_in (kind_names raw) (airport_names raw) (counter_names raw) (map (λ t. t.name) raw_tails) tags)
      (activity_named (kind_names raw) (airport_names raw) (counter_names raw) (map (λ t. t.name) raw_tails) tags) 2 raw_activities activities activities_gave

  tails_many : length tails ≡ length raw_tails
  tails_many = found-many Fleet (λ t. Some t.name) (tail_in (kind_names raw) (airport_names raw) (counter_names raw) tags) 2 [] raw_tails tails tails_gave

  named_many : length (map (λ t. t.name) raw_tails) ≡ length tails
  named_many = length-map raw_tails (λ t. t.name) ∙ sym tails_many

  activities_many : length activities ≡ length raw_activities
  activities_many = found-many Timetable (λ a. Some a.id) (activity_in (kind_names raw) (airport_names raw) (counter_names raw) (map (λ t. t.name) raw_tails) tags) 2 [] raw_activities activities activities_gave

  -- is sound
  pub book_sound : IsRules rules → (before : KnownNames) → HasAsMany (with_rules before raw) rules → All IsRawTail raw_tails → All IsRawActivity raw_activities → length raw_tails ≤ TAIL_LIMIT → length raw_activities ≤ ACTIVITY_LIMIT → IsBook book
  book_sound sound before many sound_tails sound_activities few_tails few = record {
    activities = All-permutation (IsActivity rules (length tails)) activities (in_order activities) (in_order-permutes activities)
        (found-all Timetable (λ a. Some a.id) (activity_in (kind_names raw) (airport_names raw) (counter_names raw) (map (λ t. t.name) raw_tails) tags) IsRawActivity (IsActivity rules (length tails))
        (λ entry a h e. subst (λ n. IsActivity rules n a) named_many
        (activity_sound (kind_names raw) (airport_names raw) (counter_names raw) (map (λ t. t.name) raw_tails) tags rules many.kinds many.airports many.counters entry a h e))
        2 [] raw_activities activities sound_activities activities_gave);
    ordered = in_order-ordered activities ids_differ;
    ids = differ_anywhere activities (in_order activities) ids_differ (in_order-permutes activities);
    few_activities = omega (arith, few, length_permutation activities (in_order activities) (in_order-permutes activities), activities_many);
    tails = found-all Fleet (λ t. Some t.name) (tail_in (kind_names raw) (airport_names raw) (counter_names raw) tags) IsRawTail (IsTail rules)
        (λ entry t h e. tail_sound (kind_names raw) (airport_names raw) (counter_names raw) tags rules many.kinds many.airports many.counters entry t h e) 2 [] raw_tails tails sound_tails tails_gave;
    tail_names = found-differ Fleet (λ t. t.name) (λ t. t.name) (tail_in (kind_names raw) (airport_names raw) (counter_names raw) tags)
        (tail_named (kind_names raw) (airport_names raw) (counter_names raw) tags) 2 raw_tails tails tails_gave;
    few_tails = omega (arith, few_tails, tails_many);
    rules = sound;
  }
