-- The rules that a plan breaks, rule by rule: each gives the list of what breaks it, in reading order or by number.
-- For src/past_limits.rt, src/dropped_names.rt and others.
use Rattle.std.specs.Prelude.{ℕ, ℤ, List, [], ◌∷◌, ◌++◌, ◌+◌, map, filter, not, if◌then◌else◌}
use Rattle.std.specs.List.{range_with_len}
use Rattle.tail_book.specs.Seen.{BookSeen, CounterSeen}
use Rattle.tail_book.specs.Numbers.{contains, int_le}
use Rattle.tail_book.specs.Lookup.{activities, carry_of}
use Rattle.tail_book.specs.declared.place.Place.{Place}
use Rattle.tail_book.specs.declared.place.Place.TheVariants.{Carry, After}
use Rattle.tail_book.specs.Curfew.{is_curfewed}
use Rattle.tail_book.specs.Counters.{step}
use Rattle.tail_book.specs.Allowed.{is_permitted}
use Rattle.tail_book.specs.Link.{is_connected}
use Rattle.plan_audit.specs.declared.leg.Leg.{Leg}
use Rattle.plan_audit.specs.declared.met.Met.{Met}
use Rattle.plan_audit.specs.declared.met.Met.TheVariants.{Unknown, Twice, Tail, Activity}
use Rattle.plan_audit.specs.declared.broken.Broken.{Broken}
use Rattle.plan_audit.specs.declared.broken.Broken.TheVariants as rule
use Rattle.plan_audit.specs.Met.{activities_met}

-- the names that nothing has, once for each time that they are met
abbrev pub unknown : List Met → List Broken
unknown [] = []
unknown (Unknown name ∷ met) = rule.Unknown name ∷ unknown met
unknown (Twice name ∷ met) = unknown met
unknown (Tail k ∷ met) = unknown met
unknown (Activity a ∷ met) = unknown met

-- the names that were met before, once for each time that they are met again
abbrev pub twice : List Met → List Broken
twice [] = []
twice (Unknown name ∷ met) = twice met
twice (Twice name ∷ met) = rule.Twice name ∷ twice met
twice (Tail k ∷ met) = twice met
twice (Activity a ∷ met) = twice met

-- the activities that no route has, by number
abbrev pub uncovered : BookSeen → List Met → List Broken
uncovered book met = map rule.Uncovered (filter (λ a. not (contains (activities_met met) a)) (range_with_len 0 (activities book)))

-- the legs that their aircraft may not fly, curfews aside
abbrev pub not_allowed : BookSeen → List Leg → List Broken
not_allowed book legs = map (λ leg. rule.NotAllowed leg.tail leg.activity) (filter (λ leg. not (is_permitted book leg.tail leg.activity)) legs)

-- the legs that a curfew forbids
abbrev pub curfews : BookSeen → List Leg → List Broken
curfews book legs = map (λ leg. rule.Curfew leg.tail leg.activity) (filter (λ leg. is_curfewed book leg.tail leg.activity) legs)

-- the legs that start elsewhere than the aircraft is, or before it can
abbrev pub no_links : BookSeen → List Leg → List Broken
no_links book legs = map (λ leg. rule.NoLink leg.tail leg.activity) (filter (λ leg. not (is_connected book leg.tail leg.from leg.activity)) legs)

-- the counters, from number c on, that are past their limits after a leg
abbrev pub past_limits_at : Leg → ℕ → List CounterSeen → List ℤ → List Broken
past_limits_at leg c [] values = []
past_limits_at leg c (counter ∷ counters) [] = []
past_limits_at leg c (counter ∷ counters) (value ∷ values) =
    (if int_le value counter.limit then [] else rule.Counter leg.tail leg.activity c ∷ []) ++ past_limits_at leg (c + 1) counters values

-- the counters before a leg: as the aircraft comes in, and else as the leg before left them
abbrev pub values_before : BookSeen → ℕ → Place → List ℤ → List ℤ
values_before book k Carry values = carry_of book k
values_before book k (After x) values = values

-- the counters after a leg, whole numbers also where a route runs backwards in time
abbrev pub values_after : BookSeen → Leg → List ℤ → List ℤ
values_after book leg values = step book leg.tail leg.from leg.activity (values_before book leg.tail leg.from values)

-- the counters that are past their limits along the legs, each taken along its whole route
abbrev pub past_limits : BookSeen → List ℤ → List Leg → List Broken
past_limits book values [] = []
past_limits book values (leg ∷ legs) =
    past_limits_at leg 0 book.rules.counters (values_after book leg values) ++ past_limits book (values_after book leg values) legs
