-- A legal route: linked from the carry-in on, with every counter within its limit after every activity.
-- For maint_counters/src/legal_route.rt and sample_calls/src/routes.rt.
use Rattle.std.specs.Prelude.{ℕ, ℤ, ⊤, List, [], ◌∷◌, ◌<◌}
use Rattle.tail_book.specs.Seen.{BookSeen}
use Rattle.tail_book.specs.declared.place.Place.{Place}
use Rattle.tail_book.specs.declared.place.Place.TheVariants.{Carry, After}
use Rattle.tail_book.specs.Lookup.{activities, carry_of}
use Rattle.tail_book.specs.Link.{IsLink}
use Rattle.tail_book.specs.Counters.{step, WithinLimits}

-- the rest of a route of aircraft k is legal from a place on, with the counters as they stand there
abbrev pub IsLegalFrom : BookSeen → ℕ → Place → List ℤ → List ℕ → Type 0
IsLegalFrom book k x values [] = ⊤
IsLegalFrom book k x values (b ∷ rest) =
    (b < activities book) × IsLink book k x b × WithinLimits book.rules.counters (step book k x b values)
    × IsLegalFrom book k (After b) (step book k x b values) rest

-- the route is legal for aircraft k; the empty one always is
abbrev pub IsLegalRoute : BookSeen → ℕ → List ℕ → Type 0
IsLegalRoute book k route = IsLegalFrom book k Carry (carry_of book k) route
