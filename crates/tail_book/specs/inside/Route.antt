-- The counters and the place at the end of a route: what a step more begins with. For Along.antt, OneMore.antt and others.
use Rattle.std.specs.Prelude.{ℕ, ℤ, List, [], ◌∷◌}
use Rattle.tail_book.specs.Seen.{BookSeen}
use Rattle.tail_book.specs.declared.place.Place.{Place}
use Rattle.tail_book.specs.declared.place.Place.TheVariants.{Carry, After}
use Rattle.tail_book.specs.Lookup.{carry_of}
use Rattle.tail_book.specs.Counters.{step}

-- the counters at the end of a route from a place on
abbrev pub counters_from : BookSeen → ℕ → Place → List ℤ → List ℕ → List ℤ
counters_from book k x values [] = values
counters_from book k x values (b ∷ rest) = counters_from book k (After b) (step book k x b values) rest

-- the counters of aircraft k after a route
abbrev pub counters_after : BookSeen → ℕ → List ℕ → List ℤ
counters_after book k route = counters_from book k Carry (carry_of book k) route

-- the place at the end of a route from a place on
abbrev pub place_after : Place → List ℕ → Place
place_after x [] = x
place_after x (b ∷ rest) = place_after (After b) rest
