-- The counters of an aircraft at their greatest share of the limit, in hundredths and rounded down.
use Rattle.std.specs.Prelude.{ℕ, ℤ, pos, ◌+◌, ◌*◌, ◌/◌, ◌%◌, List, [], ◌∷◌, ◌++◌, codes, decimal, map, min, nat_lt, unsigned_abs, if◌then◌else◌}
use Rattle.std.specs.Int.{int_max, int_min}
use Rattle.tail_book.specs.Seen.{BookSeen, CounterSeen}
use Rattle.tail_book.specs.Counters.{step}
use Rattle.tail_book.specs.Lookup.{carry_of}
use Rattle.tail_book.specs.declared.place.Place.{Place}
use Rattle.tail_book.specs.declared.place.Place.TheVariants.{Carry, After}
use Rattle.plan_picture.specs.declared.shares.TheConstants.{CEILING, MOST}

-- a value as it is followed: not below 0, where a route runs backwards in time, and not above what any route of a book counts
abbrev pub followed : ℤ → ℤ
followed value = int_min (int_max value (pos 0)) CEILING

-- the greater of each two values
abbrev pub greater_of : List ℤ → List ℤ → List ℤ
greater_of [] values = []
greater_of (x ∷ xs) [] = []
greater_of (x ∷ xs) (y ∷ ys) = int_max x y ∷ greater_of xs ys

-- the greatest values along the rest of a route, from those so far and from the values as they stand at a place
abbrev pub greatest_from : BookSeen → ℕ → Place → List ℤ → List ℤ → List ℕ → List ℤ
greatest_from book k x values most [] = most
greatest_from book k x values most (b ∷ route) =
    greatest_from book k (After b) (map followed (step book k x b values)) (greater_of most (map followed (step book k x b values))) route

-- the greatest values of aircraft k, from its carry-in on
abbrev pub greatest : BookSeen → ℕ → List ℕ → List ℤ
greatest book k route = greatest_from book k Carry (carry_of book k) (carry_of book k) route

-- hundredths of a limit, rounded down, of a value that is no larger than what is followed
abbrev pub share : ℤ → ℤ → ℕ
share value limit = if nat_lt 0 (unsigned_abs limit) then (min (unsigned_abs value) MOST * 100) / unsigned_abs limit else 0

-- where counter c stands: two are in a line, and there are three lines
abbrev pub place_of : ℕ → List ℕ
place_of c = codes "<tspan x='" ++ decimal (10 + (c % 2) * 162) ++ codes "' y='" ++ decimal (56 + ((c / 2) % 3) * 17) ++ codes "'>"

-- a counter's name and its share
abbrev pub named_share : CounterSeen → ℤ → List ℕ
named_share counter value = counter.name ++ codes " " ++ decimal (share value counter.limit) ++ codes "%</tspan>"

-- the same at its place
abbrev pub share_text : ℕ → CounterSeen → ℤ → List ℕ
share_text c counter value = place_of c ++ named_share counter value

-- the same of each counter, from number c on
abbrev pub share_texts : ℕ → List CounterSeen → List ℤ → List ℕ
share_texts c [] values = []
share_texts c (counter ∷ counters) [] = []
share_texts c (counter ∷ counters) (value ∷ values) = share_text c counter value ++ share_texts (c + 1) counters values
