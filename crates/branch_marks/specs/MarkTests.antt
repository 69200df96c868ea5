-- What marks leave open, as tests that compute, and that each decides its definition.
-- For src/marks/questions.rt, src/marks/route_fit.rt and others.
use Rattle.std.specs.Prelude.{ℕ, List, [], ◌∷◌, Bool, true, false, ◌&&◌, ◌||◌, nat_eq, nat_lt, nat_le, not}
use Rattle.std.specs.List.{list_all}
use Rattle.tail_book.specs.Seen.{BookSeen}
use Rattle.tail_book.specs.declared.place.Place.{Place}
use Rattle.tail_book.specs.declared.place.Place.TheVariants.{Carry, After}
use Rattle.tail_book.specs.Lookup.{activities, aircraft}
use Rattle.tail_book.specs.LegalTests.{is_allowed, is_link}
use Rattle.branch_marks.specs.declared.fact.Fact.{Fact}
use Rattle.branch_marks.specs.declared.fact.Fact.TheVariants.{Bar, Must, Cut, Tie}

-- the numbers in the fact are of the book
abbrev pub is_fact_of : BookSeen → Fact → Bool
is_fact_of book (Bar k a) = nat_lt k (aircraft book) && nat_lt a (activities book)
is_fact_of book (Must k a) = nat_lt k (aircraft book) && nat_lt a (activities book)
is_fact_of book (Cut a b) = nat_lt a (activities book) && nat_lt b (activities book)
is_fact_of book (Tie a b) = nat_lt a (activities book) && nat_lt b (activities book)

-- the place is behind this activity
abbrev pub is_at : Place → ℕ → Bool
is_at Carry a = false
is_at (After x) a = nat_eq x a

-- the place lies before this activity
abbrev pub is_before : Place → ℕ → Bool
is_before Carry b = true
is_before (After x) b = nat_lt x b

-- the fact lets aircraft k fly a
abbrev pub lets_fly : ℕ → ℕ → Fact → Bool
lets_fly k a (Bar j c) = not (nat_eq j k && nat_eq c a)
lets_fly k a (Must j c) = not (nat_eq c a) || nat_eq j k
lets_fly k a (Cut c d) = true
lets_fly k a (Tie c d) = true

-- the fact lets aircraft k go from x to b
abbrev pub lets_go : ℕ → Place → ℕ → Fact → Bool
lets_go k x b (Bar j c) = true
lets_go k x b (Must j c) = not (nat_eq j k && is_before x c) || nat_le b c
lets_go k x b (Cut c d) = not (is_at x c && nat_eq d b)
lets_go k x b (Tie c d) = (not (is_at x c) || nat_eq d b) && (not (nat_eq d b) || is_at x c)

-- the fact lets aircraft k end its route at x
abbrev pub lets_end : ℕ → Place → Fact → Bool
lets_end k x (Bar j c) = true
lets_end k x (Must j c) = not (nat_eq j k && is_before x c)
lets_end k x (Cut c d) = true
lets_end k x (Tie c d) = not (is_at x c)

-- the activity is alive for the aircraft
unfoldable pub is_alive : BookSeen → List Fact → ℕ → ℕ → Bool
is_alive book marks k a = is_allowed book k a && list_all (lets_fly k a) marks

-- what the aircraft comes from is alive for it
abbrev pub is_alive_at : BookSeen → List Fact → ℕ → Place → Bool
is_alive_at book marks k Carry = true
is_alive_at book marks k (After x) = is_alive book marks k x

-- the link from x to b is usable for the aircraft
unfoldable pub is_usable : BookSeen → List Fact → ℕ → Place → ℕ → Bool
is_usable book marks k x b =
    is_link book k x b && (is_alive_at book marks k x && (is_alive book marks k b && list_all (lets_go k x b) marks))

-- the aircraft may end its route at x
unfoldable pub may_end : List Fact → ℕ → Place → Bool
may_end marks k x = list_all (lets_end k x) marks

-- the rest of a route fits from a place on
abbrev pub fits_from : BookSeen → List Fact → ℕ → Place → List ℕ → Bool
fits_from book marks k x [] = may_end marks k x
fits_from book marks k x (b ∷ rest) = is_usable book marks k x b && fits_from book marks k (After b) rest

-- the route fits the marks
abbrev pub fits : BookSeen → List Fact → ℕ → List ℕ → Bool
fits book marks k route = fits_from book marks k Carry route
