-- Routes as they are found, one flier after the other. For src/laws/fliers.rt.
use Rattle.std.specs.Prelude.{ℕ, ◌+◌, ◌≡◌, List, [], ◌∷◌, if◌then◌else◌, map, nat_eq}
use Rattle.std.specs.List.{range_with_len}
use Rattle.tail_book.specs.Fliers.{route_by}

-- the activities that aircraft k flies, of those from number i on
abbrev pub route_flown_from : ℕ → ℕ → List ℕ → List ℕ
route_flown_from k i [] = []
route_flown_from k i (j ∷ who) = if nat_eq j k then i ∷ route_flown_from k (i + 1) who else route_flown_from k (i + 1) who

-- the routes of so many aircraft, from aircraft k on
abbrev pub routes_from : ℕ → ℕ → List ℕ → List (List ℕ)
routes_from k count who = map (route_by who) (range_with_len k count)

-- the law of fliers: the route that they give an aircraft is what it flies from the first activity on
abbrev pub RoutesAreFlownInTurn : Type 0
RoutesAreFlownInTurn = (k : ℕ) (who : List ℕ) → route_by who k ≡ route_flown_from k 0 who
