-- Routes that fit the marks: those of a legal plan of which the marks hold, and routes by their beginnings.
-- For src/laws/marked_routes.rt.
use Rattle.std.specs.Prelude.{ℕ, ◌<◌, ◌↔◌, ⊤, List, [], ◌∷◌, ◌++◌}
use Rattle.tail_book.specs.Seen.{BookSeen}
use Rattle.tail_book.specs.declared.place.Place.{Place}
use Rattle.tail_book.specs.declared.place.Place.TheVariants.{After}
use Rattle.tail_book.specs.Lookup.{aircraft}
use Rattle.tail_book.specs.Plan.{route_of, IsLegalPlan}
use Rattle.tail_book.specs.inside.Route.{place_after}
use Rattle.tail_book.specs.inside.Sound.{IsBook}
use Rattle.branch_marks.specs.declared.fact.Fact.{Fact}
use Rattle.branch_marks.specs.Facts.{HoldAll}
use Rattle.branch_marks.specs.Marks.{IsUsable, MayEnd, FitsFrom, Fits}

-- in a legal plan of which the marks hold each route fits them
abbrev pub MarkedRoutesFit : Type 0
MarkedRoutesFit = (book : BookSeen) → IsBook book → (marks : List Fact) (plan : List (List ℕ)) → IsLegalPlan book plan → HoldAll marks plan
    → (k : ℕ) → k < aircraft book → Fits book marks k (route_of plan k)

-- from a place on each link of the route is usable, whether or not aircraft k may end at its end
abbrev pub IsUsableFrom : BookSeen → List Fact → ℕ → Place → List ℕ → Type 0
IsUsableFrom book marks k x [] = ⊤
IsUsableFrom book marks k x (b ∷ rest) = IsUsable book marks k x b × IsUsableFrom book marks k (After b) rest

-- a route fits exactly where its links are usable and aircraft k may end at its end
abbrev pub FitsIsUsableToItsEnd : Type 0
FitsIsUsableToItsEnd = (book : BookSeen) (marks : List Fact) (k : ℕ) (x : Place) (route : List ℕ)
    → FitsFrom book marks k x route ↔ (IsUsableFrom book marks k x route × MayEnd marks k (place_after x route))

-- with b at its end its links are usable exactly where they were, and the one to b is
abbrev pub UsableWithOneMore : Type 0
UsableWithOneMore = (book : BookSeen) (marks : List Fact) (k : ℕ) (x : Place) (route : List ℕ) (b : ℕ)
    → IsUsableFrom book marks k x (route ++ b ∷ []) ↔ (IsUsableFrom book marks k x route × IsUsable book marks k (place_after x route) b)
