-- The open places of a search as they are kept: open branches, and beside them the duals of each. For src/open_places.rt.
use Rattle.std.specs.Prelude.{◌≡◌, List, [], ◌∷◌, length, reverse, if◌then◌else◌}
use Rattle.tail_book.specs.Seen.{BookSeen}
use Rattle.tail_book.specs.TableSeen.{DualsSeen}
use Rattle.branch_marks.specs.declared.fact.Fact.{Fact}
use Rattle.open_branches.specs.Branches.{AreBranchesOf, behind_of}
use Rattle.node_leaves.specs.Place.{Open, open_place}
use Rattle.branch_tree.specs.declared.open_places.OpenPlaces.{OpenPlaces}

-- the place of each of these marks, under the duals in the same order
abbrev pub places_with : List (List Fact) → List DualsSeen → List Open
places_with [] under = []
places_with (marks ∷ more) [] = []
places_with (marks ∷ more) (duals ∷ under) = open_place marks duals.values ∷ places_with more under

-- the place that is here, and those behind it
abbrev pub place_here : OpenPlaces → Open
place_here places = open_place places.branches.marks.facts places.duals.values

abbrev pub places_behind : OpenPlaces → List Open
places_behind places = places_with (behind_of places.branches) (reverse places.behind.items)

-- all of them, the next one first
abbrev pub places_of : OpenPlaces → List Open
places_of places = if places.branches.owes then place_here places ∷ places_behind places else places_behind places

-- what open places keep: their branches are of the book, and each branch behind has its duals
pub record AreOpenPlaces (book : BookSeen) (places : OpenPlaces) : Type 0 where
  pub branches : AreBranchesOf book places.branches
  pub count : length places.behind.items ≡ length (behind_of places.branches)
