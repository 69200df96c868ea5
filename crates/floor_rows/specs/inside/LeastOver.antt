-- The floor at an activity as the least of what each place before it brings. For src/floors.rt, src/dead.rt and others.
use Rattle.std.specs.Prelude.{ℕ, ℤ, ◌≡◌, ◌<◌, false, List, [], ◌∷◌, Option, Some, None}
use Rattle.std.specs.List.{range_with_len}
use Rattle.tail_book.specs.Seen.{BookSeen}
use Rattle.tail_book.specs.declared.place.Place.{Place}
use Rattle.tail_book.specs.declared.place.Place.TheVariants.{Carry, After}
use Rattle.tail_book.specs.Lookup.{activities, carry_of}
use Rattle.branch_marks.specs.declared.fact.Fact.{Fact}
use Rattle.branch_marks.specs.MarkTests.{is_alive, is_usable}
use Rattle.branch_marks.specs.Floors.{lesser_floor, stepped_floor, floor_at}

-- the floor of aircraft k at activity a
abbrev pub floor_of : BookSeen → List Fact → ℕ → ℕ → Option (List ℤ)
floor_of book marks k a = floor_at book marks k (After a)

-- the least of what the places of these numbers bring
abbrev pub least_over : (ℕ → Option (List ℤ)) → List ℕ → Option (List ℤ)
least_over brings [] = None
least_over brings (x ∷ places) = lesser_floor (brings x) (least_over brings places)

-- what the carry-in of aircraft k brings to b, and what activity x does, where these are the floors
abbrev pub brought_first : BookSeen → List Fact → ℕ → ℕ → Option (List ℤ)
brought_first book marks k b = stepped_floor book marks k Carry b (Some (carry_of book k))

abbrev pub brought : BookSeen → List Fact → ℕ → ℕ → (ℕ → Option (List ℤ)) → ℕ → Option (List ℤ)
brought book marks k b floor x = stepped_floor book marks k (After x) b (floor x)

-- the least at b over the carry-in and the activities before b, where these are the floors
abbrev pub least_at : BookSeen → List Fact → ℕ → (ℕ → Option (List ℤ)) → ℕ → Option (List ℤ)
least_at book marks k floor b = lesser_floor (brought_first book marks k b) (least_over (brought book marks k b floor) (range_with_len 0 b))

-- the law of floors: each is the least of what is brought
abbrev pub FloorsAreLeast : Type 0
FloorsAreLeast = (book : BookSeen) (marks : List Fact) (k b : ℕ) → b < activities book
    → floor_of book marks k b ≡ least_at book marks k (floor_of book marks k) b

-- and nothing else is
abbrev pub LeastAreFloors : Type 0
LeastAreFloors = (book : BookSeen) (marks : List Fact) (k : ℕ) (floor : ℕ → Option (List ℤ))
    → ((b : ℕ) → b < activities book → floor b ≡ least_at book marks k floor b)
    → (b : ℕ) → b < activities book → floor b ≡ floor_of book marks k b

-- where an activity is not alive, there is no floor
abbrev pub NoFloorWithout : Type 0
NoFloorWithout = (book : BookSeen) (marks : List Fact) (k b : ℕ) → b < activities book → is_alive book marks k b ≡ false → floor_of book marks k b ≡ None

-- a link that is not usable brings nothing, nothing is brought to what is not alive, and where the same is brought the least
-- is the same
pub record BroughtTells : Type 0 where
  pub unusable : (book : BookSeen) (marks : List Fact) (k : ℕ) (x : Place) (b : ℕ) (floor : Option (List ℤ))
      → is_usable book marks k x b ≡ false → stepped_floor book marks k x b floor ≡ None
  pub without : (book : BookSeen) (marks : List Fact) (k b : ℕ) (floor : ℕ → Option (List ℤ))
      → is_alive book marks k b ≡ false → least_at book marks k floor b ≡ None
  pub same : (book : BookSeen) (old new : List Fact) (k b : ℕ) (f g : ℕ → Option (List ℤ)) → brought_first book new k b ≡ brought_first book old k b
      → ((x : ℕ) → x < b → brought book new k b g x ≡ brought book old k b f x) → least_at book new k g b ≡ least_at book old k f b
