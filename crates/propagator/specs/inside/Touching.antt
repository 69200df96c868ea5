-- What new facts leave to be looked at again for one aircraft: flags of activities.
use Rattle.std.specs.Prelude.{ℕ, ℤ, ◌≡◌, ◌≢◌, ◌<◌, ◌≤◌, ◌++◌, ⊤, List, [], ◌∷◌, Bool, true, false, Option, None, Some, length, take, slice_index_or}
use Rattle.tail_book.specs.Seen.{BookSeen}
use Rattle.tail_book.specs.declared.place.Place.{Place}
use Rattle.tail_book.specs.Lookup.{activities}
use Rattle.tail_book.specs.Numbers.{contains}
use Rattle.branch_marks.specs.declared.fact.Fact.{Fact}
use Rattle.branch_marks.specs.MarkTests.{is_alive, lets_go, lets_end}
use Rattle.branch_marks.specs.Following.{IsDeadBy, IsDead}
use Rattle.floor_rows.specs.inside.FloorRow.{FloorRowSeen, floor_in, IsRowOf}
use Rattle.branch_marks.specs.Floors.{floors}
use Rattle.floor_rows.specs.inside.LeastOver.{floor_of, least_at}
use Rattle.propagator.specs.inside.Settling.{IsSettledFor}

-- the flag of a number
abbrev pub is_set : List Bool → ℕ → Bool
is_set flags i = slice_index_or flags i false

-- what is not set now was not set before, and is none of these numbers
abbrev pub AreSetToo : List ℕ → List Bool → List Bool → Type 0
AreSetToo numbers old new = (i : ℕ) → is_set new i ≡ false → (is_set old i ≡ false) × (contains numbers i ≡ false)

-- what is not set now was not set before, and lies below n
abbrev pub AreSetFrom : ℕ → List Bool → List Bool → Type 0
AreSetFrom n old new = (i : ℕ) → i < length new → is_set new i ≡ false → (is_set old i ≡ false) × (i < n)

-- the row is right but where flags say that it may not be: each floor that is not due is the least of what the floors before
-- it bring, and each activity that is not to be asked is alive for the aircraft only where it is not dead by its floor
pub record IsTouched (book : BookSeen) (marks : List Fact) (k : ℕ) (row : FloorRowSeen) (due ask : List Bool) : Type 0 where
  pub floors : (b : ℕ) → b < activities book → is_set due b ≡ false → floor_in row b ≡ least_at book marks k (floor_in row) b
  pub asked : (a : ℕ) → a < activities book → is_set ask a ≡ false → is_alive book marks k a ≡ true → ¬ IsDeadBy book marks k a (floor_in row a)

-- with the fact aircraft k loses activity c, and nothing else
pub record LosesOnly (book : BookSeen) (marks : List Fact) (fact : Fact) (k c : ℕ) : Type 0 where
  pub gone : is_alive book (marks ++ fact ∷ []) k c ≡ false
  pub rest : (a : ℕ) → a ≢ c → is_alive book (marks ++ fact ∷ []) k a ≡ is_alive book marks k a
  pub go : (x : Place) (b : ℕ) → lets_go k x b fact ≡ true
  pub end : (x : Place) → lets_end k x fact ≡ true

-- the fact leaves a row that was right but for these flags as right, but for those
abbrev pub Touches : BookSeen → ℕ → Fact → FloorRowSeen → List Bool → List Bool → FloorRowSeen → List Bool → List Bool → Type 0
Touches book k fact row due ask next due' ask' =
    (marks : List Fact) → IsTouched book marks k row due ask → IsTouched book (marks ++ fact ∷ []) k next due' ask'

-- where with a fact aircraft k loses activity c alone, the fact leaves a row that was right but for these flags as right,
-- but for those
abbrev pub TouchesLost : BookSeen → ℕ → ℕ → FloorRowSeen → List Bool → List Bool → FloorRowSeen → List Bool → List Bool → Type 0
TouchesLost book k c row due ask next due' ask' =
    (marks : List Fact) (fact : Fact) → LosesOnly book marks fact k c
    → IsTouched book marks k row due ask → IsTouched book (marks ++ fact ∷ []) k next due' ask'

-- these are the floors that the first n facts leave, and nothing was dead for the aircraft then; where nothing was seen, any
-- list will do
abbrev pub IsReadyFor : BookSeen → List Fact → ℕ → List (Option (List ℤ)) → Option ℕ → Type 0
IsReadyFor book facts k listed None = ⊤
IsReadyFor book facts k listed (Some n) = (n ≤ length facts) × IsSettledFor book (take n facts) k × (listed ≡ floors book (take n facts) k)

-- the floors below b are those of the marks, and the row is right but where flags say that it may not be
pub record IsRenewing (book : BookSeen) (marks : List Fact) (k b : ℕ) (row : FloorRowSeen) (due ask : List Bool) : Type 0 where
  pub room : IsRowOf book row
  pub below : (a : ℕ) → a < b → floor_in row a ≡ floor_of book marks k a
  pub touched : IsTouched book marks k row due ask

-- what is dead for aircraft k is below n, and to be asked
abbrev pub IsAskedBelow : BookSeen → List Fact → ℕ → ℕ → List Bool → Type 0
IsAskedBelow book marks k n ask = (a : ℕ) → IsDead book marks k a → (is_set ask a ≡ true) × (a < n)
