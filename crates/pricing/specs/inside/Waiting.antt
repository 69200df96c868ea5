-- What waits at an airport: labels of flights that ended there, each in the line of a window.
use Rattle.std.specs.Prelude.{ℕ, ℤ, pos, ◌≡◌, ◌<◌, ◌≤◌, ◌+◌, ◌+ℤ◌, ◌≤ℤ◌, ◌<ℤ◌, true, false, List, Contains, length, slice_index_or}
use Rattle.std.specs.Int.{int_max}
use Rattle.tail_book.specs.Seen.{BookSeen, CounterSeen}
use Rattle.tail_book.specs.TableSeen.{CostTableSeen}
use Rattle.tail_book.specs.declared.limits.TheConstants.{LAST_MOMENT}
use Rattle.tail_book.specs.declared.place.Place.TheVariants.{After}
use Rattle.tail_book.specs.declared.rules.Band.{Band}
use Rattle.tail_book.specs.Lookup.{activities, to_port, is_flight, start_of, end_of, from_port, kind_of, type_turn, port_turn}
use Rattle.tail_book.specs.Link.{gap}
use Rattle.turn_rules.specs.inside.NumberSet.{has}
use Rattle.maint_counters.specs.inside.StepTable.{no_counter}
use Rattle.branch_marks.specs.declared.fact.Fact.{Fact}
use Rattle.branch_marks.specs.declared.fact.Fact.TheVariants.{Must, Cut, Tie}
use Rattle.branch_marks.specs.declared.named.Named.TheVariants.{Nothing}
use Rattle.branch_marks.specs.Marks.{IsAlive}
use Rattle.branch_marks.specs.inside.Named.{named_by}
use Rattle.branch_marks.specs.inside.MarkTables.{tied_after}
use Rattle.branch_marks.specs.Weights.{arc_weight}
use Rattle.label_store.specs.Seen.{StoreSeen}
use Rattle.label_store.specs.Buckets.{row_at}
use Rattle.label_store.specs.Store.{bucket_of, node_of}
use Rattle.label_store.specs.inside.Laws.{IsCoveredAt}
use Rattle.pricing.specs.declared.stand.Stand.{Stand}
use Rattle.pricing.specs.declared.waiting.Waiting.{Waiting}
use Rattle.pricing.specs.declared.window.Window.{Window}
use Rattle.maint_counters.specs.inside.Counts.{AreCounts}
use Rattle.pricing.specs.Rows.{counters_of}
use Rattle.pricing.specs.inside.Growth.{Grows, Tried}
use Rattle.pricing.specs.inside.Lines.{IsWindow, clears, key_row}

-- the label of an entry, and its activity
abbrev pub label_at : Waiting → ℕ → ℕ
label_at waiting e = slice_index_or waiting.labels.items e 0

abbrev pub place_at : Waiting → ℕ → ℕ
place_at waiting e = slice_index_or waiting.places.items e 0

-- what stands where there is no window of a number, and the window of a number
abbrev pub no_window : Window
no_window = record { lo = pos 0; hi = pos 0; lasting = false; cleared = record { bits = 0 } }

abbrev pub window_at : List Window → ℕ → Window
window_at windows i = slice_index_or windows i no_window

-- the counters that a window has as cleared are those that its shortest stay clears
abbrev pub AreCleared : List CounterSeen → ℕ → Window → Type 0
AreCleared counters port window =
    (c : ℕ) → c < length counters → has window.cleared c ≡ clears port window.lo (slice_index_or counters c no_counter)

-- a window of an airport
pub record IsWindowOf (bands : List Band) (counters : List CounterSeen) (port : ℕ) (window : Window) : Type 0 where
  pub alike : IsWindow bands counters port window.lo window.hi window.lasting
  pub cleared : AreCleared counters port window

-- windows of an airport that join, from 0 minutes to more than anyone can wait
pub record AreWindows (bands : List Band) (counters : List CounterSeen) (port : ℕ) (windows : List Window) : Type 0 where
  pub some : 1 ≤ length windows
  pub first : (window_at windows 0).lo ≡ pos 0
  pub each : (i : ℕ) → i < length windows → IsWindowOf bands counters port (window_at windows i)
  pub join : (i : ℕ) → i + 1 < length windows → (window_at windows (i + 1)).lo ≡ (window_at windows i).hi
  pub last : (i : ℕ) → i + 1 ≡ length windows → LAST_MOMENT <ℤ (window_at windows i).hi

-- the minutes that a flight has waited for when it enters the line of a window: the turn too, for nobody leaves before it
abbrev pub enters_after : ℤ → Window → ℤ
enters_after turn window = int_max window.lo turn

-- a flight has waited so long
abbrev pub HasWaited : BookSeen → Stand → Window → ℕ → Type 0
HasWaited book stand window x = (end_of book x +ℤ enters_after stand.turn window) ≤ℤ stand.moment

-- the flight at a place of a list
abbrev pub flight_at : List ℕ → ℕ → ℕ
flight_at flights q = slice_index_or flights q 0

-- of two flights next to each other the first ends no later
abbrev pub EndsRise : BookSeen → List ℕ → Type 0
EndsRise book flights = (q : ℕ) → q + 1 < length flights → end_of book (flight_at flights q) ≤ℤ end_of book (flight_at flights (q + 1))

-- a flight of the book that ends at the airport
pub record IsArrival (book : BookSeen) (port x : ℕ) : Type 0 where
  pub place : x < activities book
  pub there : to_port book x ≡ port
  pub flight : is_flight book x ≡ true

-- a flight that any later departure there may follow, if that one's time and marks let it: no Must lies behind it, which are
-- all below the floor, and no Tie begins at it
pub record MayWait (book : BookSeen) (marks : List Fact) (stand : Stand) (x : ℕ) : Type 0 where
  pub arrival : IsArrival book stand.port x
  pub behind : stand.floor ≤ x + 1
  pub untied : named_by (tied_after x) marks ≡ Nothing

-- all flights of the book that end at the airport, in order of their ends
pub record AreFlights (book : BookSeen) (port : ℕ) (flights : List ℕ) : Type 0 where
  pub arrivals : (q : ℕ) → q < length flights → IsArrival book port (flight_at flights q)
  pub every : (x : ℕ) → IsArrival book port x → Contains flights x
  pub order : (q r : ℕ) → q ≤ r → r < length flights → end_of book (flight_at flights q) ≤ℤ end_of book (flight_at flights r)

-- the store has a bucket for each activity, and its rows are a weight and counts
pub record IsReadable (book : BookSeen) (store : StoreSeen) : Type 0 where
  pub nodes : length store.buckets ≡ activities book
  pub width : store.width ≡ length book.rules.counters + 1
  pub counts : (j : ℕ) → j < length store.rows → AreCounts (counters_of (row_at store.rows j))

-- an entry of the line of window i: a label of a flight that may wait and has waited long enough, with its keys
pub record IsEntryOf (book : BookSeen) (marks : List Fact) (stand : Stand) (window : Window) (store : StoreSeen) (x j : ℕ) (key : List ℤ) : Type 0 where
  pub may : MayWait book marks stand x
  pub label : Contains (bucket_of store x) j
  pub ready : HasWaited book stand window x
  pub is_key : key ≡ key_row book stand.port window.lo window.lasting x (row_at store.rows j)

abbrev pub IsEntry : BookSeen → List Fact → Stand → List Window → StoreSeen → Waiting → ℕ → Type 0
IsEntry book marks stand windows store waiting e =
    IsEntryOf book marks stand (window_at windows (node_of waiting.keys e)) store (place_at waiting e) (label_at waiting e) (row_at waiting.keys.rows e)

-- there is room for keys of a weight, a moment and each counter, and a line for each window
pub record IsRoomy (book : BookSeen) (windows : List Window) (waiting : Waiting) : Type 0 where
  pub width : waiting.keys.width ≡ 2 + length book.rules.counters
  pub nodes : length waiting.keys.buckets ≡ length windows

-- all that waits are such entries
pub record IsWaiting (book : BookSeen) (marks : List Fact) (stand : Stand) (windows : List Window) (store : StoreSeen) (waiting : Waiting) : Type 0 where
  pub roomy : IsRoomy book windows waiting
  pub labels : length waiting.labels.items ≡ length waiting.keys.rows
  pub places : length waiting.places.items ≡ length waiting.keys.rows
  pub entries : (e : ℕ) → e < length waiting.keys.rows → IsEntry book marks stand windows store waiting e

-- the label of a row at a flight is covered in the line of a window
abbrev pub IsHeld : BookSeen → Stand → List Window → StoreSeen → Waiting → ℕ → ℕ → ℕ → Type 0
IsHeld book stand windows store waiting i x j =
    IsCoveredAt waiting.keys i (key_row book stand.port (window_at windows i).lo (window_at windows i).lasting x (row_at store.rows j))

-- and so is each label of the flight
abbrev pub AreHeld : BookSeen → Stand → List Window → StoreSeen → Waiting → ℕ → ℕ → Type 0
AreHeld book stand windows store waiting i x = (j : ℕ) → Contains (bucket_of store x) j → IsHeld book stand windows store waiting i x j

-- more waits in the line of window i; what was there is where it was, or covered
pub record Joins (i : ℕ) (old new : Waiting) : Type 0 where
  pub keys : Grows i old.keys new.keys
  pub labels : (e : ℕ) → e < length old.keys.rows → label_at new e ≡ label_at old e
  pub places : (e : ℕ) → e < length old.keys.rows → place_at new e ≡ place_at old e

-- of the flights in order the first so many have entered the line of window i: each has waited long enough, and is held
-- where it may wait
pub record HaveEntered (book : BookSeen) (marks : List Fact) (stand : Stand) (windows : List Window) (flights : List ℕ) (store : StoreSeen)
    (waiting : Waiting) (i upto : ℕ) : Type 0 where
  pub some : upto ≤ length flights
  pub gone : (q : ℕ) → q < upto → HasWaited book stand (window_at windows i) (flight_at flights q)
  pub held : (q : ℕ) → q < upto → MayWait book marks stand (flight_at flights q) → AreHeld book stand windows store waiting i (flight_at flights q)

-- and the others have not waited long enough
abbrev pub ArePending : BookSeen → Stand → List Window → List ℕ → ℕ → ℕ → Type 0
ArePending book stand windows flights i upto = (q : ℕ) → upto ≤ q → q < length flights
    → stand.moment <ℤ (end_of book (flight_at flights q) +ℤ enters_after stand.turn (window_at windows i))

-- and so for each window
pub record AreEntered (book : BookSeen) (marks : List Fact) (stand : Stand) (windows : List Window) (flights : List ℕ) (store : StoreSeen)
    (waiting : Waiting) (entered : List ℕ) : Type 0 where
  pub count : length entered ≡ length windows
  pub each : (i : ℕ) → i < length windows → HaveEntered book marks stand windows flights store waiting i (slice_index_or entered i 0)

-- a row at x, with its values as they stood, was tried on the way to b, unless x has outlived the window
abbrev pub IsTriedBelow : CostTableSeen → BookSeen → ℕ → List ℤ → StoreSeen → StoreSeen → ℤ → ℕ → ℕ → ℕ → Type 0
IsTriedBelow table book k duals old store hi b x j =
    gap book k (After x) b <ℤ hi → Tried book k store (arc_weight table book k duals (After x) b) (After x) b (row_at old.rows j)

-- and so was an entry
abbrev pub IsTriedIn : CostTableSeen → BookSeen → ℕ → List ℤ → StoreSeen → StoreSeen → ℤ → ℕ → Waiting → ℕ → Type 0
IsTriedIn table book k duals old store hi b waiting e = IsTriedBelow table book k duals old store hi b (place_at waiting e) (label_at waiting e)

-- and so was each entry of the line of window i
abbrev pub AreTriedIn : CostTableSeen → BookSeen → ℕ → List ℤ → StoreSeen → StoreSeen → List Window → ℕ → Waiting → ℕ → Type 0
AreTriedIn table book k duals old store windows b waiting i =
    (e : ℕ) → Contains (bucket_of waiting.keys i) e → IsTriedIn table book k duals old store (window_at windows i).hi b waiting e

-- each flight that has waited long enough for window i is held in its line
abbrev pub AreAllHeld : BookSeen → List Fact → ℕ → Stand → List Window → StoreSeen → Waiting → ℕ → ℕ → Type 0
AreAllHeld book marks k stand windows store waiting b i =
    (x : ℕ) → MayWait book marks stand x → enters_after stand.turn (window_at windows i) ≤ℤ gap book k (After x) b
    → AreHeld book stand windows store waiting i x

-- a departure of aircraft k that any flight which may wait can be followed by: a flight that is alive, with no Cut and no Tie
-- into it, at the stand's airport and moment; the floor is above all Musts before it, and none other is that high
pub record IsOpen (book : BookSeen) (marks : List Fact) (k : ℕ) (stand : Stand) (b : ℕ) : Type 0 where
  pub flight : is_flight book b ≡ true
  pub airport : from_port book b ≡ stand.port
  pub moment : start_of book b ≡ stand.moment
  pub turn : stand.turn ≡ int_max (type_turn book (kind_of book k)) (port_turn book stand.port)
  pub forward : pos 0 ≤ℤ stand.turn
  pub alive : IsAlive book marks k b
  pub uncut : (c : ℕ) → Contains marks (Cut c b) → ⊥
  pub untied : (c : ℕ) → Contains marks (Tie c b) → ⊥
  pub musts : (c : ℕ) → c < b → Contains marks (Must k c) → c < stand.floor
  pub least : (c : ℕ) → c + 1 ≡ stand.floor → Contains marks (Must k c) × (c < b)
