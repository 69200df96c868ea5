-- The words of a search, said of its task: an aircraft of a book, by a table of costs, under marks and duals.
-- For src/reach.rt, src/completion.rt and others.
use Rattle.std.specs.Prelude.{ℕ, ℤ, List, Option}
use Rattle.tail_book.specs.declared.place.Place.{Place}
use Rattle.branch_marks.specs.Marks.{IsUsable}
use Rattle.branch_marks.specs.Weights.{arc_weight}
use Rattle.label_store.specs.Seen.{StoreSeen}
use Rattle.pricing.specs.declared.end.RouteEnd.{RouteEnd}
use Rattle.pricing.specs.inside.Ends.{IsEnd}
use Rattle.pricing.specs.inside.Truth.{AreTrue, IsTrueAt, IsNext, first_row, row_of}
use Rattle.route_search.specs.declared.completion.Way.{Way}
use Rattle.route_search.specs.declared.end.Ends.{Ends}
use Rattle.route_search.specs.declared.least_within.LeastWithin.{LeastWithin}
use Rattle.route_search.specs.declared.task.Task.{Task}
use Rattle.route_search.specs.LeastWithin.{IsFoundWithin}
use Rattle.route_search.specs.inside.Completion.{AreBehind, AreBehindFrom, IsBehind, IsCompletion, IsLeastAmong, IsWay, IsWayOrNone}
use Rattle.route_search.specs.inside.Ends.{AreEnds, IsLeastWithinLimitAt}
use Rattle.route_search.specs.inside.Followers.{AreFollowers}
use Rattle.route_search.specs.inside.Reach.{AreDone, AreTried, GoesOnWithin, IsDone, IsTried}

-- rows, and what a link gives
abbrev pub first_row_for : Task → List ℤ
first_row_for task = first_row task.book.now task.k

abbrev pub row_for : Task → StoreSeen → Option ℕ → List ℤ
row_for task store row = row_of task.book.now task.k store row

abbrev pub AreTrueFor : Task → StoreSeen → Type 0
AreTrueFor task store = AreTrue task.table.now task.book.now task.marks.now.facts task.k task.duals.now.values store

abbrev pub IsTrueFor : Task → StoreSeen → Option ℕ → Type 0
IsTrueFor task store row = IsTrueAt task.table.now task.book.now task.marks.now.facts task.k task.duals.now.values store row

abbrev pub IsUsableFor : Task → Place → ℕ → Type 0
IsUsableFor task x b = IsUsable task.book.now task.marks.now.facts task.k x b

abbrev pub arc_weight_for : Task → Place → ℕ → ℤ
arc_weight_for task x b = arc_weight task.table.now task.book.now task.k task.duals.now.values x b

abbrev pub IsNextFor : Task → Place → List ℤ → ℕ → List ℤ → Type 0
IsNextFor task x row b next = IsNext task.table.now task.book.now task.marks.now.facts task.k task.duals.now.values x row b next

abbrev pub AreFollowersFor : Task → ℕ → List ℕ → Type 0
AreFollowersFor task x next = AreFollowers task.book.now task.marks.now.facts task.k x next

-- what can still come
abbrev pub IsLeastAmongFor : Task → Place → List ℕ → ℕ → Option ℤ → Type 0
IsLeastAmongFor task x firsts i low =
    IsLeastAmong task.table.now task.book.now task.marks.now.facts task.k task.duals.now.values x firsts i low

abbrev pub IsCompletionFor : Task → Place → Option ℤ → Type 0
IsCompletionFor task x low = IsCompletion task.table.now task.book.now task.marks.now.facts task.k task.duals.now.values x low

abbrev pub IsBehindFor : Task → ℕ → Option ℤ → Type 0
IsBehindFor task a low = IsBehind task.table.now task.book.now task.marks.now.facts task.k task.duals.now.values a low

abbrev pub AreLaterBehindFor : Task → ℕ → List (Option ℤ) → Type 0
AreLaterBehindFor task n behind = AreBehindFrom task.table.now task.book.now task.marks.now.facts task.k task.duals.now.values n behind

abbrev pub AreBehindFor : Task → List (Option ℤ) → Type 0
AreBehindFor task behind = AreBehind task.table.now task.book.now task.marks.now.facts task.k task.duals.now.values behind

abbrev pub IsWayFor : Task → Place → ℕ → Way → Type 0
IsWayFor task x b way = IsWay task.table.now task.book.now task.marks.now.facts task.k task.duals.now.values x b way

abbrev pub IsWayOrNoneFor : Task → Place → ℕ → Option Way → Type 0
IsWayOrNoneFor task x b way = IsWayOrNone task.table.now task.book.now task.marks.now.facts task.k task.duals.now.values x b way

-- what was tried as far as a limit
abbrev pub IsTriedFor : Task → ℤ → StoreSeen → Place → List ℤ → ℕ → Type 0
IsTriedFor task limit store x row b =
    IsTried task.table.now task.book.now task.marks.now.facts task.k task.duals.now.values limit store x row b

abbrev pub GoesOnWithinFor : Task → ℤ → StoreSeen → Place → List ℤ → Type 0
GoesOnWithinFor task limit store x row = GoesOnWithin task.table.now task.book.now task.marks.now.facts task.k task.duals.now.values limit store x row

abbrev pub AreTriedFor : Task → ℤ → StoreSeen → ℕ → StoreSeen → ℕ → Type 0
AreTriedFor task limit old x store b =
    AreTried task.table.now task.book.now task.marks.now.facts task.k task.duals.now.values limit old x store b

abbrev pub IsDoneFor : Task → ℤ → StoreSeen → ℕ → Type 0
IsDoneFor task limit store x = IsDone task.table.now task.book.now task.marks.now.facts task.k task.duals.now.values limit store x

abbrev pub AreDoneFor : Task → ℤ → StoreSeen → ℕ → Type 0
AreDoneFor task limit store n = AreDone task.table.now task.book.now task.marks.now.facts task.k task.duals.now.values limit store n

-- where the aircraft may end, and what is found
abbrev pub IsEndFor : Task → StoreSeen → RouteEnd → Type 0
IsEndFor task store end = IsEnd task.book.now task.marks.now.facts task.k store end

abbrev pub IsLeastWithinLimitAtFor : Task → StoreSeen → Ends → ℕ → Type 0
IsLeastWithinLimitAtFor task store ends x = IsLeastWithinLimitAt task.marks.now.facts task.k store ends x

abbrev pub AreEndsFor : Task → StoreSeen → ℤ → ℕ → Ends → Type 0
AreEndsFor task store cut n ends = AreEnds task.book.now task.marks.now.facts task.k store cut n ends

abbrev pub IsFoundWithinFor : Task → ℤ → LeastWithin → Type 0
IsFoundWithinFor task cut found = IsFoundWithin task.table.now task.book.now task.marks.now.facts task.k task.duals.now.values cut found
