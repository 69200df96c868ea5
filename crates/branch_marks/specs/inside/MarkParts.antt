-- What the facts of each kind leave open, apart: each test here asks one kind alone, and all others pass it.
-- For src/marks/questions.rt.
use Rattle.std.specs.Prelude.{ℕ, ◌+◌, List, Bool, true, ◌&&◌, ◌||◌, not, nat_eq, nat_lt, nat_le}
use Rattle.std.specs.List.{list_all}
use Rattle.tail_book.specs.Seen.{BookSeen}
use Rattle.tail_book.specs.declared.place.Place.{Place}
use Rattle.tail_book.specs.declared.place.Place.TheVariants.{Carry, After}
use Rattle.branch_marks.specs.declared.fact.Fact.{Fact}
use Rattle.branch_marks.specs.declared.fact.Fact.TheVariants.{Bar, Must, Cut, Tie}
use Rattle.branch_marks.specs.MarkTests.{is_alive, is_alive_at, is_at, lets_go}

-- the least number of an activity behind the place
abbrev pub first_after : Place → ℕ
first_after Carry = 0
first_after (After x) = x + 1

-- the fact is no Must of aircraft k in a range of activities
abbrev pub is_no_must_in : ℕ → ℕ → ℕ → Fact → Bool
is_no_must_in k low high (Bar j c) = true
is_no_must_in k low high (Must j c) = not (nat_eq j k && (nat_le low c && nat_lt c high))
is_no_must_in k low high (Cut c d) = true
is_no_must_in k low high (Tie c d) = true

-- the fact does not cut b from x
abbrev pub leaves_link : Place → ℕ → Fact → Bool
leaves_link x b (Bar j c) = true
leaves_link x b (Must j c) = true
leaves_link x b (Cut c d) = not (is_at x c && nat_eq d b)
leaves_link x b (Tie c d) = true

-- the fact ties nothing else behind x, and nothing else before b
abbrev pub ties_only : Place → ℕ → Fact → Bool
ties_only x b (Bar j c) = true
ties_only x b (Must j c) = true
ties_only x b (Cut c d) = true
ties_only x b (Tie c d) = (not (is_at x c) || nat_eq d b) && (not (nat_eq d b) || is_at x c)

-- the fact ties nothing behind x
abbrev pub ties_nothing : Place → Fact → Bool
ties_nothing x (Bar j c) = true
ties_nothing x (Must j c) = true
ties_nothing x (Cut c d) = true
ties_nothing x (Tie c d) = not (is_at x c)

-- the link from x to b is open to the aircraft: both ends are alive for it, and each fact lets it go
abbrev pub is_open : BookSeen → List Fact → ℕ → Place → ℕ → Bool
is_open book marks k x b = (is_alive book marks k b && is_alive_at book marks k x) && list_all (lets_go k x b) marks
