-- Curfews as a table: for each activity the types that a curfew keeps from it.
use Rattle.std.specs.Prelude.{ℕ, ℤ, ◌≡◌, ◌<◌, Bool, ◌&&◌, ◌||◌, length, nat_eq, slice_index_or}
use Rattle.std.specs.List.{list_any}
use Rattle.tail_book.specs.Seen.{CurfewSeen, BookSeen}
use Rattle.tail_book.specs.Lookup.{activities, is_flight, from_port, to_port, start_of, end_of}
use Rattle.tail_book.specs.Curfew.{local_minute, in_window, forbids}
use Rattle.turn_rules.specs.declared.number_set.NumberSet.{NumberSet}
use Rattle.turn_rules.specs.declared.curfew_table.CurfewTable.{CurfewTable}
use Rattle.turn_rules.specs.inside.NumberSet.{has}

-- the curfew is one of this airport, and that moment lies in its window
abbrev pub is_shut : BookSeen → CurfewSeen → ℕ → ℤ → Bool
is_shut book curfew port moment = nat_eq curfew.airport port && in_window curfew.from curfew.to (local_minute book port moment)

-- activity a starts where the curfew holds and is one for starts, or lands where it holds and is one for landings
abbrev pub meets : BookSeen → ℕ → CurfewSeen → Bool
meets book a curfew =
    (curfew.starts && is_shut book curfew (from_port book a) (start_of book a))
    || (curfew.landings && is_shut book curfew (to_port book a) (end_of book a))

-- the curfew keeps aircraft of type t from activity a
abbrev pub stops_type : BookSeen → ℕ → ℕ → CurfewSeen → Bool
stops_type book t a curfew =
    (curfew.starts && forbids book curfew t (from_port book a) (start_of book a))
    || (curfew.landings && forbids book curfew t (to_port book a) (end_of book a))

-- some curfew keeps aircraft of type t from activity a; none keeps them from ground time
abbrev pub is_type_curfewed : BookSeen → ℕ → ℕ → Bool
is_type_curfewed book t a = is_flight book a && list_any (stops_type book t a) book.rules.curfews

-- the set of an activity without any type
abbrev pub no_types : NumberSet
no_types = record { bits = 0 }

-- the table has a set for each activity of the book, and the set has a type exactly where a curfew keeps that type from the activity
pub record AreCurfewsOf (book : BookSeen) (table : CurfewTable) : Type 0 where
  pub sets : length table.closed.items ≡ activities book
  pub each : (t a : ℕ) → t < length book.rules.kinds → a < activities book → has (slice_index_or table.closed.items a no_types) t ≡ is_type_curfewed book t a
