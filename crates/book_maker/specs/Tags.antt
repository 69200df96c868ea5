-- The tags that the tables name. They are not declared, so they are numbered as they come.
use Rattle.std.specs.Prelude.{ℕ, List, ◌++◌}
use Rattle.std.specs.List.{flat_map}
use Rattle.timetable_reader.specs.Activity.{RawActivitySeen}
use Rattle.fleet_rules.specs.Tail.{RawTailSeen}
use Rattle.book_maker.specs.NameNumbers.{distinct_names}

-- the tags that the tables name, in order of first appearance, the fleet before the timetable
abbrev pub tags_of : List RawTailSeen → List RawActivitySeen → List (List ℕ)
tags_of tails activities = distinct_names (flat_map (λ t. t.tags) tails ++ flat_map (λ a. a.tags) activities)
