-- The fields of an activity as contracts see them. For src/activity.rt.
use Rattle.timetable_reader.specs.Activity.{RawActivitySeen}
use Rattle.timetable_reader.specs.declared.activity.RawActivity.TheInside.{Inside}

-- each field, with a list for a `Vec`
abbrev pub seen_of : Inside → RawActivitySeen
seen_of a = record {
  id = a.id;
  flight = a.flight;
  from = a.from;
  to = a.to;
  start = a.start;
  end = a.end;
  types = a.types.items;
  tags = a.tags.items;
  tail = a.tail;
  resets = a.resets.items;
}
