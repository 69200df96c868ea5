-- The ranges of what a record of the timetable says.
use Rattle.std.specs.Prelude.{◌≡◌, true, false, [], IfSome, pos, ◌+ℤ◌, ◌≤ℤ◌}
use Rattle.tail_book.specs.Name.{is_name}
use Rattle.tail_book.specs.declared.limits.TheConstants.{ITEM_LIMIT, SPAN_LIMIT}
use Rattle.tail_book.specs.inside.Sound.{IsMoment}
use Rattle.table_records.specs.inside.NameLists.{AreNames}
use Rattle.timetable_reader.specs.Activity.{RawActivitySeen}

-- what holds of every record by itself: its names are in the grammar, its times are in range, it lasts from a minute to
-- two days, on the ground it stays where it is, and in flight it resets nothing
pub record IsRawActivity (a : RawActivitySeen) : Type 0 where
  pub id : is_name a.id ≡ true
  pub from : is_name a.from ≡ true
  pub to : is_name a.to ≡ true
  pub start : IsMoment a.start
  pub end : IsMoment a.end
  pub least : (a.start +ℤ pos 1) ≤ℤ a.end
  pub most : a.end ≤ℤ (a.start +ℤ SPAN_LIMIT)
  pub types : AreNames ITEM_LIMIT a.types
  pub tags : AreNames ITEM_LIMIT a.tags
  pub tail : IfSome a.tail (λ name. is_name name ≡ true)
  pub resets : AreNames ITEM_LIMIT a.resets
  pub ground : a.flight ≡ false → a.from ≡ a.to
  pub in_flight : a.flight ≡ true → a.resets ≡ []
