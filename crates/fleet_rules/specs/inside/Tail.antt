-- The ranges of what a record of the fleet says.
use Rattle.std.specs.Prelude.{◌≡◌, ◌≤◌, true, List, length, All, pos}
use Rattle.tail_book.specs.Name.{is_name}
use Rattle.tail_book.specs.declared.limits.TheConstants.{FIXED_LIMIT, ITEM_LIMIT, VALUE_LIMIT}
use Rattle.tail_book.specs.Ranges.{IsWithin}
use Rattle.tail_book.specs.inside.Sound.{IsMoment}
use Rattle.table_records.specs.inside.NameLists.{AreNames}
use Rattle.fleet_rules.specs.declared.tail.RawCarry.{RawCarry}
use Rattle.fleet_rules.specs.Tail.{RawTailSeen}

-- a counter's name in its grammar, and what it has counted so far: minutes or landings
pub record IsRawCarry (c : RawCarry) : Type 0 where
  pub counter : is_name c.counter ≡ true
  pub value : IsWithin (pos 0) VALUE_LIMIT c.value

-- such values, and no more than one field may list
pub record AreCarried (carry : List RawCarry) : Type 0 where
  pub each : All IsRawCarry carry
  pub few : length carry ≤ ITEM_LIMIT

-- what holds of every record by itself: its names are in the grammar and its numbers in range
pub record IsRawTail (t : RawTailSeen) : Type 0 where
  pub name : is_name t.name ≡ true
  pub kind : is_name t.kind ≡ true
  pub at : is_name t.at ≡ true
  pub ready : IsMoment t.ready
  pub fixed : t.fixed ≤ FIXED_LIMIT
  pub tags : AreNames ITEM_LIMIT t.tags
  pub avoid : AreNames ITEM_LIMIT t.avoid
  pub carry : AreCarried t.carry
