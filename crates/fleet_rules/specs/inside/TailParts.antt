-- The fields of an aircraft as contracts see them. For src/tail.rt.
use Rattle.fleet_rules.specs.Tail.{RawTailSeen}
use Rattle.fleet_rules.specs.declared.tail.RawTail.TheInside.{Inside}

-- each field, with a list for a `Vec`
abbrev pub seen_of : Inside → RawTailSeen
seen_of t = record {
  name = t.name;
  kind = t.kind;
  at = t.at;
  ready = t.ready;
  fixed = t.fixed;
  tags = t.tags.items;
  avoid = t.avoid.items;
  carry = t.carry.items;
}
