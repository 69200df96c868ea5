-- The sets of known names as contracts see them. For src/known.rt.
use Rattle.book_maker.specs.inside.Known.{KnownNames}
use Rattle.book_maker.specs.declared.known.Known.TheInside.{Inside}

-- each set as the list of its names
abbrev pub names_in : Inside → KnownNames
names_in k = record {
  kinds = k.kinds.keys;
  airports = k.airports.keys;
  counters = k.counters.keys;
  tails = k.tails.keys;
  tags = k.tags.keys;
}
