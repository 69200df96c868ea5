-- What a reader answers to a text that is not in its grammar.
use Rattle.tail_text.specs.declared.bad.Bad.{Bad}

-- the one answer
abbrev pub bad : Bad
bad = record {}
