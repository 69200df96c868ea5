-- Names as the tables write them: a text in the grammar of names is one, and no other is. For src/names.rt.
use Rattle.std.specs.Prelude.{ℕ, List, if◌then◌else◌, Result, Ok, Err}
use Rattle.tail_book.specs.Name.{is_name}
use Rattle.tail_text.specs.Bad.{bad}
use Rattle.tail_text.specs.declared.bad.Bad.{Bad}

-- the name that the text is
abbrev pub name_of : List ℕ → Result (List ℕ) Bad
name_of s = if is_name s then Ok s else Err bad
