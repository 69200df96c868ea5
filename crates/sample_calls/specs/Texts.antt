-- Moments that are put off by minutes, where both are given.
use Rattle.std.specs.Prelude.{ℕ, ℤ, pos, ◌+ℤ◌, Result, Ok, Err}
use Rattle.tail_text.specs.Bad.{bad}
use Rattle.tail_text.specs.declared.bad.Bad.{Bad}

-- the moment so many minutes later, where both are given
abbrev pub later : Result ℤ Bad → Result ℕ Bad → Result ℤ Bad
later (Ok moment) (Ok minutes) = Ok (moment +ℤ pos minutes)
later (Ok moment) (Err why) = Err bad
later (Err why) minutes = Err bad
