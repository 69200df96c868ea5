-- The law of moments: each is read back. For src/laws.rt.
use Rattle.std.specs.Prelude.{ℤ, ◌≡◌, Ok}
use Rattle.tail_book.specs.inside.Sound.{IsMoment}
use Rattle.tail_text.specs.Stamp.{stamp_of}
use Rattle.calendar_text.specs.Moment.{moment_text}

-- a moment that is spelled is read as itself
abbrev pub MomentsAreReadBack : Type 0
MomentsAreReadBack = (moment : ℤ) → IsMoment moment → stamp_of (moment_text moment) ≡ Ok moment
