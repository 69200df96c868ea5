-- What is true of the stretches of a picture, and of the pieces in them.
use Rattle.std.specs.Prelude.{ℕ, ℤ, pos, ◌-ℤ◌, ◌≡◌, ◌≤ℤ◌, ◌<ℤ◌, All, AllPairs}
use Rattle.std.specs.Bool.{Decides}
use Rattle.std.specs.Int.{int_rem_euclid}
use Rattle.tail_book.specs.Seen.{BookSeen, CurfewSeen}
use Rattle.tail_book.specs.Curfew.{in_window, local_minute}
use Rattle.tail_book.specs.Lookup.{airport_of, offset_at}
use Rattle.tail_book.specs.Ranges.{IsWithin}
use Rattle.tail_book.specs.declared.limits.TheConstants.{DAY}
use Rattle.plan_picture.specs.Curfews.{begins, lasts}
use Rattle.plan_picture.specs.Layout.{first_moment}
use Rattle.plan_picture.specs.Stretches.{stretches}
use Rattle.plan_picture.specs.declared.stretches.Stretch.{Stretch}

-- each moment of the stretch is by its clocks
abbrev pub KeepsClocks : BookSeen → ℕ → Stretch → Type 0
KeepsClocks book port stretch = (t : ℤ) → stretch.from ≤ℤ t → t <ℤ stretch.to → offset_at book port t ≡ stretch.offset

-- so it is in each stretch, as the moments of an airport's changes rise
abbrev pub StretchesKeepClocks : Type 0
StretchesKeepClocks =
    (book : BookSeen) (port : ℕ) → AllPairs (λ a b. a.at <ℤ b.at) (airport_of book port).changes → All (KeepsClocks book port) (stretches book port)

-- the minute of the local day, as a curfew's ends are
abbrev pub IsMinute : ℤ → Type 0
IsMinute z = IsWithin (pos 0) (DAY -ℤ pos 1) z

-- a piece that is repeated day by day is dark where a moment comes: not so far behind its beginning as it lasts
abbrev pub IsShaded : BookSeen → Stretch → CurfewSeen → ℤ → Type 0
IsShaded book stretch curfew t =
    int_rem_euclid ((t -ℤ first_moment book) -ℤ pos (begins stretch.offset curfew)) DAY <ℤ pos (lasts curfew)

-- so it is exactly where the local minute of the moment lies in the curfew's window
abbrev pub PiecesShadeCurfews : Type 0
PiecesShadeCurfews =
    (book : BookSeen) (curfew : CurfewSeen) (stretch : Stretch) (t : ℤ) → IsMinute curfew.from → IsMinute curfew.to
    → offset_at book curfew.airport t ≡ stretch.offset
    → Decides (in_window curfew.from curfew.to (local_minute book curfew.airport t)) (IsShaded book stretch curfew t)
