-- The curfews of an airport as bands over all days: a piece of each day, in UTC, for each stretch in which the clocks do
-- not change.
use Rattle.std.specs.Prelude.{ℕ, ℤ, pos, ◌+◌, ◌-ℤ◌, false, List, [], ◌∷◌, ◌++◌, codes, decimal, int_lt, length, nat_eq, nat_lt, slice_index_or, unsigned_abs, Option, None, Some, if◌then◌else◌}
use Rattle.std.specs.Int.{int_rem_euclid}
use Rattle.tail_book.specs.Seen.{BookSeen, CurfewSeen}
use Rattle.tail_book.specs.Lookup.{airport_of}
use Rattle.tail_book.specs.declared.limits.TheConstants.{DAY}
use Rattle.plan_report.specs.Lines.{newline}
use Rattle.plan_picture.specs.Layout.{minutes_to, x_of}
use Rattle.plan_picture.specs.Stretches.{stretches}
use Rattle.plan_picture.specs.declared.layout.TheConstants.{LEFT}
use Rattle.plan_picture.specs.declared.stretches.Stretch.{Stretch}

-- the curfew of a number, and one that is never in force past the end
abbrev pub no_curfew : CurfewSeen
no_curfew = record { airport = 0; from = pos 0; to = pos 0; types = []; starts = false; landings = false }

abbrev pub curfew_of : BookSeen → ℕ → CurfewSeen
curfew_of book c = slice_index_or book.rules.curfews c no_curfew

-- the minute of the UTC day at which a curfew begins by clocks with an offset, and how many minutes it lasts
abbrev pub begins : ℤ → CurfewSeen → ℕ
begins offset curfew = unsigned_abs (int_rem_euclid (curfew.from -ℤ offset) DAY)

abbrev pub lasts : CurfewSeen → ℕ
lasts curfew = unsigned_abs (int_rem_euclid (curfew.to -ℤ curfew.from) DAY)

-- the name of the piece of curfew c: in a stretch behind a change it tells where that begins
abbrev pub piece_name : Stretch → ℕ → List ℕ
piece_name stretch c =
    codes "curfew" ++ decimal c ++ (if int_lt stretch.first stretch.from then codes "-" ++ decimal (x_of stretch.first stretch.from) else [])

-- a day's piece of the band of curfew c
abbrev pub piece : BookSeen → ℕ → Stretch → ℕ → List ℕ
piece book height stretch c =
    codes "<pattern id='" ++ piece_name stretch c ++ codes "' patternUnits='userSpaceOnUse' x='"
    ++ decimal (LEFT + begins stretch.offset (curfew_of book c)) ++ codes "' width='1440' height='" ++ decimal height
    ++ codes "'><rect class='curfew' width='" ++ decimal (lasts (curfew_of book c)) ++ codes "' height='" ++ decimal height ++ codes "'/></pattern>"

-- the area that it fills day by day, as long as the stretch lasts
abbrev pub area : BookSeen → ℕ → Stretch → ℕ → List ℕ
area book height stretch c =
    codes "<rect x='" ++ decimal (x_of stretch.first stretch.from) ++ codes "' y='120' width='" ++ decimal (minutes_to stretch.from stretch.to)
    ++ codes "' height='" ++ decimal height ++ codes "' fill='url(#" ++ piece_name stretch c ++ codes ")'><title>"
    ++ (airport_of book (curfew_of book c).airport).name ++ codes " curfew</title></rect>"

-- the band of curfew c in a stretch
abbrev pub band_line : BookSeen → ℕ → Stretch → ℕ → List ℕ
band_line book height stretch c = piece book height stretch c ++ area book height stretch c ++ newline

-- the bands of the curfews of an airport in a stretch, from number c on
abbrev pub bands_from : BookSeen → ℕ → ℕ → Stretch → ℕ → List CurfewSeen → List (List ℕ)
bands_from book port height stretch c [] = []
bands_from book port height stretch c (curfew ∷ curfews) =
    (if nat_eq curfew.airport port then band_line book height stretch c ∷ [] else []) ++ bands_from book port height stretch (c + 1) curfews

-- those in one stretch after the other
abbrev pub bands_in : BookSeen → ℕ → ℕ → List Stretch → List (List ℕ)
bands_in book port height [] = []
bands_in book port height (stretch ∷ later) =
    bands_from book port height stretch 0 book.rules.curfews ++ bands_in book port height later

-- the bands of an airport of the book, where one is asked for
abbrev pub bands : BookSeen → Option ℕ → ℕ → List (List ℕ)
bands book None height = []
bands book (Some port) height =
    if nat_lt port (length book.rules.airports) then bands_in book port height (stretches book port) else []
