-- What is read of the files that words name, and what holds of it where files tell what they hold.
use Rattle.std.specs.Prelude.{◌≡◌, Option, Some, IfSome, IsTrue, option_and_then, option_map}
use Rattle.tail_outside.specs.Shown.{FilesShown}
use Rattle.run_frame.specs.Tables.{NamesSeen, TablesSeen}

-- the tables of these names may be read
abbrev pub MayReadTables : FilesShown → NamesSeen → Type 0
MayReadTables files names = IsTrue (files.lets_read names.timetable) × IsTrue (files.lets_read names.fleet) × IsTrue (files.lets_read names.rules)

-- the tables that files hold under these names, where each of them is told
abbrev pub tables_held : FilesShown → NamesSeen → Option TablesSeen
tables_held files names =
    option_and_then (λ timetable. option_and_then (λ fleet. option_map (λ rules.
    record { timetable = timetable; fleet = fleet; rules = rules })
    (files.holds names.rules)) (files.holds names.fleet)) (files.holds names.timetable)

-- the words give names, and P holds of what is held under them, where that is told
abbrev pub OfHeld : {N X : Type 0} → Option N → (N → Option X) → (X → Type 0) → Type 0
OfHeld {N} given held P = (names : N) × (given ≡ Some names) × IfSome (held names) P

-- the words give names, and this is held under them
abbrev pub IsHeld : {N X : Type 0} → Option N → (N → Option X) → X → Type 0
IsHeld {N} given held x = (names : N) × (given ≡ Some names) × (held names ≡ Some x)

-- the words give names
abbrev pub AreGiven : {N : Type 0} → Option N → Type 0
AreGiven {N} given = (names : N) × (given ≡ Some names)
