-- The definitions of this crate, at the texts that a reader tries first.
--
-- The rows show lists with a space too many at each place, a field that may be empty, an empty line, and a comma in
-- quotes.
use Rattle.std.proofs.Common.{◌≡◌, [], ◌∷◌, Ok, Err, Some, None, refl}
use Rattle.std.specs.Prelude.{codes}
use Rattle.csv.specs.Machine.{next_record}
use Rattle.csv.specs.Reading.{records_from, strip_bom}
use Rattle.table_records.specs.NameLists.{names_of}
use Rattle.table_records.specs.Records.{records_of}
use Rattle.table_records.specs.Values.{optional_name_in}

-- names stand between single spaces
lists : (names_of (codes "") ≡ Ok []) × (names_of (codes "A320 B738") ≡ Ok (codes "A320" ∷ codes "B738" ∷ []))
    × (names_of (codes " A320") ≡ Err 5) × (names_of (codes "A320 ") ≡ Err 5) × (names_of (codes "A320  B738") ≡ Err 5)
lists = (refl, refl, refl, refl, refl)

-- an empty field names nobody
optional_names : (optional_name_in (codes "") ≡ Ok None) × (optional_name_in (codes "LNA") ≡ Ok (Some (codes "LNA"))) × (optional_name_in (codes "-") ≡ Err 5)
optional_names = (refl, refl, refl)

-- an empty line is no record, and a quoted comma is no end of a field
records : records_of (codes "a,b\n\n\"c,d\"") ≡ (codes "a" ∷ codes "b" ∷ []) ∷ (codes "c,d" ∷ []) ∷ []
unfolding next_record records_from strip_bom
records = refl
