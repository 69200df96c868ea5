-- What carry fields say, computed by the definitions.
--
-- The rows show the greatest value and one more, a second `=`, a zero in front, and that of two faults the first
-- decides.
use Rattle.std.proofs.Common.{◌≡◌, pos, [], ◌∷◌, Ok, Err, refl}
use Rattle.std.specs.Prelude.{codes}
use Rattle.fleet_rules.specs.CarryField.{carry_in, item_in}

-- an item is cut at its first sign
items : (item_in (codes "fh=10000000") ≡ Ok (record { counter = codes "fh"; value = pos 10_000_000 })) × (item_in (codes "fh=10000001") ≡ Err 9)
    × (item_in (codes "fh=1=2") ≡ Err 9) × (item_in (codes "fh=007") ≡ Err 9) × (item_in (codes "-fh=007") ≡ Err 5) × (item_in (codes "fh") ≡ Err 5)
items = (refl, refl, refl, refl, refl, refl)

-- each two items have one space between them, and the first bad one decides
lists : (carry_in (codes "") ≡ Ok [])
    × (carry_in (codes "fh=1500 fc=7") ≡ Ok (record { counter = codes "fh"; value = pos 1500 } ∷ record { counter = codes "fc"; value = pos 7 } ∷ []))
    × (carry_in (codes "fh=1  fc=2") ≡ Err 5) × (carry_in (codes "fh=x fc") ≡ Err 9) × (carry_in (codes "fh fc=x") ≡ Err 5)
lists = (refl, refl, refl, refl, refl)
