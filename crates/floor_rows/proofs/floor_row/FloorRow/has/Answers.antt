use Rattle.std.proofs.Common.{◌≡◌, ◌∙◌, ℤ, ◌*◌, ◌<◌, Bool, true, false, ap, arith, length, List, get_or, drop, take, refl, sym, Option, None, Some}
use Rattle.std.specs.Prelude.{is_some, if◌then◌else◌}
use Rattle.std.proofs.lemmas.List.{get_or_default}
use Rattle.floor_rows.specs.inside.FloorRow.{FloorRowSeen}
use Rattle.floor_rows.proofs.KeptFloors.{kept_length, kept_get}
use Rattle.floor_rows.proofs.floor_row.FloorRow.has.Goals as goal

pub index-requires : goal.index-requires
index-requires c =
    let all = kept_length c.self.inside.width c.self.inside.known.items c.self.inside.values.items in
    let seen = ap (λ (row : FloorRowSeen). length row.floors) c.self.view_is in
    omega (arith, all, seen, c.requires)

-- there is a floor where the flag says so
flag_says : (flag : Bool) (row : List ℤ) → is_some (if flag then Some row else None) ≡ flag
flag_says true row = refl
flag_says false row = refl

pub returns : goal.returns
returns c =
    let x = c.args.x in
    let w = c.self.inside.width in
    let flags = c.self.inside.known.items in
    let values = c.self.inside.values.items in
    let all = kept_length w flags values in
    let seen = ap (λ (row : FloorRowSeen). length row.floors) c.self.view_is in
    let within : x < length flags = omega (arith, all, seen, c.requires) in
    c.index.ensures
    ∙ sym (ap (λ (row : FloorRowSeen). is_some (get_or row.floors x None)) (sym c.self.view_is)
    ∙ (ap (λ (floor : Option (List ℤ)). is_some floor) (kept_get w x (x * w) flags values within refl)
    ∙ (flag_says (get_or flags x false) (take w (drop (x * w) values)) ∙ get_or_default flags x false c.index.result.now within)))
