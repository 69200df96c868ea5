use Rattle.std.proofs.Common.{◌≡◌, ◌∙◌, ℕ, ℤ, ◌*◌, ◌+◌, ◌-◌, List, take, drop, ap, arith, sym, Some}
use Rattle.std.specs.Cmp.Rules.{signed_items}
use Rattle.floor_rows.proofs.KeptFloors.{row_known, row_unknown}
use Rattle.floor_rows.proofs.floor_row.is_row.Goals as goal

-- the values that are compared are those of the floor
compared : (w from : ℕ) (values : List ℤ) → take (from + w - from) (drop from values) ≡ take w (drop from values)
compared w from values = ap (λ (n : ℕ). take n (drop from values)) (omega arith)

pub returns-then-not-known-x-clause-other : goal.returns-then-not-known-x-clause-other
returns-then-not-known-x-clause-other c differs has =
    cc (sym (row_unknown c.args.width c.args.known.now c.args.values.now c.requires.row c.args.x c.requires.place c.if-not-known-x.true) ∙ has)

pub returns-clause-same : goal.returns-clause-same
returns-clause-same c same =
    row_known c.args.width c.args.known.now c.args.values.now c.requires.row c.args.x c.requires.place c.if-not-known-x.false
    ∙ ap (λ (row : List ℤ). Some row) (sym (compared c.args.width (c.args.x * c.args.width) c.args.values.now)
    ∙ (signed_items (take (c.args.x * c.args.width + c.args.width - c.args.x * c.args.width) (drop (c.args.x * c.args.width) c.args.values.now)) c.args.row.now).0
    (sym c.eq.ensures ∙ same))

-- the values of a floor are no others
one_floor : (one other : List ℤ) → Some one ≡ Some other → one ≡ other
one_floor one other same = cc same

pub returns-clause-other : goal.returns-clause-other
returns-clause-other c differs has =
    let part = take (c.args.x * c.args.width + c.args.width - c.args.x * c.args.width) (drop (c.args.x * c.args.width) c.args.values.now) in
    let floor = take c.args.width (drop (c.args.x * c.args.width) c.args.values.now) in
    let known = row_known c.args.width c.args.known.now c.args.values.now c.requires.row c.args.x c.requires.place c.if-not-known-x.false in
    let same : part ≡ c.args.row.now = compared c.args.width (c.args.x * c.args.width) c.args.values.now ∙ one_floor floor c.args.row.now (sym known ∙ has) in
    cc (sym differs ∙ c.eq.ensures ∙ (signed_items part c.args.row.now).1 same)
