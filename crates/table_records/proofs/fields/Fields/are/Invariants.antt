use Rattle.std.proofs.Common.{◌≡◌, length, map, drop}
use Rattle.table_records.specs.Fields.{are_same}
use Rattle.table_records.proofs.fields.Fields.are.Given as goal

-- the fields from i on decide
abbrev pub invariant-loop-i : goal.invariant-loop-i
invariant-loop-i l = (length l.self ≡ length l.texts)
    × (are_same l.self (map (λ text. text.now) l.texts) ≡ are_same (drop l.i l.self) (drop l.i (map (λ text. text.now) l.texts)))
