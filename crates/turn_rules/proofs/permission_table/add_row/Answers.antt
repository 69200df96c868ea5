use Rattle.std.proofs.Common.{◌∷◌, [], arith, map}
use Rattle.std.proofs.lemmas.List.{append_assoc}
use Rattle.std.proofs.lemmas.List.FromFn.{map-range_with_len_more}
use Rattle.std.specs.List.{range_with_len}
use Rattle.tail_book.specs.LegalTests.{is_allowed}
use Rattle.turn_rules.proofs.permission_table.add_row.Goals as goal

-- the next answer stands last
pub loop-a-preserved : goal.loop-a-preserved
loop-a-preserved c =
    let f = is_allowed c.args.book.now c.args.k in
    let more = map-range_with_len_more f 0 c.loop-a.a c.loop-a.a (omega arith) in
    rw (c.in_ok-push.ensures.items, c.loop-a.invariant, c.allowed_by.ensures.tests, more)
    (append_assoc c.args.rows.now.items (map f (range_with_len 0 c.loop-a.a)) (f c.loop-a.a ∷ []))
