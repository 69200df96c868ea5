use Rattle.std.proofs.Common.{◌≡◌, ◌∙◌, ◌++◌, ◌∷◌, [], ap, sym, subst, length}
use Rattle.std.specs.List.{filter}
use Rattle.std.proofs.lemmas.List.{get_or_push}
use Rattle.label_store.specs.Buckets.{row_at, stays_beside}
use Rattle.label_store.specs.Seen.{RowsSeen}
use Rattle.label_store.specs.inside.Packing.{IsPacked}
use Rattle.label_store.proofs.Compaction.{stay_alike}
use Rattle.label_store.proofs.Packing.{packed_pushed}
use Rattle.label_store.proofs.bucket.enter.Goals as goal

-- the new row changes nothing of those before it
pub returns-clause-bucket : goal.returns-clause-bucket
returns-clause-bucket c =
    let rows = ap (λ (s : RowsSeen). s.rows) c.in_ok-push.ensures.added in
    let stays = c.drop_covered.ensures.stay ∙ ap (filter (stays_beside c.push.new.self.rows c.args.row.now)) c.reserve.ensures.items
    ∙ stay_alike c.args.rows.now.rows c.push.new.self.rows c.args.bucket.now.items c.args.row.now c.requires.numbers rows in
    c.put.ensures ∙ ap (λ b. b ++ c.len-number.result ∷ []) stays

-- its values come behind theirs, as its number does
pub returns-clause-packed : goal.returns-clause-packed
returns-clause-packed c =
    let seen = c.push.new.self in
    let added = c.in_ok-push.ensures.added in
    let rows = ap (λ (s : RowsSeen). s.rows) added in
    let wide : length c.args.row.now ≡ seen.width = c.requires.width ∙ sym (ap (λ (s : RowsSeen). s.width) added) in
    let is : row_at seen.rows c.len-number.result ≡ c.args.row.now =
    ap (λ r. row_at r c.len-number.result) rows
    ∙ get_or_push c.args.rows.now.rows c.args.row.now [] c.len-number.result (sym c.len-number.ensures) in
    subst (λ b. IsPacked seen.width seen.rows b c.put_all.new.values.items) (sym c.put.ensures)
    (subst (λ v. IsPacked seen.width seen.rows (c.drop_covered.new.bucket.items ++ c.len-number.result ∷ []) v) (sym c.put_all.ensures)
    (packed_pushed seen.width seen.rows c.drop_covered.new.bucket.items c.drop_covered.new.values.items c.drop_covered.ensures.packed
    c.len-number.result c.args.row.now wide is))
