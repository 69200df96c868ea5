use Rattle.std.proofs.Common.{◌≡◌, ◌∙◌, ℕ, sym, ap, subst, rules, length}
use Rattle.std.specs.Prelude.{None}
use Rattle.label_store.specs.declared.offered.Offered.{Offered}
use Rattle.label_store.specs.declared.offered.Offered.TheVariants.{Kept, Covered}
use Rattle.label_store.specs.Buckets.{row_at}
use Rattle.label_store.specs.Offers.{Offers}
use Rattle.label_store.specs.Seen.{StoreSeen}
use Rattle.label_store.specs.inside.Laws.{IsEntered}
use Rattle.pricing.specs.inside.Growth.{Grows}
use Rattle.pricing.specs.inside.Lines.{key_row}
use Rattle.pricing.specs.inside.Waiting.{IsWaiting, window_at}
use Rattle.pricing.proofs.KeyLemmas.{length-key_row}
use Rattle.pricing.proofs.Waiters.{entered, joined}
use Rattle.pricing.proofs.waiting.enter.Goals as goal

-- a key has the width of keys
pub offer-requires-clause-width : goal.offer-requires-clause-width
offer-requires-clause-width c =
    ap length (c.deref.ensures.value ∙ c.in_ok-write_key.ensures) ∙ length-key_row c.args.asked.now.book.now c.args.lines.now.stand.port _ _ c.args.x c.row.result.now (c.row.ensures.width ∙ c.requires.store.width)
    ∙ sym c.requires.waiting.roomy.width

-- it is an entry, and the last one
pub returns-in_ok-push-in-Kept-2-clause-waiting : goal.returns-in_ok-push-in-Kept-2-clause-waiting
returns-in_ok-push-in-Kept-2-clause-waiting c =
    let old = c.args.waiting.now.keys in
    let new = c.offer.new.self in
    let key = c.deref.result.now in
    let sound = c.every_store_is_sound-2.ensures in
    let offers : Offers old new c.args.i None key (Kept c.in-Kept.field-0) = subst (λ (o : Offered). Offers old new c.args.i None key o) c.in-Kept.is c.in_ok-offer.ensures.offered in
    let last : IsEntered new (length old.rows) c.args.i None key = subst (λ (n : ℕ). IsEntered new n c.args.i None key) offers.1
    (c.kept_rows_are_offered.ensures old new c.args.i None key c.in-Kept.field-0 sound offers) in
    let is_key : key ≡ key_row c.args.asked.now.book.now c.args.lines.now.stand.port (window_at c.args.lines.now.windows.now c.args.i).lo (window_at c.args.lines.now.windows.now c.args.i).lasting c.args.x (row_at c.args.store.now.rows c.args.j) = search rules in
    entered c.args.asked.now.book.now c.args.asked.now.marks.now.facts c.args.lines.now.stand c.args.lines.now.windows.now c.args.store.now c.args.waiting.now
    (record { keys = new; labels = c.push.new.self; places = c.push-in-Kept.new.self }) c.args.i c.args.x c.args.j key c.requires.waiting
    c.in_ok-offer.ensures.same_width c.in_ok-offer.ensures.same_nodes (ap (λ (s : StoreSeen). s.rows) offers.2) c.in_ok-push-in-Kept.ensures.items c.in_ok-push-in-Kept-2.ensures.items
    (c.offers_keep_rows.ensures old new c.args.i None key (Kept c.in-Kept.field-0) sound offers) last
    (record { may = c.requires.may; label = c.requires.label; ready = c.requires.ready; is_key = is_key })

pub returns-in_ok-push-in-Kept-2-clause-joins : goal.returns-in_ok-push-in-Kept-2-clause-joins
returns-in_ok-push-in-Kept-2-clause-joins c =
    let old = c.args.waiting.now.keys in
    let new = c.offer.new.self in
    let key = c.deref.result.now in
    let sound = c.every_store_is_sound-2.ensures in
    let offers = c.in_ok-offer.ensures.offered in
    let grows : Grows c.args.i old new = record {
      rows = c.offers_keep_rows.ensures old new c.args.i None key c.in_ok-offer.field-0 sound offers;
      covered = c.offers_keep_covered.ensures old new c.args.i None key c.in_ok-offer.field-0 sound offers;
      others = c.others_stay.ensures old new c.args.i None key c.in_ok-offer.field-0 offers;
    } in
    joined c.args.i c.args.x c.args.j c.args.waiting.now (record { keys = new; labels = c.push.new.self; places = c.push-in-Kept.new.self }) grows
    c.requires.waiting.labels c.requires.waiting.places c.in_ok-push-in-Kept.ensures.items c.in_ok-push-in-Kept-2.ensures.items

-- nothing has changed
pub returns-in-Covered-clause-waiting : goal.returns-in-Covered-clause-waiting
returns-in-Covered-clause-waiting c =
    let old = c.args.waiting.now.keys in
    let new = c.offer.new.self in
    let offers : Offers old new c.args.i None c.deref.result.now (Covered c.in-Covered.field-0) = subst (λ (o : Offered). Offers old new c.args.i None c.deref.result.now o) c.in-Covered.is c.in_ok-offer.ensures.offered in
    subst (λ (s : StoreSeen). IsWaiting c.args.asked.now.book.now c.args.asked.now.marks.now.facts c.args.lines.now.stand c.args.lines.now.windows.now c.args.store.now
    (record { keys = s; labels = c.args.waiting.now.labels; places = c.args.waiting.now.places })) (sym offers.1) c.requires.waiting
