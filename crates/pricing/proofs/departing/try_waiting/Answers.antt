use Rattle.std.proofs.Common.{◌≡◌, ◌∙◌, ◌<◌, ℤ, List, w64, to_z, of_z, FitsSigned, rules, arith, length, subst}
use Rattle.std.proofs.lemmas.Int.{to_z-of_z}
use Rattle.tail_book.specs.declared.place.Place.TheVariants.{After}
use Rattle.branch_marks.specs.Marks.{IsAlive}
use Rattle.branch_marks.specs.Weights.{arc_weight}
use Rattle.label_store.specs.Buckets.{row_at}
use Rattle.pricing.specs.inside.Growth.{Tried}
use Rattle.pricing.proofs.Families.{row_of_bucket}
use Rattle.pricing.proofs.Standing.{usable_from}
use Rattle.pricing.proofs.departing.try_waiting.Goals as goal

-- the label's activity is alive, and its link has been waited for
pub try_row-requires-clause-usable : goal.try_row-requires-clause-usable
try_row-requires-clause-usable c =
    let store = c.args.store.now in
    let node : c.args.x < length store.buckets = omega (arith, c.requires.may.arrival.place, c.requires.state.nodes) in
    let here = row_of_bucket store c.every_store_is_sound.ensures c.args.x c.args.j node c.requires.label in
    let alive : IsAlive c.args.asked.now.book.now c.args.asked.now.marks.now.facts c.args.asked.now.k c.args.x =
    subst (IsAlive c.args.asked.now.book.now c.args.asked.now.marks.now.facts c.args.asked.now.k) here.place (c.requires.state.truths c.args.j here.kept).alive in
    usable_from c.args.asked.now.book.now c.args.asked.now.k c.args.asked.now.marks.now.facts c.args.lines.now.stand c.args.b c.requires.leaves c.args.x c.requires.may alive c.requires.waited

-- the row that was tried is the label's
pub returns-clause-tried : goal.returns-clause-tried
returns-clause-tried c = λ short.
    let book = c.args.asked.now.book.now in
    let new = c.try_row.new.store in
    let arc = arc_weight c.args.asked.now.table.now book c.args.asked.now.k c.args.asked.now.duals.now.values (After c.args.x) c.args.b in
    let read : c.copy_from_slice.new.self ≡ row_at c.args.store.now.rows c.args.j = search rules in
    let fits : FitsSigned w64 c.arc_weight-arc.result = search rules in
    let weight : to_z w64 (of_z w64 c.arc_weight-arc.result) ≡ arc = to_z-of_z w64 c.arc_weight-arc.result fits ∙ c.arc_weight-arc.ensures.value in
    subst (λ (r : List ℤ). Tried book c.args.asked.now.k new arc (After c.args.x) c.args.b r) read
    (subst (λ (a : ℤ). Tried book c.args.asked.now.k new a (After c.args.x) c.args.b c.copy_from_slice.new.self) weight c.in_ok-try_row.ensures.tried)
