use Rattle.std.proofs.Common.{◌≡◌, ◌<◌, ◌∙◌, ◌+◌, ℕ, ℤ, suc, w64, to_z, of_z, FitsSigned, rules, arith, length, sym, subst}
use Rattle.std.proofs.lemmas.Int.{to_z-of_z}
use Rattle.tail_book.specs.declared.place.Place.TheVariants.{Carry}
use Rattle.tail_book.specs.Lookup.{activities}
use Rattle.pricing.specs.inside.WeightRange.{IsBroad}
use Rattle.pricing.specs.inside.Truth.{first_row}
use Rattle.route_search.specs.inside.Ends.{AreEnds}
use Rattle.route_search.specs.inside.Reach.{AreDone, GoesOnWithin, IsDone}
use Rattle.route_search.proofs.Ending.{ends_stay, ends_one_more}
use Rattle.label_store.proofs.Growing.{wide_trans}
use Rattle.route_search.proofs.Growing.{done_one_more}
use Rattle.route_search.proofs.search.search_rows.Goals as goal

-- the carry-in is done, and no bucket yet
pub loop-x-init : goal.loop-x-init
loop-x-init c =
    let limit = c.first_ends-ends.result.limit in
    let fits : FitsSigned w64 limit = search rules in
    let cut = to_z-of_z w64 c.args.cut c.ranges.cut in
    let first = c.first_ends-ends.ensures in
    record {
      truths = c.in_ok-begin.ensures.truths;
      done = record {
        first = subst (λ (w : ℤ). GoesOnWithin c.args.task.now.table.now c.args.task.now.book.now c.args.task.now.marks.now.facts c.args.task.now.k c.args.task.now.duals.now.values w c.begin.new.store Carry (first_row c.args.task.now.book.now c.args.task.now.k)) (to_z-of_z w64 limit fits) c.in_ok-begin.ensures.begun;
        next = λ x lt. absurd (omega (arith, lt));
      };
      ends = ends_stay c.args.task.now.book.now c.args.task.now.marks.now.facts c.args.task.now.k 0 0 c.args.store.now c.begin.new.store (to_z w64 (of_z w64 c.args.cut)) c.first_ends-ends.result c.every_store_is_sound.ensures (omega arith) (omega arith) c.in_ok-begin.ensures.grows first.ends;
      broad = first.broad (subst IsBroad (sym cut) c.requires.cut);
      wide = c.in_ok-begin.ensures.wide;
      row = c.in_ok-begin.ensures.length;
    }

pub go_on-requires-clause-limit : goal.go_on-requires-clause-limit
go_on-requires-clause-limit c =
    let limit = c.with_ends_at-ends.result.limit in
    let fits : FitsSigned w64 limit = search rules in
    subst IsBroad (sym (to_z-of_z w64 limit fits)) (c.with_ends_at-ends.ensures.broad c.loop-x.invariant.broad)

-- one bucket more
pub loop-x-preserved : goal.loop-x-preserved
loop-x-preserved c =
    let inv = c.loop-x.invariant in
    let ends = c.with_ends_at-ends.result in
    let fits : FitsSigned w64 ends.limit = search rules in
    let old = c.loop-x.store in
    let new = c.go_on.new.store in
    let x = c.loop-x.x in
    let sound = c.every_store_is_sound-in-loop-x.ensures in
    let few : x < activities c.args.task.now.book.now = search rules in
    let node : x < length old.buckets = omega (arith, few, inv.wide.nodes, c.requires.nodes) in
    let grows = c.in_ok-go_on.ensures.grows in
    let with_this = ends_one_more c.args.task.now.book.now c.args.task.now.marks.now.facts c.args.task.now.k old (to_z w64 (of_z w64 c.args.cut)) x c.loop-x.ends ends inv.ends c.with_ends_at-ends.ensures.one c.with_ends_at-ends.ensures.here
    c.with_ends_at-ends.ensures.no_heavier (c.with_ends_at-ends.ensures.limit (to_z w64 (of_z w64 c.args.cut)) inv.ends.limit) in
    record {
      truths = c.in_ok-go_on.ensures.truths;
      done = done_one_more c.args.task.now.table.now c.args.task.now.book.now c.args.task.now.marks.now.facts c.args.task.now.k c.args.task.now.duals.now.values c.loop-x.ends.limit ends.limit old new x sound node c.with_ends_at-ends.ensures.no_heavier.limit grows inv.done
          (subst (λ (w : ℤ). IsDone c.args.task.now.table.now c.args.task.now.book.now c.args.task.now.marks.now.facts c.args.task.now.k c.args.task.now.duals.now.values w new x) (to_z-of_z w64 ends.limit fits) c.in_ok-go_on.ensures.done);
      ends = ends_stay c.args.task.now.book.now c.args.task.now.marks.now.facts c.args.task.now.k (suc x) (x + 1) old new (to_z w64 (of_z w64 c.args.cut)) ends sound (omega arith) (omega (arith, node)) grows with_this;
      broad = c.with_ends_at-ends.ensures.broad inv.broad;
      wide = wide_trans c.args.store.now old new inv.wide c.in_ok-go_on.ensures.wide;
      row = c.in_ok-go_on.ensures.length ∙ inv.row;
    }

pub returns-clause-done : goal.returns-clause-done
returns-clause-done c =
    let at : c.loop-x.x ≡ activities c.args.task.now.book.now = search rules in
    subst (λ (n : ℕ). AreDone c.args.task.now.table.now c.args.task.now.book.now c.args.task.now.marks.now.facts c.args.task.now.k c.args.task.now.duals.now.values c.loop-x.ends.limit c.loop-x.store n) at c.loop-x.invariant.done

pub returns-clause-ends : goal.returns-clause-ends
returns-clause-ends c =
    let at : c.loop-x.x ≡ activities c.args.task.now.book.now = search rules in
    subst (λ (n : ℕ). AreEnds c.args.task.now.book.now c.args.task.now.marks.now.facts c.args.task.now.k c.loop-x.store c.args.cut n c.loop-x.ends) at
    (subst (λ (cut : ℤ). AreEnds c.args.task.now.book.now c.args.task.now.marks.now.facts c.args.task.now.k c.loop-x.store cut c.loop-x.x c.loop-x.ends) (to_z-of_z w64 c.args.cut c.ranges.cut) c.loop-x.invariant.ends)
