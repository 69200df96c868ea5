use Rattle.std.proofs.Common.{◌∙◌, sym, subst, Bool}
use Rattle.std.proofs.lemmas.Bool.{both_ways}
use Rattle.restricted_master.specs.inside.Moving.{Visits}
use Rattle.restricted_master.proofs.Climbing.{risen_more, risen_same, still_more}
use Rattle.restricted_master.proofs.pool_duals.sweep.Goals.{then-visit, else-visit}
use Rattle.restricted_master.proofs.pool_duals.sweep.Goals as goal

-- one visit more
pub loop-a-preserved : goal.loop-a-preserved
loop-a-preserved c = elim c.if-visit.branch [
  | then-visit w ↦ (
      let visited = subst (λ (b : Bool). Visits c.args.table.now c.args.book.now c.args.pool.now.entries c.loop-a.a c.loop-a.duals c.visit.new.duals c.loop-a.due c.visit.new.due b)
      w.if-visit.true c.visit.ensures.visited in
      record {
        each = c.visit.auto.choices ∙ c.loop-a.invariant.each;
        weighed = c.visit.ensures.weighed;
        work = c.visit.ensures.work;
        still = λ e. absurd (both_ways c.if-visit.moved e w.moved-is);
        risen = λ e. risen_more c.args.table.now c.args.book.now c.args.pool.now.entries c.loop-a.a c.args.duals.now c.loop-a.duals c.visit.new.duals c.loop-a.due c.visit.new.due
            c.loop-a.moved visited c.loop-a.invariant.risen c.loop-a.invariant.still;
      })
  | else-visit w ↦ (
      let visited = subst (λ (b : Bool). Visits c.args.table.now c.args.book.now c.args.pool.now.entries c.loop-a.a c.loop-a.duals c.visit.new.duals c.loop-a.due c.visit.new.due b)
      w.if-visit.false c.visit.ensures.visited in
      record {
        each = c.visit.auto.choices ∙ c.loop-a.invariant.each;
        weighed = c.visit.ensures.weighed;
        work = c.visit.ensures.work;
        still = λ e. still_more c.args.table.now c.args.book.now c.args.pool.now.entries c.loop-a.a c.args.duals.now c.loop-a.duals c.visit.new.duals c.loop-a.due c.visit.new.due
            c.loop-a.moved visited c.loop-a.invariant.still (sym w.moved-is ∙ e);
        risen = λ e. risen_same c.args.table.now c.args.book.now c.args.pool.now.entries c.loop-a.a c.args.duals.now c.loop-a.duals c.visit.new.duals c.loop-a.due c.visit.new.due
            c.loop-a.moved visited c.loop-a.invariant.risen (sym w.moved-is ∙ e);
      })
]
