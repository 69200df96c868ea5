use Rattle.std.proofs.Common.{◌≡◌, arith, subst, sym, ◌∙◌, Bool}
use Rattle.std.proofs.lemmas.Bool.{both_ways}
use Rattle.tail_book.specs.Lookup.{activities}
use Rattle.fee_master.specs.inside.Settling.{AreAllSettled, IsSettledAt, Looks}
use Rattle.fee_master.proofs.Looking.{looks_false, looks_of, risen_more, risen_same, still_more}
use Rattle.fee_master.proofs.settling.sweep.Goals.{then-look, else-look}
use Rattle.fee_master.proofs.settling.sweep.Goals as goal

-- one look more
pub loop-j-preserved : goal.loop-j-preserved
loop-j-preserved c =
    let fixed = c.args.fixed.now in
    elim c.if-look.branch [
      | then-look w ↦ (
          let gains = subst (λ (b : Bool). Looks fixed (IsSettledAt fixed c.look.new.duals c.look.new.fees c.loop-j.j) c.loop-j.duals c.loop-j.fees c.look.new.duals c.look.new.fees b)
          w.if-look.true c.look.ensures.looks in
          record {
            priced = c.look.ensures.priced;
            clear = c.look.ensures.clear;
            still = λ e. absurd (both_ways c.if-look.moved e w.moved-is);
            risen = λ e. risen_more fixed c.args.duals.now c.args.fees.now c.loop-j.duals c.loop-j.fees c.look.new.duals c.look.new.fees c.loop-j.j c.loop-j.moved
                c.loop-j.invariant.still c.loop-j.invariant.risen gains;
          })
      | else-look w ↦ (
          let (same, fees_same, there) = looks_false fixed c.loop-j.duals c.loop-j.fees c.look.new.duals c.look.new.fees
          (IsSettledAt fixed c.look.new.duals c.look.new.fees c.loop-j.j) c.look.result c.look.ensures.looks w.if-look.false in
          record {
            priced = c.look.ensures.priced;
            clear = c.look.ensures.clear;
            still = λ e. still_more fixed c.args.duals.now c.args.fees.now c.loop-j.duals c.loop-j.fees c.look.new.duals c.look.new.fees c.loop-j.j c.loop-j.moved
                c.loop-j.invariant.still c.loop-j.invariant.risen same fees_same there (sym w.moved-is ∙ e);
            risen = λ e. risen_same fixed c.args.duals.now c.args.fees.now c.loop-j.duals c.loop-j.fees c.look.new.duals c.look.new.fees c.loop-j.j c.loop-j.moved
                c.loop-j.invariant.still c.loop-j.invariant.risen same fees_same there (sym w.moved-is ∙ e);
          })
    ]

-- and then all of them
pub returns-clause-looks : goal.returns-clause-looks
returns-clause-looks c =
    let fixed = c.args.fixed.now in
    let count : c.len.result ≡ activities fixed.book.now = rw (← c.book.view_is) (omega (arith, c.len.ensures)) in
    looks_of fixed c.args.duals.now c.args.fees.now c.loop-j.duals c.loop-j.fees
    (AreAllSettled fixed c.loop-j.duals c.loop-j.fees) c.loop-j.moved
    (λ e. let (same, fees_same, there) = c.loop-j.invariant.still e in (same, fees_same, λ i lt. there i (omega (arith, lt, c.loop-j-test.false, count))))
    c.loop-j.invariant.risen
