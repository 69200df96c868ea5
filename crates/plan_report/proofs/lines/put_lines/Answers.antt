use Rattle.std.proofs.Common.{arith}
use Rattle.std.proofs.lemmas.List.{take_all}
use Rattle.tail_outside.proofs.OutsideLemmas.{HasRisen-after}
use Rattle.plan_report.proofs.SinkLemmas.{adds-nothing, adds-more, adds-front, text_of-more, text_of-around}
use Rattle.plan_report.proofs.lines.put_lines.Goals as goal

pub loop-line-init : goal.loop-line-init
loop-line-init g c = record { taken = λ lasts. adds-nothing _; beside = g.met.S.Sink.beside_same c.args.out.now; ceases = λ lasts. lasts; counts = omega arith }

pub loop-line-preserved : goal.loop-line-preserved
loop-line-preserved g c =
    let piece = text_of-more c.args.lines.now c.loop-line.line-index c.line-item.result c.loop-line-test.true c.line-item.is in
    record {
      taken = λ lasts. rw piece (adds-more _ _ _ _ _ (c.loop-line.invariant.taken (c.put.ensures.ceases lasts)) (rw c.bytes.ensures at (c.in_default.ensures.taken lasts)));
      beside = g.met.S.Sink.beside_chains _ _ _ c.loop-line.invariant.beside c.put.ensures.beside;
      ceases = λ lasts. c.loop-line.invariant.ceases (c.put.ensures.ceases lasts);
      counts = omega (arith, c.loop-line.invariant.counts, c.put.ensures.counts);
    }

pub returns-in-Err : goal.returns-in-Err
returns-in-Err g c =
    let whole = text_of-around c.args.lines.now c.loop-line.line-index c.line-item.result c.loop-line-test.true c.line-item.is in
    record {
      taken = tt;
      front = λ lasts. rw whole (adds-front _ _ _ _ _ _ (c.loop-line.invariant.taken (c.put.ensures.ceases lasts)) (rw c.bytes.ensures at (c.in-Err.ensures.front lasts)));
      beside = g.met.S.Sink.beside_chains _ _ _ c.loop-line.invariant.beside c.put.ensures.beside;
      ceases = λ lasts. c.loop-line.invariant.ceases (c.put.ensures.ceases lasts);
      counts = omega (arith, c.loop-line.invariant.counts, c.put.ensures.counts);
      cause = λ e. HasRisen-after _ _ _ c.loop-line.invariant.counts (c.in-Err.ensures.cause e);
    }

pub returns : goal.returns
returns g c = record {
  taken = λ lasts. rw (take_all c.loop-line.line-index c.args.lines.now c.loop-line-test.false) at (c.loop-line.invariant.taken lasts);
  front = tt;
  beside = c.loop-line.invariant.beside;
  ceases = c.loop-line.invariant.ceases;
  counts = c.loop-line.invariant.counts;
  cause = λ e. cc e;
}
