use Rattle.std.proofs.Common.{arith, refl}
use Rattle.branch_marks.specs.Bound.{value_of}
use Rattle.branch_marks.specs.ProofTree.{Cover}
use Rattle.node_leaves.proofs.Cuts.{later_none, later_then}
use Rattle.node_leaves.proofs.FirstCovers.{covers_none, covers_more, covers_cut}
use Rattle.node_leaves.proofs.covers.note_covers.Goals as goal

pub loop-k-init : goal.loop-k-init
loop-k-init g c =
    let log = g.L.TreeLog.shows c.args.log.now in
    record {
      covers = covers_none c.args.table.now c.args.book.now c.args.marks.now.facts c.args.duals.now.values c.args.values.now c.requires.least.one_each log;
      later = later_none log;
      beside = g.met.L.TreeLog.beside_same c.args.log.now;
      ready = c.requires.ready;
    }

-- there are no more aircraft than a book may have
pub overflow_cast-k : goal.overflow_cast-k
overflow_cast-k g c = omega (arith, c.requires.least.one_each, c.every_book_is_sound.ensures.few_tails, c.loop-k-test.true)

-- the covers before are told, and the cut is in this one
pub returns-in-Err-clause-cut : goal.returns-in-Err-clause-cut
returns-in-Err-clause-cut g c =
    covers_cut c.args.table.now c.args.book.now c.args.marks.now.facts c.args.duals.now.values c.args.values.now c.requires.least.one_each c.loop-k.k
    (g.L.TreeLog.shows c.args.log.now) (g.L.TreeLog.shows c.loop-k.log) (g.L.TreeLog.shows c.note_cover.new.log)
    c.loop-k-test.true c.in-Err.ensures.later c.loop-k.invariant.covers c.in-Err.ensures.cut

-- this one comes behind the covers before
pub loop-k-preserved : goal.loop-k-preserved
loop-k-preserved g c =
    let inv = c.loop-k.invariant in let noted = c.in_default.ensures.noted in let values = c.args.values.now in let k = c.loop-k.k in
    let old = g.L.TreeLog.shows c.args.log.now in let between = g.L.TreeLog.shows c.loop-k.log in let new = g.L.TreeLog.shows c.note_cover.new.log in
    let value = value_of values k in let cover : Cover = record { value = value; family = noted.0 } in
    record {
      covers = covers_more c.args.table.now c.args.book.now c.args.marks.now.facts c.args.duals.now.values values c.requires.least.one_each k value cover
          old between new c.loop-k-test.true refl refl c.in_default.ensures.later inv.covers noted.1 noted.2;
      later = later_then old between new inv.later c.in_default.ensures.later;
      beside = g.met.L.TreeLog.beside_chains c.args.log.now c.loop-k.log c.note_cover.new.log inv.beside c.in_default.ensures.beside;
      ready = c.in_default.ensures.ready;
    }
