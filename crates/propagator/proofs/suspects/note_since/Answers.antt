use Rattle.std.proofs.Common.{◌<◌, arith, length}
use Rattle.propagator.proofs.NotedFacts.{noted_more}
use Rattle.propagator.proofs.suspects.note_since.Goals as goal

-- one fact more is noted, and those before it still are
pub loop-i-preserved : goal.loop-i-preserved
loop-i-preserved c =
    let facts = c.args.marks.now.facts in
    let within : c.loop-i.i < length facts = omega (arith, c.loop-i-test.true, c.mark-i-end.ensures) in (
      noted_more facts c.args.seen c.loop-i.i c.fact_at.result c.loop-i.leave c.note.new.leave c.loop-i.arrive c.note.new.arrive c.loop-i.pass c.note.new.pass
          c.note.ensures.leave c.note.ensures.arrive c.note.ensures.lowers within c.fact_at.ensures.value c.loop-i.invariant.0 c.note.ensures.noted,
      λ i clear. c.loop-i.invariant.1 i (c.note.ensures.leave i clear),
    )
