use Rattle.std.proofs.Common.{Some, false, refl, sym, ap}
use Rattle.tail_outside.specs.Shown.{SinkShown}
use Rattle.tail_outside.specs.inside.Seen.{MemSinkSeen}
use Rattle.tailplan.proofs.TrialRuns.{tried_of}
use Rattle.tailplan.proofs.trial.search_trial.Goals as goal

-- what a sink in memory shows
abbrev shown : MemSinkSeen → SinkShown
shown sink = record { told = Some sink.bytes; ceased = false; faults = sink.faults }

-- the sink held nothing, and then the bytes that were judged
pub returns-in-Ok : goal.returns-in-Ok
returns-in-Ok g c =
    let run = c.certified_search-found in
    tried_of c.args.seed c.args.book.now c.in-Ok.outcome c.in_ok-accepted-in-Ok.accepted c.bytes.result.now run.result.found (shown c.in_ok-sink.sink) (shown run.result.sink)
    c.accepted_is_yes.ensures c.requires c.in-Ok.is run.ensures.truth run.ensures.tree run.ensures.written
    (ap (λ (sink : MemSinkSeen). Some sink.bytes) c.in_ok-sink.ensures.made) refl (ap Some (sym c.bytes.ensures)) c.in_ok-accepted-in-Ok.ensures
