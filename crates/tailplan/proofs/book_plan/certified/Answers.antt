use Rattle.std.proofs.Common.{Result, IfOk, inr, refl, ap, subst}
use Rattle.tail_book.specs.Truth.{IsTrueOutcome}
use Rattle.tail_book.specs.declared.outcome.Outcome.{Outcome}
use Rattle.tail_book.specs.CostTable.{costs_of}
use Rattle.tail_outside.specs.inside.OverFile.{shown_over}
use Rattle.node_leaves.specs.declared.stop.Stop.{Stop}
use Rattle.certified_search.specs.OrderedTree.{HasTreeIn}
use Rattle.certified_search.specs.Written.{IsCertificateOf, LeavesText}
use Rattle.tailplan.proofs.Holding.{certificate_front, held_by}
use Rattle.tailplan.proofs.book_plan.certified.Goals as goal

-- the file holds the certificate of the outcome
pub returns-in-Ok-found-clause-answer : goal.returns-in-Ok-found-clause-answer
returns-in-Ok-found-clause-answer g c =
    let book = c.args.book in let outcome = c.in-Ok-found.outcome in let run = c.certified_search-found in
    let truth = subst (λ (found : Result Outcome Stop). IfOk found (IsTrueOutcome book)) c.in-Ok-found.is run.ensures.truth in
    let tree = subst (λ (found : Result Outcome Stop). IfOk found (HasTreeIn c.args.order (costs_of book) book c.args.limit)) c.in-Ok-found.is run.ensures.tree in
    let old = g.F.Files.shows c.new-sink.result.files in let new = g.F.Files.shows run.result.sink.files in
    let leaves = subst (λ (found : Result Outcome Stop). IfOk found (λ o. LeavesText (shown_over old c.new-sink.result.name.now) (shown_over new run.result.sink.name.now) (IsCertificateOf book c.args.limit c.args.order c.args.version o)))
    c.in-Ok-found.is run.ensures.written in
    let held = held_by (IsCertificateOf book c.args.limit c.args.order c.args.version outcome) c.args.name.now c.new-sink.result.name.now run.result.sink.name.now
    (g.F.Files.shows c.begin.new.self) old new (g.F.Files.shows c.into_files-files.result)
    (ap (λ name. name.now) c.new-sink.ensures.name) (ap (λ name. name.now) run.ensures.beside.0) (ap (λ files. g.F.Files.shows files) c.new-sink.ensures.files)
    (ap (λ files. g.F.Files.shows files) c.into_files-files.ensures) c.in-Ok.ensures.empty run.ensures.beside.1 leaves in
    rw (c.of-in-Ok-found.ensures.answer, c.of-in-Ok-found.ensures.files) (refl, truth, tree, held)

pub returns-in-Ok-found-clause-left : goal.returns-in-Ok-found-clause-left
returns-in-Ok-found-clause-left g c = rw c.of-in-Ok-found.ensures.files (λ alive.
    let book = c.args.book in let outcome = c.in-Ok-found.outcome in let run = c.certified_search-found in
    let old = g.F.Files.shows c.new-sink.result.files in let new = g.F.Files.shows run.result.sink.files in
    let leaves = subst (λ (found : Result Outcome Stop). IfOk found (λ o. LeavesText (shown_over old c.new-sink.result.name.now) (shown_over new run.result.sink.name.now) (IsCertificateOf book c.args.limit c.args.order c.args.version o)))
    c.in-Ok-found.is run.ensures.written in
    let held = held_by (IsCertificateOf book c.args.limit c.args.order c.args.version outcome) c.args.name.now c.new-sink.result.name.now run.result.sink.name.now
    (g.F.Files.shows c.begin.new.self) old new (g.F.Files.shows c.into_files-files.result)
    (ap (λ name. name.now) c.new-sink.ensures.name) (ap (λ name. name.now) run.ensures.beside.0) (ap (λ files. g.F.Files.shows files) c.new-sink.ensures.files)
    (ap (λ files. g.F.Files.shows files) c.into_files-files.ensures) c.in-Ok.ensures.empty run.ensures.beside.1 leaves in
    inr (certificate_front book c.args.limit c.args.order c.args.version outcome c.args.name.now (g.F.Files.shows c.into_files-files.result) (held alive)))
