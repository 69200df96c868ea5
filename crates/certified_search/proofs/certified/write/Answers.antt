use Rattle.std.proofs.Common.{◌∙◌, ◌++◌, ℕ, [], ◌∷◌, refl, subst}
use Rattle.tail_book.specs.TableSeen.{CostTableSeen}
use Rattle.tail_outside.specs.Outside.{Adds, AddsFront}
use Rattle.node_leaves.specs.Begun.{IsBegunFrom}
use Rattle.node_leaves.specs.NodeEvents.{events_of}
use Rattle.node_leaves.specs.Place.{root}
use Rattle.cert_lines.specs.declared.cert_line.CertLine.{CertLine}
use Rattle.cert_lines.specs.Text.{cert_text}
use Rattle.cert_writer.specs.Trailer.{trailer_lines}
use Rattle.certified_search.specs.OrderedTree.{IsTreeIn}
use Rattle.certified_search.proofs.Writing.{begun_tells_as, book_header, cut_front_as, header_at, header_front, same_header, tells_as, written, written_front}
use Rattle.certified_search.proofs.certified.write.Goals as goal

-- the header failed
pub returns-in-Err-clause-stopped : goal.returns-in-Err-clause-stopped
returns-in-Err-clause-stopped g c = λ lasts empty.
    let book = c.args.book.now in let old = g.S.Sink.shows c.args.log.now.sink in let new = g.S.Sink.shows c.begin.new.self.sink in
    let log = c.args.log.now in
    let same = book_header log.version log.version book log.activities log.aircraft log.counters refl c.requires.numbers in
    header_front book c.args.limit c.args.order log.version old.told new.told empty (subst (λ (first : CertLine). AddsFront old.told new.told (cert_text (first ∷ []))) same (c.in-Err.ensures.front lasts))

-- the search stopped
pub returns-in-Err-search_in_order-clause-stopped : goal.returns-in-Err-search_in_order-clause-stopped
returns-in-Err-search_in_order-clause-stopped g c = λ lasts empty.
    let book = c.args.book.now in let first = c.args.log.now in let begun = c.begin.new.self in let left = c.search_in_order.new.log in
    let kept = c.in_default.ensures in let beside = c.search_in_order.ensures.beside in
    let told = begun_tells_as begun.version begun.in_cover (header_at first.version first.activities first.aircraft first.counters) (header_at begun.version begun.activities begun.aircraft begun.counters)
    (g.S.Sink.shows first.sink) (g.S.Sink.shows begun.sink) begun.waiting kept.outside
    (same_header first.version begun.version first.activities first.aircraft first.counters begun.activities begun.aircraft begun.counters kept.version kept.activities kept.aircraft kept.counters) kept.none_wait empty
    (kept.taken (c.search_in_order.ensures.later.ceases lasts)) in
    let (tree, is, cut) = c.in-Err-search_in_order.ensures.stopped [] lasts told in
    let version = beside.4 ∙ kept.version in
    let same = book_header first.version left.version book left.activities left.aircraft left.counters version
    (beside.1 ∙ kept.activities ∙ c.requires.numbers.0, beside.2 ∙ kept.aircraft ∙ c.requires.numbers.1, beside.3 ∙ kept.counters ∙ c.requires.numbers.2) in
    cut_front_as book c.args.limit c.args.order first.version left.in_cover (g.S.Sink.shows left.sink) left.waiting tree (subst (λ (table : CostTableSeen). IsBegunFrom table book (root book ∷ []) tree) c.requires.own is)
    left.version (header_at left.version left.activities left.aircraft left.counters) version same cut

-- its tree
pub returns-in-Ok-finish-clause-tree : goal.returns-in-Ok-finish-clause-tree
returns-in-Ok-finish-clause-tree g c =
    let found = c.in-Ok.ensures.tree in
    (found.nodes, subst (λ (table : CostTableSeen). IsTreeIn c.args.order table c.args.book.now c.args.limit c.in-Ok.outcome found.nodes) c.requires.own found.is)

-- all of it was written
pub returns-in-Ok-finish-clause-written : goal.returns-in-Ok-finish-clause-written
returns-in-Ok-finish-clause-written g c = λ lasts empty.
    let book = c.args.book.now in let first = c.args.log.now in let begun = c.begin.new.self in let left = c.search_in_order.new.log in
    let kept = c.in_default.ensures in let beside = c.search_in_order.ensures.beside in
    let later = c.finish.ensures.ceases lasts in
    let told = begun_tells_as begun.version begun.in_cover (header_at first.version first.activities first.aircraft first.counters) (header_at begun.version begun.activities begun.aircraft begun.counters)
    (g.S.Sink.shows first.sink) (g.S.Sink.shows begun.sink) begun.waiting kept.outside
    (same_header first.version begun.version first.activities first.aircraft first.counters begun.activities begun.aircraft begun.counters kept.version kept.activities kept.aircraft kept.counters) kept.none_wait empty
    (kept.taken (c.search_in_order.ensures.later.ceases later)) in
    let found = c.in-Ok.ensures.tree in
    let version = beside.4 ∙ kept.version in
    let same = book_header first.version left.version book left.activities left.aircraft left.counters version
    (beside.1 ∙ kept.activities ∙ c.requires.numbers.0, beside.2 ∙ kept.aircraft ∙ c.requires.numbers.1, beside.3 ∙ kept.counters ∙ c.requires.numbers.2) in
    let tells = tells_as book first.version left.version left.in_cover (header_at left.version left.activities left.aircraft left.counters) (g.S.Sink.shows left.sink) left.waiting (events_of found.nodes)
    version same (found.told [] later told) in
    let is = subst (λ (table : CostTableSeen). IsTreeIn c.args.order table book c.args.limit c.in-Ok.outcome found.nodes) c.requires.own found.is in
    let adds = subst (λ (n : ℕ). Adds (g.S.Sink.shows left.sink).told (g.S.Sink.shows c.finish.new.self.sink).told (left.waiting ++ cert_text (trailer_lines n c.in-Ok.outcome)))
    (beside.1 ∙ kept.activities ∙ c.requires.numbers.0) (c.in-Ok-finish.ensures.taken lasts) in
    written book c.args.limit c.args.order first.version c.every_book_is_sound.ensures c.search_trees_are_accepted.ensures c.in-Ok.outcome found.nodes is
    left.in_cover (g.S.Sink.shows left.sink) (g.S.Sink.shows c.finish.new.self.sink) left.waiting tells adds

-- the end failed
pub returns-in-Err-finish-clause-stopped : goal.returns-in-Err-finish-clause-stopped
returns-in-Err-finish-clause-stopped g c = λ lasts empty.
    let book = c.args.book.now in let first = c.args.log.now in let begun = c.begin.new.self in let left = c.search_in_order.new.log in
    let kept = c.in_default.ensures in let beside = c.search_in_order.ensures.beside in
    let later = c.finish.ensures.ceases lasts in
    let told = begun_tells_as begun.version begun.in_cover (header_at first.version first.activities first.aircraft first.counters) (header_at begun.version begun.activities begun.aircraft begun.counters)
    (g.S.Sink.shows first.sink) (g.S.Sink.shows begun.sink) begun.waiting kept.outside
    (same_header first.version begun.version first.activities first.aircraft first.counters begun.activities begun.aircraft begun.counters kept.version kept.activities kept.aircraft kept.counters) kept.none_wait empty
    (kept.taken (c.search_in_order.ensures.later.ceases later)) in
    let found = c.in-Ok.ensures.tree in
    let version = beside.4 ∙ kept.version in
    let same = book_header first.version left.version book left.activities left.aircraft left.counters version
    (beside.1 ∙ kept.activities ∙ c.requires.numbers.0, beside.2 ∙ kept.aircraft ∙ c.requires.numbers.1, beside.3 ∙ kept.counters ∙ c.requires.numbers.2) in
    let tells = tells_as book first.version left.version left.in_cover (header_at left.version left.activities left.aircraft left.counters) (g.S.Sink.shows left.sink) left.waiting (events_of found.nodes)
    version same (found.told [] later told) in
    let is = subst (λ (table : CostTableSeen). IsTreeIn c.args.order table book c.args.limit c.in-Ok.outcome found.nodes) c.requires.own found.is in
    let adds = subst (λ (n : ℕ). AddsFront (g.S.Sink.shows left.sink).told (g.S.Sink.shows c.finish.new.self.sink).told (left.waiting ++ cert_text (trailer_lines n c.in-Ok.outcome)))
    (beside.1 ∙ kept.activities ∙ c.requires.numbers.0) (c.in-Err-finish.ensures.front lasts) in
    written_front book c.args.limit c.args.order first.version c.every_book_is_sound.ensures c.search_trees_are_accepted.ensures c.in-Ok.outcome found.nodes is
    left.in_cover (g.S.Sink.shows left.sink) (g.S.Sink.shows c.finish.new.self.sink) left.waiting tells adds
