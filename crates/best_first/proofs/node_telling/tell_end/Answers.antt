use Rattle.std.proofs.Common.{arith, sym, subst}
use Rattle.best_first.specs.declared.slots.KeptEnd.{KeptEnd}
use Rattle.best_first.specs.inside.Slots.{IsKeptEnd}
use Rattle.best_first.specs.inside.Tellings.{IsEndTold}
use Rattle.best_first.proofs.EndsTold.{hole_cut, hole_told, line_pair, split_cut, split_told, stuck_told}
use Rattle.best_first.proofs.node_telling.tell_end.Goals as goal

-- a line spells an activity of the book
pub note_one-requires : goal.note_one-requires
note_one-requires g c =
    let hole = subst (λ (e : KeptEnd). IsKeptEnd c.args.table.now c.args.book.now c.args.marks.now.facts c.args.duals.now.values c.args.kept.now.target e)
    c.in-Hole.is c.requires.ended in
    omega (arith, hole.of_book, c.every_book_is_sound.ensures.few_activities)

pub returns-in-Err-clause-cut : goal.returns-in-Err-clause-cut
returns-in-Err-clause-cut g c =
    let table = c.args.table.now in let book = c.args.book.now in let marks = c.args.marks.now.facts in let duals = c.args.duals.now.values in
    let target = c.args.kept.now.target in
    let hole = subst (λ (e : KeptEnd). IsKeptEnd table book marks duals target e) c.in-Hole.is c.requires.ended in
    hole_cut table book marks duals target (g.L.TreeLog.shows c.args.log.now) (g.L.TreeLog.shows c.note_one.new.log) c.in-Hole.a hole
    c.in-Err.ensures.cut

-- and a pair that is undecided
pub note_one-requires-in-Split : goal.note_one-requires-in-Split
note_one-requires-in-Split g c =
    let book = c.args.book.now in let marks = c.args.marks.now.facts in
    let sound = c.every_book_is_sound.ensures in let pair = c.in-Split.pair in
    let split = subst (λ (e : KeptEnd). IsKeptEnd c.args.table.now book marks c.args.duals.now.values c.args.kept.now.target e) c.in-Split.is c.requires.ended in
    line_pair book (omega (arith, sound.few_activities)) (omega (arith, sound.few_tails)) pair (c.undecided_pairs_are_of_book.ensures book marks pair split.0)

pub returns-in-Err-note_one-clause-cut : goal.returns-in-Err-note_one-clause-cut
returns-in-Err-note_one-clause-cut g c =
    let table = c.args.table.now in let book = c.args.book.now in let marks = c.args.marks.now.facts in let duals = c.args.duals.now.values in
    let target = c.args.kept.now.target in
    let split = subst (λ (e : KeptEnd). IsKeptEnd table book marks duals target e) c.in-Split.is c.requires.ended in
    split_cut table book marks duals target (g.L.TreeLog.shows c.args.log.now) (g.L.TreeLog.shows c.note_one-in-Split.new.log) c.in-Split.pair c.in-Split.bound
    split c.in-Err-note_one.ensures.cut

-- the hole
pub returns-in_default-clause-told : goal.returns-in_default-clause-told
returns-in_default-clause-told g c =
    let table = c.args.table.now in let book = c.args.book.now in let marks = c.args.marks.now.facts in let duals = c.args.duals.now.values in
    let target = c.args.kept.now.target in
    let old = g.L.TreeLog.shows c.args.log.now in let new = g.L.TreeLog.shows c.note_one.new.log in
    let hole = subst (λ (e : KeptEnd). IsKeptEnd table book marks duals target e) c.in-Hole.is c.requires.ended in
    subst (λ (e : KeptEnd). IsEndTold table book marks duals target e old new) (sym c.in-Hole.is)
    (hole_told table book marks duals target old new c.in-Hole.a hole c.in_default.ensures.noted)

-- the stuck aircraft
pub returns-in_default-note_stuck-clause-told : goal.returns-in_default-note_stuck-clause-told
returns-in_default-note_stuck-clause-told g c =
    let table = c.args.table.now in let book = c.args.book.now in let marks = c.args.marks.now.facts in let duals = c.args.duals.now.values in
    let target = c.args.kept.now.target in
    let old = g.L.TreeLog.shows c.args.log.now in let new = g.L.TreeLog.shows c.note_stuck.new.log in
    subst (λ (e : KeptEnd). IsEndTold table book marks duals target e old new) (sym c.in-Stuck.is)
    (stuck_told table book marks duals target old new c.in-Stuck.k c.in_default-note_stuck.ensures.noted)

-- the split
pub returns-in_default-note_one-clause-told : goal.returns-in_default-note_one-clause-told
returns-in_default-note_one-clause-told g c =
    let table = c.args.table.now in let book = c.args.book.now in let marks = c.args.marks.now.facts in let duals = c.args.duals.now.values in
    let target = c.args.kept.now.target in
    let old = g.L.TreeLog.shows c.args.log.now in let new = g.L.TreeLog.shows c.note_one-in-Split.new.log in
    let split = subst (λ (e : KeptEnd). IsKeptEnd table book marks duals target e) c.in-Split.is c.requires.ended in
    subst (λ (e : KeptEnd). IsEndTold table book marks duals target e old new) (sym c.in-Split.is)
    (split_told table book marks duals target old new c.in-Split.pair c.in-Split.bound split c.in_default-note_one.ensures.noted)
