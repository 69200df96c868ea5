use Rattle.std.proofs.Common.{◌<◌, ◌∙◌, arith, length, subst}
use Rattle.std.proofs.lemmas.Int.{ints}
use Rattle.tail_book.specs.Lookup.{no_activity}
use Rattle.tail_book.specs.inside.Sound.{IsMoment}
use Rattle.pricing.specs.inside.Waiting.{IsReadable}
use Rattle.pricing.proofs.Filling.{filled}
use Rattle.label_store.proofs.Growing.{grows_trans}
use Rattle.pricing.proofs.Opening.{open_reached}
use Rattle.pricing.proofs.Staying.{all_entered_stay, waiting_stays}
use Rattle.pricing.proofs.line_fill.fill_open.Goals as goal

pub advance_all-requires-clause-store : goal.advance_all-requires-clause-store
advance_all-requires-clause-store c =
    let state = c.in_ok-try_first.ensures.state in
    let long = state.width in
    record { nodes = state.nodes; width = state.same_width ∙ (omega (arith, long)); counts = λ j lt. (state.truths j lt).counts }

pub advance_all-requires-clause-moment : goal.advance_all-requires-clause-moment
advance_all-requires-clause-moment c =
    subst IsMoment c.requires.leaves.moment (c.every_book_is_sound.ensures.activities c.args.b no_activity c.requires.activity).start

pub advance_all-requires-clause-cleared : goal.advance_all-requires-clause-cleared
advance_all-requires-clause-cleared c = λ i lt. (c.requires.windows.each i lt).cleared

-- what waited does so while the first row is tried
pub advance_all-requires-clause-waiting : goal.advance_all-requires-clause-waiting
advance_all-requires-clause-waiting c =
    waiting_stays c.args.asked.now.book.now c.every_book_is_sound.ensures c.args.asked.now.marks.now.facts c.args.stand c.requires.leaves.forward c.args.b c.requires.activity
    (let moment = c.requires.leaves.moment in omega (arith, ints, moment)) c.args.store.now c.try_first.new.store c.every_store_is_sound.ensures c.requires.state.nodes
    c.in_ok-try_first.ensures.grows c.args.windows.now c.args.waiting.now c.requires.waiting

pub advance_all-requires-clause-entered : goal.advance_all-requires-clause-entered
advance_all-requires-clause-entered c =
    all_entered_stay c.args.asked.now.book.now c.every_book_is_sound.ensures c.args.asked.now.marks.now.facts c.args.stand c.requires.leaves.forward c.args.b c.requires.activity
    (let moment = c.requires.leaves.moment in omega (arith, ints, moment)) c.args.store.now c.try_first.new.store c.every_store_is_sound.ensures c.requires.state.nodes
    c.in_ok-try_first.ensures.grows c.args.windows.now c.args.flights.now c.args.waiting.now c.args.entered.now c.requires.entered

-- and while ground time is
pub depart_all-requires-clause-waiting : goal.depart_all-requires-clause-waiting
depart_all-requires-clause-waiting c =
    waiting_stays c.args.asked.now.book.now c.every_book_is_sound.ensures c.args.asked.now.marks.now.facts c.args.stand c.requires.leaves.forward c.args.b c.requires.activity
    (let moment = c.requires.leaves.moment in omega (arith, ints, moment)) c.try_first.new.store c.try_grounds.new.store c.every_store_is_sound-2.ensures c.in_ok-try_first.ensures.state.nodes
    c.in_ok-try_grounds.ensures.grows c.args.windows.now c.advance_all.new.waiting c.in_ok-advance_all.ensures.waiting

-- the bucket grows with each of the three
pub returns-clause-grows : goal.returns-clause-grows
returns-clause-grows c =
    grows_trans c.args.store.now c.try_first.new.store c.depart_all.new.store c.in_ok-try_first.ensures.grows
    (grows_trans c.try_first.new.store c.try_grounds.new.store c.depart_all.new.store c.in_ok-try_grounds.ensures.grows c.in_ok-depart_all.ensures.grows)

pub returns-clause-waiting : goal.returns-clause-waiting
returns-clause-waiting c =
    let moment = c.requires.leaves.moment in
    let stays = waiting_stays c.args.asked.now.book.now c.every_book_is_sound.ensures c.args.asked.now.marks.now.facts c.args.stand c.requires.leaves.forward c.args.b c.requires.activity (omega (arith, ints, moment)) in
    stays c.try_grounds.new.store c.depart_all.new.store c.every_store_is_sound-3.ensures c.in_ok-try_grounds.ensures.state.nodes c.in_ok-depart_all.ensures.grows c.args.windows.now c.advance_all.new.waiting
    (stays c.try_first.new.store c.try_grounds.new.store c.every_store_is_sound-2.ensures c.in_ok-try_first.ensures.state.nodes c.in_ok-try_grounds.ensures.grows c.args.windows.now
    c.advance_all.new.waiting c.in_ok-advance_all.ensures.waiting)

pub returns-clause-entered : goal.returns-clause-entered
returns-clause-entered c =
    let moment = c.requires.leaves.moment in
    let stay = all_entered_stay c.args.asked.now.book.now c.every_book_is_sound.ensures c.args.asked.now.marks.now.facts c.args.stand c.requires.leaves.forward c.args.b c.requires.activity (omega (arith, ints, moment)) in
    stay c.try_grounds.new.store c.depart_all.new.store c.every_store_is_sound-3.ensures c.in_ok-try_grounds.ensures.state.nodes c.in_ok-depart_all.ensures.grows c.args.windows.now c.args.flights.now
    c.advance_all.new.waiting c.advance_all.new.entered
    (stay c.try_first.new.store c.try_grounds.new.store c.every_store_is_sound-2.ensures c.in_ok-try_first.ensures.state.nodes c.in_ok-try_grounds.ensures.grows c.args.windows.now c.args.flights.now
    c.advance_all.new.waiting c.advance_all.new.entered c.in_ok-advance_all.ensures.entered)

-- each activity before it was tried, by the lines or as ground time
pub returns-clause-filled : goal.returns-clause-filled
returns-clause-filled c =
    let book = c.args.asked.now.book.now in
    let table = c.args.asked.now.table.now in
    let marks = c.args.asked.now.marks.now.facts in
    let k = c.args.asked.now.k in
    let duals = c.args.asked.now.duals.now.values in
    let b = c.args.b in
    let windows = c.args.windows.now in
    let flights = c.args.flights.now in
    let one = c.try_first.new.store in
    let two = c.try_grounds.new.store in
    let three = c.depart_all.new.store in
    let state = c.in_ok-try_first.ensures.state in
    let state_two = c.in_ok-try_grounds.ensures.state in
    let long = state_two.width in
    let read : IsReadable book two = record { nodes = state_two.nodes; width = state_two.same_width ∙ (omega (arith, long)); counts = λ j lt. (state_two.truths j lt).counts } in
    let moment = c.requires.leaves.moment in
    let is_book = c.every_book_is_sound.ensures in
    let here = waiting_stays book is_book marks c.args.stand c.requires.leaves.forward b c.requires.activity (omega (arith, ints, moment)) one two
    c.every_store_is_sound-2.ensures state.nodes c.in_ok-try_grounds.ensures.grows windows c.advance_all.new.waiting c.in_ok-advance_all.ensures.waiting in
    let have = all_entered_stay book is_book marks c.args.stand c.requires.leaves.forward b c.requires.activity (omega (arith, ints, moment)) one two
    c.every_store_is_sound-2.ensures state.nodes c.in_ok-try_grounds.ensures.grows windows flights c.advance_all.new.waiting c.advance_all.new.entered c.in_ok-advance_all.ensures.entered in
    let node : b < length one.buckets = omega (arith, state.nodes, c.requires.activity) in
    filled table book marks k duals one three b c.every_store_is_sound-2.ensures node
    (grows_trans one two three c.in_ok-try_grounds.ensures.grows c.in_ok-depart_all.ensures.grows) c.in_ok-try_first.ensures.begun
    (open_reached c.each_at_most_chains.ensures c.lower_stays_within.ensures table book marks k duals c.args.stand b is_book c.requires.activity c.requires.leaves
    windows c.requires.windows flights c.requires.flights c.args.grounds.now c.requires.grounds one two three c.every_store_is_sound-2.ensures c.every_store_is_sound-3.ensures read state.nodes
    c.in_ok-try_grounds.ensures.grows c.in_ok-depart_all.ensures.grows c.advance_all.new.waiting c.every_store_is_sound-4.ensures here c.advance_all.new.entered have
    c.in_ok-advance_all.ensures.pending c.in_ok-try_grounds.ensures.reached c.in_ok-depart_all.ensures.tried)
