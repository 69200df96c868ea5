use Rattle.tail_book.specs.Plan.{route_of}
use Rattle.node_leaves.proofs.PairChoices.{carrier_of_book, pair_undecided}
use Rattle.node_leaves.proofs.split_pair.chosen_pair.Goals as goal

pub pair_of-requires-clause-aircraft : goal.pair_of-requires-clause-aircraft
pair_of-requires-clause-aircraft c =
    carrier_of_book c.args.book.now c.args.marks.now.facts c.args.routes.now c.in-Some.a c.in-Some.k c.in-Some.ensures.some.carrier

-- what the routes choose was undecided
pub returns-clause-undecided : goal.returns-clause-undecided
returns-clause-undecided c =
    let book = c.args.book.now in
    let marks = c.args.marks.now.facts in
    let routes = c.args.routes.now in
    let k = c.in-Some.k in
    let a = c.in-Some.a in
    let choice = c.in-Some.ensures.some in
    let lt = carrier_of_book book marks routes a k choice.carrier in
    pair_undecided book marks k (route_of routes k) a lt (c.requires.fitting.fits k lt)
    (c.choices_are_undecided.ensures book c.every_book_is_sound.ensures marks routes k a c.requires.fitting choice)
    c.pair_of.result c.pair_of.ensures
