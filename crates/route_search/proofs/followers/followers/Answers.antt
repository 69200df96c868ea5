use Rattle.tail_book.specs.Lookup.{activities}
use Rattle.tail_book.specs.declared.place.Place.TheVariants.{Carry}
use Rattle.route_search.proofs.Successors.{all_successors, successors_rise}
use Rattle.route_search.proofs.Ties.{does_not_fall, named_alone, none_of_several, one_alone, none_usable}
use Rattle.route_search.proofs.followers.followers.Goals as goal

-- the row of successors rises
pub only-requires : goal.only-requires
only-requires c = record {
  rises = does_not_fall (activities c.args.task.now.book.now) Carry c.successors-next.result.now
      (successors_rise c.rows_are_their_places.ensures c.args.task.now.book.now c.args.task.now.net.now c.requires.task.net c.successors-next.result.now c.args.x c.successors-next.ensures
      (c.rows_rise.ensures c.args.task.now.book.now));
}

-- whatever is usable is a successor
pub returns-in-Nothing : goal.returns-in-Nothing
returns-in-Nothing c =
    all_successors c.rows_are_their_places.ensures c.args.task.now.book.now c.args.task.now.net.now c.requires.task.net c.successors-next.result.now c.args.x c.successors-next.ensures
    c.rising_routes_are_below.ensures (c.rows_rise.ensures c.args.task.now.book.now) c.successors_follow.ensures c.every_task_is_sound.ensures.book
    c.successors_are_links.ensures c.args.task.now.marks.now.facts c.args.task.now.k c.requires.task.aircraft

-- and is what the Tie names
pub returns-in-One : goal.returns-in-One
returns-in-One c =
    let book = c.args.task.now.book.now in
    let facts = c.args.task.now.marks.now.facts in
    let k = c.args.task.now.k in
    one_alone c.rows_are_their_places.ensures book facts k c.args.x c.successors-next.result.now c.in-One.b c.only.result.now c.only.ensures
    (all_successors c.rows_are_their_places.ensures book c.args.task.now.net.now c.requires.task.net c.successors-next.result.now c.args.x c.successors-next.ensures
    c.rising_routes_are_below.ensures (c.rows_rise.ensures book) c.successors_follow.ensures c.every_task_is_sound.ensures.book
    c.successors_are_links.ensures facts k c.requires.task.aircraft)
    (named_alone book facts k c.args.x c.in-One.b c.in-One.ensures)

-- of which there is none where several are named
pub returns-in-Several : goal.returns-in-Several
returns-in-Several c =
    let book = c.args.task.now.book.now in
    let facts = c.args.task.now.marks.now.facts in
    none_usable book facts c.args.task.now.k c.args.x (none_of_several book facts c.args.task.now.k c.args.x c.in-Several.ensures)
