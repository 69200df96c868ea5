use Rattle.route_search.proofs.Ties.{found_alone, nothing_left}
use Rattle.route_search.proofs.followers.only.Goals as goal

pub returns-in-Ok : goal.returns-in-Ok
returns-in-Ok c = found_alone c.rows_are_their_places.ensures c.args.next.now c.args.b c.in-Ok.i c.requires.rises c.in-Ok.ensures.position

-- the list does not have what is not found
pub returns-in-Err : goal.returns-in-Err
returns-in-Err c = nothing_left c.rows_are_their_places.ensures c.args.next.now c.args.b c.in-Err.field-0 c.requires.rises c.in-Err.ensures.position
