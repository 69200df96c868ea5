use Rattle.std.proofs.Common.{sym}
use Rattle.tail_book.specs.declared.place.Place.TheVariants.{Carry}
use Rattle.branch_marks.proofs.laws.route_weights.weight_is_along.Goals as goal

pub returns : goal.returns
returns c table book k duals route = sym (c.weights_along.ensures table book k duals Carry route)
