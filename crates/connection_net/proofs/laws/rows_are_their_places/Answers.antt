use Rattle.connection_net.proofs.RowPlaces.{contained, stands_at, rising_below}
use Rattle.connection_net.proofs.laws.rows_are_their_places.Goals as goal

pub returns : goal.returns
returns c = record { has = contained; stands = stands_at; below = rising_below }
