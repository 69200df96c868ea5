use Rattle.std.proofs.Common.{◌<◌, ◌∙◌, ℕ, List, All, ap, sym, subst}
use Rattle.tail_book.specs.declared.place.Place.TheVariants.{Carry}
use Rattle.tail_book.specs.Lookup.{activities}
use Rattle.connection_net.specs.Seen.{NetSeen}
use Rattle.connection_net.specs.Net.{net_of, successors_in}
use Rattle.node_leaves.proofs.lightest.successors.Goals as goal

-- a row of the network rises below the number of activities
pub returns : goal.returns
returns c =
    let book = c.args.field.now.book.now in
    subst (λ (row : List ℕ). All (λ (b : ℕ). b < activities book) row)
    (sym (c.successors.ensures ∙ ap (λ (net : NetSeen). successors_in net c.args.x) c.requires.field.net))
    (c.rising_routes_are_below.ensures (activities book) Carry (successors_in (net_of book) c.args.x) ((c.rows_rise.ensures book).successors c.args.x))
