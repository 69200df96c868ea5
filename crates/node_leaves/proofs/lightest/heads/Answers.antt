use Rattle.std.proofs.Common.{◌<◌, ◌∙◌, ℕ, List, All, ap, sym, subst}
use Rattle.tail_book.specs.declared.place.Place.TheVariants.{Carry}
use Rattle.tail_book.specs.Lookup.{activities}
use Rattle.connection_net.specs.Seen.{NetSeen}
use Rattle.connection_net.specs.Net.{net_of, heads_in}
use Rattle.node_leaves.proofs.lightest.heads.Goals as goal

-- a row of the network rises below the number of activities
pub returns : goal.returns
returns c =
    let book = c.args.field.now.book.now in
    subst (λ (row : List ℕ). All (λ (b : ℕ). b < activities book) row)
    (sym (c.heads.ensures ∙ ap (λ (net : NetSeen). heads_in net c.args.k) c.requires.field.net))
    (c.rising_routes_are_below.ensures (activities book) Carry (heads_in (net_of book) c.args.k) ((c.rows_rise.ensures book).heads c.args.k))
