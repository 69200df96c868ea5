use Rattle.std.proofs.Common.{◌<◌, ◌≡◌, ℕ, ◌∙◌, arith, length, List}
use Rattle.std.specs.Prelude.{All}
use Rattle.connection_net.specs.Seen.{NetSeen}
use Rattle.connection_net.specs.Net.{net_of, predecessors_in}
use Rattle.std.proofs.Common.{subst, sym, ap}
use Rattle.floor_rows.proofs.ComeOn.{next_of}
use Rattle.floor_rows.proofs.floors.come_on.Goals as goal

pub loop-x-preserved : goal.loop-x-preserved
loop-x-preserved c =
    let book = c.args.book.now in
    let items = c.predecessors-x-items.result.now in
    let are : items ≡ predecessors_in (net_of book) c.args.b
    = c.predecessors-x-items.ensures ∙ ap (λ (net : NetSeen). predecessors_in net c.args.b) c.requires.net in
    let before : All (λ x. x < c.args.b) items
    = subst (λ (xs : List ℕ). All (λ x. x < c.args.b) xs) (sym are) (c.predecessors_come_before.ensures book c.every_book_is_sound.ensures c.args.b c.requires.activity) in
    let within : c.loop-x.x-index < length items = omega arith in
    next_of c.lesser_in_any_order.ensures book c.args.marks.now.facts c.args.k c.args.b c.loop-x.x-index c.args.row.now c.loop-x.row c.come_from.new.row items
    within before c.requires.before c.loop-x.invariant c.come_from.ensures
