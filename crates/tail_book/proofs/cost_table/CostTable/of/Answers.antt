use Rattle.std.proofs.Common.{◌≡◌, rules, length}
use Rattle.tail_book.proofs.TableCosts.{own_costs_sound}
use Rattle.tail_book.proofs.cost_table.CostTable.of.Goals as goal

pub invariant_of-result : goal.invariant_of-result
invariant_of-result c =
    let n : c.len-n.result ≡ length c.args.book.now.activities = search rules in
    let m : c.len-m.result ≡ length c.args.book.now.tails = search rules in
    let bands : c.extend_from_slice.new.self.items ≡ c.args.book.now.rules.bands = search rules in
    rw (n, m, c.in_ok-fly.ensures, bands) (own_costs_sound c.args.book.now c.every_book_is_sound.ensures)
