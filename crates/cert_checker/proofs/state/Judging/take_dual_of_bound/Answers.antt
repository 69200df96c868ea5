use Rattle.std.proofs.Common.{◌∙◌, ◌≤◌, ◌<◌, length, sym, arith}
use Rattle.cert_checker.proofs.Keeping.{dual_place}
use Rattle.cert_checker.proofs.state.Judging.take_dual_of_bound.Goals as goal

pub overflow_add-self : goal.overflow_add-self
overflow_add-self c =
    let place = dual_place c.args.self.now.covers c.args.self.now.next c.args.a (length c.args.book.now.activities) (sym c.may_take_dual.ensures ∙ c.if-not-may_take_dual.false) in
    let few : length c.args.book.now.activities ≤ 4000 = c.every_book_is_sound.ensures.few_activities in
    let less : c.args.a < length c.args.book.now.activities = place.1 in
    omega (arith, few, less)
