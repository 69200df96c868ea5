use Rattle.std.proofs.Common.{◌≡◌, true, false, nat_lt, append_assoc, rules}
use Rattle.std.proofs.lemmas.Bool.Decides.{nat_tests}
use Rattle.book_maker.proofs.ChangeLemmas.{first_sooner, second_sooner}
use Rattle.book_maker.proofs.changes.add_changes.Goals as goal

-- the first rule's month comes sooner
pub returns-in_ok-push-2 : goal.returns-in_ok-push-2
returns-in_ok-push-2 c =
    let sooner : nat_lt c.args.first.month c.args.second.month ≡ true = search (rules, nat_tests) in
    rw (c.in_ok-push-2.ensures.items, c.in_ok-push.ensures.items, first_sooner c.args.standard c.args.daylight c.args.first c.args.second sooner c.args.year, append_assoc, c.change_in-begins.ensures, c.change_in-ends.ensures) (search rules)

-- that of the second does
pub returns-in_ok-push-4 : goal.returns-in_ok-push-4
returns-in_ok-push-4 c =
    let later : nat_lt c.args.first.month c.args.second.month ≡ false = search (rules, nat_tests) in
    rw (c.in_ok-push-4.ensures.items, c.in_ok-push-3.ensures.items, second_sooner c.args.standard c.args.daylight c.args.first c.args.second later c.args.year, append_assoc, c.change_in-begins.ensures, c.change_in-ends.ensures) (search rules)
