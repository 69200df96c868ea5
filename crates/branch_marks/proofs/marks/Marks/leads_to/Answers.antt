use Rattle.std.proofs.Common.{◌≡◌, ◌∙◌, ◌<◌, arith, false, nat_lt, sym, rules}
use Rattle.std.proofs.lemmas.Bool.{false_from_ne_true}
use Rattle.std.proofs.lemmas.Bool.Decides.{nat_tests}
use Rattle.tail_book.specs.Lookup.{activities}
use Rattle.branch_marks.specs.MarkTests.{is_usable}
use Rattle.branch_marks.proofs.marks.Marks.leads_to.Goals as goal

-- a number that is no activity's is linked from nowhere
pub returns-else-b-len-clause-usable : goal.returns-else-b-len-clause-usable
returns-else-b-len-clause-usable c =
    let book = c.args.book.now in
    let count : c.len.result ≡ activities book = search rules in
    let past : nat_lt c.args.b c.len.result ≡ false = grind (arith, nat_tests, c.if-b-len.false) in
    past ∙ sym (false_from_ne_true (is_usable book c.args.self.now.facts c.args.k c.args.from c.args.b)
    (λ usable. let within : c.args.b < activities book = ((c.usable_decides.ensures book c.args.self.now.facts c.args.k c.args.from c.args.b).0 usable).link.after.activity in absurd (omega (arith, within, count, c.if-b-len.false))))
