use Rattle.std.proofs.Common.{◌≡◌, ◌∙◌, rules}
use Rattle.std.proofs.lemmas.Bool.{lt-ltb}
use Rattle.std.specs.Prelude.{nat_lt}
use Rattle.tail_book.specs.Lookup.{activities, aircraft}
use Rattle.branch_marks.specs.inside.BitRows.{has_pair}
use Rattle.branch_marks.proofs.FactTables.{allowed_first}
use Rattle.branch_marks.proofs.alive_rows.allowed_rows.Goals as goal

-- no row had a pair before
pub returns : goal.returns
returns c =
    let rows : c.in_ok-allowed.allowed.rows ≡ activities c.args.book.now = search rules in
    let columns : c.in_ok-allowed.allowed.columns ≡ aircraft c.args.book.now = search rules in
    record {
      rows = c.put_all.ensures.rows ∙ rows;
      columns = c.put_all.ensures.columns ∙ columns;
      pairs = λ a k la lk. c.put_all.ensures.pairs a k (rw columns lk)
          ∙ allowed_first c.args.book.now k a (has_pair c.in_ok-allowed.allowed a k) (nat_lt a (activities c.args.book.now)) (c.in_ok-allowed.ensures.none a k) (lt-ltb a (activities c.args.book.now) la);
    }
