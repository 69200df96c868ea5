use Rattle.std.proofs.Common.{◌≡◌, ◌++◌, ◌<◌, drop}
use Rattle.std.specs.List.{All}
use Rattle.tail_book.specs.Lookup.{activities}
use Rattle.plan_picture.specs.Rows.{uncovered_in}
use Rattle.plan_picture.proofs.rows.uncovered_in.Given as goal

-- those so far, and those among the rules that are left
abbrev pub invariant-loop-rule : goal.invariant-loop-rule
invariant-loop-rule l = record {
  list : uncovered_in l.rules ≡ l.list.items ++ uncovered_in (drop l.rule-index l.rules);
  range : All (λ a. a < activities l.book) l.list.items;
}
