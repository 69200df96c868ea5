use Rattle.std.proofs.Common.{◌∙◌, List, Ok, ap, sym, subst, arith}
use Rattle.std.proofs.lemmas.Grind.{common_steps}
use Rattle.branch_marks.specs.declared.fact.Fact.{Fact}
use Rattle.cert_checker.specs.inside.Kept.{state_of}
use Rattle.cert_checker.specs.inside.KeptFloors.{AreAllUnder}
use Rattle.cert_checker.proofs.AtNodes.{fact_known, fact_not_following, fact_out, fact_taken, kept_at_node, no_node, node_here, owed_here}
use Rattle.cert_checker.proofs.Keeping.{in_tree_part, no_leaf}
use Rattle.cert_checker.proofs.state.Judging.take_fact.Goals as goal

pub returns-then-not-found-clause-step : goal.returns-then-not-found-clause-step
returns-then-not-found-clause-step c =
    no_node c.args.book.now (state_of c.args.self.now) c.go_to_node.new.self c.in_ok-found.found c.in_ok-found.ensures.node c.if-not-found.true _

pub returns-then-not-is_of-clause-step : goal.returns-then-not-is_of-clause-step
returns-then-not-is_of-clause-step c =
    let node = node_here c.args.book.now (state_of c.args.self.now) c.go_to_node.new.self c.in_ok-found.found c.in_ok-found.ensures.node c.if-not-found.false in
    fact_out _ _ _ node c.args.fact (sym c.is_of.ensures.tests ∙ c.if-not-is_of.true)

pub returns-then-has-clause-step : goal.returns-then-has-clause-step
returns-then-has-clause-step c =
    let node = node_here c.args.book.now (state_of c.args.self.now) c.go_to_node.new.self c.in_ok-found.found c.in_ok-found.ensures.node c.if-not-found.false in
    fact_known _ _ _ node c.args.fact (sym c.is_of.ensures.tests ∙ c.if-not-is_of.false) (sym c.has.ensures.tests ∙ c.if-has.true)

pub returns-then-not-follows-clause-step : goal.returns-then-not-follows-clause-step
returns-then-not-follows-clause-step c =
    let node = node_here c.args.book.now (state_of c.args.self.now) c.go_to_node.new.self c.in_ok-found.found c.in_ok-found.ensures.node c.if-not-found.false in
    fact_not_following _ _ _ node c.args.fact (sym c.is_of.ensures.tests ∙ c.if-not-is_of.false) (sym c.has.ensures.tests ∙ c.if-has.false)
    (sym c.follows.ensures.tests ∙ c.if-not-follows.true)

pub returns-clause-step : goal.returns-clause-step
returns-clause-step c =
    let mid = c.go_to_node.new.self in
    let node = node_here c.args.book.now (state_of c.args.self.now) mid c.in_ok-found.found c.in_ok-found.ensures.node c.if-not-found.false in
    let added = c.in_ok-add.ensures in
    fact_taken _ _ _ node c.args.fact (sym c.is_of.ensures.tests ∙ c.if-not-is_of.false) (sym c.has.ensures.tests ∙ c.if-has.false)
    (sym c.follows.ensures.tests ∙ c.if-not-follows.false)
    ∙ ap Ok (kept_at_node (record c.go_to_node.new.self { branches = c.add.new.self; floors = c.give_up.new.self }) _ node.part node.leaf (owed_here c.add.new.self _ _ (added.owes ∙ node.owes) added.facts added.behind))

pub returns-clause-judging : goal.returns-clause-judging
returns-clause-judging c =
    let book = c.args.book.now in
    let mid = c.go_to_node.new.self in
    let node = node_here c.args.book.now (state_of c.args.self.now) mid c.in_ok-found.found c.in_ok-found.ensures.node c.if-not-found.false in
    let is = c.in_ok-found.ensures.judging in
    record {
      branches = c.in_ok-add.ensures.branches;
      part = in_tree_part book (record mid { branches = c.add.new.self; floors = c.give_up.new.self }) node.part;
      duals = is.duals;
      covers = is.covers;
      values = is.values;
      fliers = is.fliers;
      leaf = no_leaf book (record mid { branches = c.add.new.self; floors = c.give_up.new.self }) node.leaf;
      starts = is.starts;
      floors = subst (λ (facts : List Fact). AreAllUnder book facts c.give_up.new.self.rows.items) (sym c.in_ok-add.ensures.facts)
          (c.give_up.ensures book mid.branches.marks.facts c.follows.ensures.kept);
      width = grind (arith, common_steps);
      pricer = is.pricer;
    }
