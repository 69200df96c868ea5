use Rattle.cert_checker.proofs.AtNodes.{no_node_before, node_told}
use Rattle.cert_checker.proofs.Keeping.{at_node_still}
use Rattle.cert_checker.specs.inside.Kept.{state_of}
use Rattle.cert_checker.proofs.state.Judging.go_to_node.Goals as goal

pub returns-then-not-done-clause-node : goal.returns-then-not-done-clause-node
returns-then-not-done-clause-node c =
    no_node_before c.args.book.now (state_of c.args.self.now) (c.close_leaf-done.ensures.early c.if-not-done.true)

pub returns-then-here-clause-node : goal.returns-then-here-clause-node
returns-then-here-clause-node c =
    let done = c.if-not-done.false in
    record {
      after = c.close_leaf-done.ensures.closed done;
      owes = c.if-here.true;
      part = c.close_leaf-done.ensures.part done;
      leaf = c.close_leaf-done.ensures.leaf done;
    }

pub returns-clause-judging : goal.returns-clause-judging
returns-clause-judging c =
    let done = c.if-not-done.false in
    let is = c.close_leaf-done.ensures.judging in
    at_node_still c.args.book.now c.close_leaf-done.new.self c.next.new.self c.clear.new.self is
    (c.close_leaf-done.ensures.part done) (c.close_leaf-done.ensures.leaf done) c.in_ok-found.ensures.branches
    (c.clear.ensures c.args.book.now c.close_leaf-done.new.self.branches.marks.facts c.next.new.self.marks.facts is.floors)

pub returns-clause-node : goal.returns-clause-node
returns-clause-node c =
    let done = c.if-not-done.false in
    node_told c.args.book.now (state_of c.args.self.now) c.close_leaf-done.new.self c.next.new.self c.clear.new.self (c.close_leaf-done.ensures.closed done)
    (c.close_leaf-done.ensures.part done) (c.close_leaf-done.ensures.leaf done) c.in_ok-found.ensures.owed c.in_ok-found.found c.in_ok-found.ensures.owes c.in_ok-found.ensures.none
