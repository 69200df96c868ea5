use Rattle.std.proofs.Common.{◌∙◌, Ok, ap, sym}
use Rattle.cert_checker.specs.inside.Kept.{state_of}
use Rattle.std.proofs.Common.{false, refl}
use Rattle.cert_checker.proofs.AtNodes.{hole_alive, hole_out, hole_taken, kept_at_node, no_node, node_here}
use Rattle.cert_checker.proofs.Keeping.{at_node_still, owes_alone}
use Rattle.cert_checker.proofs.state.Judging.take_hole.Goals as goal

pub returns-then-not-found-clause-step : goal.returns-then-not-found-clause-step
returns-then-not-found-clause-step c =
    no_node c.args.book.now (state_of c.args.self.now) c.go_to_node.new.self c.in_ok-found.found c.in_ok-found.ensures.node c.if-not-found.true _

pub returns-then-not-is_activity-clause-step : goal.returns-then-not-is_activity-clause-step
returns-then-not-is_activity-clause-step c =
    let node = node_here c.args.book.now (state_of c.args.self.now) c.go_to_node.new.self c.in_ok-found.found c.in_ok-found.ensures.node c.if-not-found.false in
    hole_out _ _ _ node c.args.a (sym c.is_activity.ensures ∙ c.if-not-is_activity.true)

pub returns-then-not-hole-clause-step : goal.returns-then-not-hole-clause-step
returns-then-not-hole-clause-step c =
    let node = node_here c.args.book.now (state_of c.args.self.now) c.go_to_node.new.self c.in_ok-found.found c.in_ok-found.ensures.node c.if-not-found.false in
    hole_alive _ _ _ node c.args.a (sym c.is_activity.ensures ∙ c.if-not-is_activity.false) (sym c.hole.ensures ∙ c.if-not-hole.true)

pub returns-clause-step : goal.returns-clause-step
returns-clause-step c =
    let node = node_here c.args.book.now (state_of c.args.self.now) c.go_to_node.new.self c.in_ok-found.found c.in_ok-found.ensures.node c.if-not-found.false in
    hole_taken _ _ _ node c.args.a (sym c.is_activity.ensures ∙ c.if-not-is_activity.false) (sym c.hole.ensures ∙ c.if-not-hole.false)
    ∙ ap Ok (kept_at_node (record c.go_to_node.new.self { branches = record c.go_to_node.new.self.branches { owes = false } }) _ node.part node.leaf refl)

pub returns-clause-judging : goal.returns-clause-judging
returns-clause-judging c =
    let node = node_here c.args.book.now (state_of c.args.self.now) c.go_to_node.new.self c.in_ok-found.found c.in_ok-found.ensures.node c.if-not-found.false in
    let mid = c.go_to_node.new.self in
    let is = c.in_ok-found.ensures.judging in
    at_node_still c.args.book.now mid (record mid.branches { owes = false }) mid.floors is node.part node.leaf
    (owes_alone c.args.book.now mid.branches false is.branches) is.floors
