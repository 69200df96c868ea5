use Rattle.std.proofs.Common.{◌∙◌, Ok, ap, sym}
use Rattle.cert_checker.specs.inside.Kept.{state_of}
use Rattle.cert_checker.proofs.AtNodes.{kept_at_node, no_node, node_here, owed_here, split_decided, split_out, split_taken}
use Rattle.cert_checker.proofs.Keeping.{at_node_still}
use Rattle.cert_checker.proofs.state.Judging.take_split.Goals as goal

pub returns-then-not-found-clause-step : goal.returns-then-not-found-clause-step
returns-then-not-found-clause-step c =
    no_node c.args.book.now (state_of c.args.self.now) c.go_to_node.new.self c.in_ok-found.found c.in_ok-found.ensures.node c.if-not-found.true _

pub returns-then-not-is_pair_of-clause-step : goal.returns-then-not-is_pair_of-clause-step
returns-then-not-is_pair_of-clause-step c =
    let node = node_here c.args.book.now (state_of c.args.self.now) c.go_to_node.new.self c.in_ok-found.found c.in_ok-found.ensures.node c.if-not-found.false in
    split_out _ _ _ node c.args.pair (sym c.is_pair_of.ensures ∙ c.if-not-is_pair_of.true)

pub returns-then-not-undecided-clause-step : goal.returns-then-not-undecided-clause-step
returns-then-not-undecided-clause-step c =
    let node = node_here c.args.book.now (state_of c.args.self.now) c.go_to_node.new.self c.in_ok-found.found c.in_ok-found.ensures.node c.if-not-found.false in
    split_decided _ _ _ node c.args.pair (sym c.is_pair_of.ensures ∙ c.if-not-is_pair_of.false) (sym c.undecided.ensures ∙ c.if-not-undecided.true)

pub returns-clause-step : goal.returns-clause-step
returns-clause-step c =
    let node = node_here c.args.book.now (state_of c.args.self.now) c.go_to_node.new.self c.in_ok-found.found c.in_ok-found.ensures.node c.if-not-found.false in
    let parted = c.in_ok-split.ensures in
    split_taken _ _ _ node c.args.pair (sym c.is_pair_of.ensures ∙ c.if-not-is_pair_of.false) (sym c.undecided.ensures ∙ c.if-not-undecided.false)
    ∙ ap Ok (kept_at_node (record c.go_to_node.new.self { branches = c.split.new.self; floors = c.clear.new.self }) _ node.part node.leaf (owed_here c.split.new.self _ _ (parted.owes ∙ node.owes) parted.facts parted.behind))

pub returns-clause-judging : goal.returns-clause-judging
returns-clause-judging c =
    let node = node_here c.args.book.now (state_of c.args.self.now) c.go_to_node.new.self c.in_ok-found.found c.in_ok-found.ensures.node c.if-not-found.false in
    let mid = c.go_to_node.new.self in
    let is = c.in_ok-found.ensures.judging in
    at_node_still c.args.book.now mid c.split.new.self c.clear.new.self is node.part node.leaf c.in_ok-split.ensures.branches
    (c.clear.ensures c.args.book.now mid.branches.marks.facts c.split.new.self.marks.facts is.floors)
