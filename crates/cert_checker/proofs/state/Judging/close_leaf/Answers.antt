use Rattle.std.proofs.Common.{◌∙◌, None, Ok, ap, refl}
use Rattle.cert_checker.proofs.AtNodes.{kept_at_node}
use Rattle.cert_checker.proofs.Closing.{close_none, close_tree}
use Rattle.cert_checker.proofs.state.Judging.close_leaf.Goals as goal

pub returns-in-InTree-clause-closed : goal.returns-in-InTree-clause-closed
returns-in-InTree-clause-closed c is =
    close_tree c.args.book.now c.args.self.now c.in-InTree.is ∙ ap Ok (kept_at_node (record c.args.self.now { leaf = None }) _ c.in-InTree.is refl refl)

pub returns-in_default-clause-early : goal.returns-in_default-clause-early
returns-in_default-clause-early c is = close_none c.args.book.now c.args.self.now c.in_default.not-InBound c.in_default.not-InTree
