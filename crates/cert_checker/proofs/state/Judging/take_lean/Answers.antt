use Rattle.std.proofs.Common.{◌≡◌, ◌∙◌, ℕ, ℤ, pos, true, false, List, length, replicate, ap, subst, sym}
use Rattle.std.specs.Vec.{with_items}
use Rattle.std.proofs.lemmas.List.{length-replicate, with_items_is}
use Rattle.tail_book.specs.Lookup.{activities}
use Rattle.tail_book.specs.CostTable.{costs_of}
use Rattle.branch_marks.specs.ProofTree.{zero_duals}
use Rattle.branch_marks.specs.TreeTests.{are_duals}
use Rattle.cert_checker.specs.inside.Kept.{state_of}
use Rattle.cert_checker.proofs.AtNodes.{node_here}
use Rattle.cert_checker.proofs.Keeping.{owes_alone}
use Rattle.cert_checker.proofs.Taking.{zeros_are_duals}
use Rattle.cert_checker.proofs.state.Judging.take_lean.Goals as goal

-- all duals are 0, which is in the box
pub returns-clause-judging : goal.returns-clause-judging
returns-clause-judging c =
    let book = c.args.book.now in
    let mid = c.go_to_node.new.self in
    let node = node_here book (state_of c.args.self.now) mid c.in_ok-found.found c.in_ok-found.ensures.node c.if-not-found.false in
    let is = c.in_ok-found.ensures.judging in
    let many : length c.deref_mut.result.now ≡ activities book = ap (λ (duals : List ℤ). length duals) c.deref_mut.ensures.value ∙ is.duals in
    let zeros = c.clear.ensures ∙ ap (λ (n : ℕ). replicate n (pos 0)) many in
    let long : length c.clear.new.duals ≡ activities book = ap (λ (duals : List ℤ). length duals) zeros ∙ length-replicate (activities book) (pos 0) in
    let same : (with_items mid.duals c.clear.new.duals).items ≡ c.clear.new.duals = with_items_is mid.duals c.clear.new.duals (long ∙ sym is.duals ∙ sym mid.duals.ok.0) in
    let zero : (with_items mid.duals c.clear.new.duals).items ≡ zero_duals book = same ∙ zeros in
    record {
      branches = owes_alone book mid.branches false is.branches;
      part = (subst (λ (duals : List ℤ). are_duals (costs_of book) book duals ≡ true) (sym zero) (zeros_are_duals book), node.leaf);
      duals = ap (λ (duals : List ℤ). length duals) zero ∙ length-replicate (activities book) (pos 0);
      covers = is.covers;
      values = is.values;
      fliers = is.fliers;
      leaf = rw node.leaf tt;
      starts = is.starts;
      floors = is.floors;
      width = is.width;
      pricer = is.pricer;
    }
