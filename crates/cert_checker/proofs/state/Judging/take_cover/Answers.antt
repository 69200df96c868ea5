use Rattle.std.proofs.Common.{◌≡◌, ◌∙◌, ◌+◌, ◌*◌, ◌^◌, ◌<◌, ℤ, pos, to_z, of_z, ap, sym, subst, rules, arith, length}
use Rattle.std.specs.Prelude.{◌-ℤ◌, not}
use Rattle.std.specs.Int.{w128}
use Rattle.std.proofs.lemmas.Int.{to_z-of_z}
use Rattle.tail_book.specs.Ranges.{IsWithin}
use Rattle.cert_checker.proofs.Keeping.{begun_leaf, cover_place, more_values, owes_alone}
use Rattle.cert_checker.proofs.state.Judging.take_cover.Goals as goal

pub returns-clause-judging : goal.returns-clause-judging
returns-clause-judging c =
    let is = c.requires.judging in
    let book = c.args.book.now in
    let old = c.args.self.now in
    let k = c.args.k in
    let place = cover_place k old.covers (length book.tails) (sym c.may_take_cover.ensures ∙ c.if-not-may_take_cover.false) in
    let at : k ≡ old.covers = place.0 in
    let less : k < length book.tails = place.1 in
    let more = more_values k old.covers old.values _ c.added-self.result at is.values c.added-self.ensures.value c.added-self.ensures.sum in
    let same : to_z w128 (of_z w128 c.added-self.result) ≡ c.added-self.result = to_z-of_z w128 c.added-self.result (search rules) in
    record {
      branches = owes_alone book old.branches _ is.branches;
      part = rw c.in-InBound.is (ap not c.has_all_covers.ensures, λ z. absurd (omega (arith, z)));
      duals = is.duals;
      covers = omega (arith, less);
      values = subst (λ (v : ℤ). IsWithin (pos 0 -ℤ pos ((k + 1) * 2 ^ 63)) (pos ((k + 1) * 2 ^ 63)) v) (sym same) more;
      fliers = is.fliers;
      leaf = search (rules, begun_leaf);
      starts = is.starts;
      floors = is.floors;
      width = is.width;
      pricer = is.pricer;
    }
