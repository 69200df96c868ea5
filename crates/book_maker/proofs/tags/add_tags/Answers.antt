use Rattle.std.proofs.Common.{◌∙◌, ◌++◌, ap, arith, refl}
use Rattle.std.proofs.lemmas.List.{append-nil}
use Rattle.book_maker.proofs.TagLemmas.{added-more, few-more, tags-all}
use Rattle.book_maker.proofs.tags.add_tags.Goals as goal

pub loop-i-init : goal.loop-i-init
loop-i-init g c = record {
  tags = rw append-nil refl;
  few = omega arith;
}

-- the tags of one more row
pub loop-i-preserved : goal.loop-i-preserved
loop-i-preserved g c =
    let before = c.args.names.now.items in
    let so_far = c.loop-i.names.items in
    let now = c.extend_from_slice.new.self.items in
    let added = c.tags.result.now in
    let behind = c.in_ok-extend_from_slice.ensures.items in
    record {
      tags = added-more g.T.Tagged.named c.args.rows.now c.loop-i.i c.index-rows-i.result before so_far now added
          c.loop-i-test.true c.index-rows-i.is c.loop-i.invariant.tags behind c.tags.ensures.value;
      few = few-more before so_far now added c.loop-i.i c.loop-i.invariant.few behind c.tags.ensures.few;
    }

-- the tags of all rows
pub returns-clause-tags : goal.returns-clause-tags
returns-clause-tags g c = c.loop-i.invariant.tags ∙ ap (λ all. c.args.names.now.items ++ all) (tags-all g.T.Tagged.named c.args.rows.now c.loop-i.i c.loop-i-test.false)
