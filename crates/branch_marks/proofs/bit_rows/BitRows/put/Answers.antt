use Rattle.std.proofs.Common.{◌≡◌, refl, length, rules}
use Rattle.std.proofs.lemmas.List.{with_items_is}
use Rattle.branch_marks.proofs.Places.{put_pair}
use Rattle.branch_marks.proofs.bit_rows.BitRows.put.Goals as goal

-- the bit that is set is the pair's
pub returns : goal.returns
returns c =
    let kept : length c.set.new.words ≡ c.self.inside.words.len = search rules in
    let written = with_items_is c.self.inside.words c.set.new.words kept in
    let column = rw (← c.self.view_is) at c.requires.column in
    rw (← c.self.view_is) record {
      rows = refl;
      columns = refl;
      pairs = rw written (put_pair c.self.inside.words.items c.set.new.words c.self.inside.columns c.args.row c.args.column c.place-p.result c.place-p.ensures.value
          column (rw c.deref_mut.ensures.value at c.set.ensures));
    }
