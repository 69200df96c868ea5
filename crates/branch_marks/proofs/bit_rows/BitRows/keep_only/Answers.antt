use Rattle.std.proofs.Common.{◌≡◌, refl, length, rules}
use Rattle.std.proofs.lemmas.List.{with_items_is}
use Rattle.branch_marks.proofs.Places.{keep_pair}
use Rattle.branch_marks.proofs.bit_rows.BitRows.keep_only.Goals as goal

-- the bits that are cleared are those of the row's other pairs
pub returns : goal.returns
returns c =
    let kept : length c.clear_around.new.words ≡ c.self.inside.words.len = search rules in
    let written = with_items_is c.self.inside.words c.clear_around.new.words kept in
    let column = rw (← c.self.view_is) at c.requires.column in
    rw (← c.self.view_is) record {
      rows = refl;
      columns = refl;
      pairs = rw written (keep_pair c.self.inside.words.items c.clear_around.new.words c.self.inside.columns c.args.row c.args.column
          c.place-from.result c.place-p.result c.place-to.result c.place-from.ensures.value c.place-p.ensures.value c.place-to.ensures.value
          column (rw c.deref_mut.ensures.value at c.clear_around.ensures));
    }
