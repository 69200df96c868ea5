use Rattle.std.proofs.Common.{◌≡◌, refl, length, rules}
use Rattle.std.proofs.lemmas.List.{with_items_is}
use Rattle.branch_marks.proofs.Places.{remove_pair}
use Rattle.branch_marks.proofs.bit_rows.BitRows.remove.Goals as goal

-- the bit that is cleared is the pair's
pub returns : goal.returns
returns c =
    let kept : length c.clear.new.words ≡ c.self.inside.words.len = search rules in
    let written = with_items_is c.self.inside.words c.clear.new.words kept in
    let column = rw (← c.self.view_is) at c.requires.column in
    rw (← c.self.view_is) record {
      rows = refl;
      columns = refl;
      pairs = rw written (remove_pair c.self.inside.words.items c.clear.new.words c.self.inside.columns c.args.row c.args.column c.place-p.result c.place-p.ensures.value
          column (rw c.deref_mut.ensures.value at c.clear.ensures));
    }
