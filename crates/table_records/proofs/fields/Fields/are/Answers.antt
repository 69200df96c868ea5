use Rattle.std.proofs.Common.{◌∙◌, sym, arith, ◌<◌, length}
use Rattle.table_records.proofs.FieldLemmas.{are_same-agree, are_same-differ}
use Rattle.table_records.proofs.fields.Fields.are.Goals as goal

-- the fields differ at i
pub returns-then-ne : goal.returns-then-ne
returns-then-ne c =
    let (many, left) = c.loop-i.invariant in
    let within : c.loop-i.i < length c.args.self.now = omega arith in
    sym (left ∙ are_same-differ _ _ _ within many _ _ _ c.at.ensures c.as_bytes.ensures.value c.if-ne.ensures)

-- the fields agree at i, so those behind decide
pub loop-i-preserved : goal.loop-i-preserved
loop-i-preserved c =
    let (many, left) = c.loop-i.invariant in
    let within : c.loop-i.i < length c.args.self.now = omega arith in
    (many, left ∙ are_same-agree _ _ _ within many _ _ _ c.at.ensures c.as_bytes.ensures.value c.if-ne.ensures)
