use Rattle.std.proofs.Common.{◌≡◌, ◌∙◌, ap, length, rules, List, ℤ}
use Rattle.std.proofs.lemmas.List.{with_items_is}
use Rattle.plan_enumeration.specs.inside.Enumeration.{values_after, width_of, with_row}
use Rattle.plan_enumeration.proofs.enumerate.step_values.Goals as goal

pub returns-clause-row : goal.returns-clause-row
returns-clause-row c =
    let kept : length c.step_row.new.values ≡ c.args.values.now.len = search rules in
    with_items_is c.args.values.now c.step_row.new.values kept ∙ c.step_row.ensures.row
    ∙ ap (λ (vs : List ℤ). with_row (width_of c.args.book.now) vs c.args.a (values_after c.args.book.now c.args.a c.args.k c.args.from vs)) c.as_mut_slice.ensures.value
