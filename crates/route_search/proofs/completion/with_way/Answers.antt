use Rattle.std.proofs.Common.{◌+◌, ℤ, None, w64, FitsSigned, rules, ap, sym, ◌∙◌, subst}
use Rattle.std.proofs.lemmas.Int.{to_z-of_z}
use Rattle.std.specs.Prelude.{IsTrue, slice_index_or}
use Rattle.tail_book.specs.declared.place.Place.TheVariants.{After}
use Rattle.route_search.specs.inside.Completion.{IsLeastAmong, IsNoLess, lesser_weight}
use Rattle.route_search.proofs.Completions.{among_no_less, among_one_more}
use Rattle.route_search.proofs.completion.with_way.Goals as goal

-- no way through it is lighter
pub returns-then-is_no_less : goal.returns-then-is_no_less
returns-then-is_no_less c = λ firsts i at among.
    let yes : IsTrue c.is_no_less.result = search rules in
    let rest = slice_index_or c.args.behind.now c.args.b None in
    let fits : FitsSigned w64 c.added_by.result = search rules in
    among_no_less c.args.task.now.table.now c.args.task.now.book.now c.args.task.now.marks.now.facts c.args.task.now.k c.args.task.now.duals.now.values (After c.args.x)
    firsts i c.args.b c.added_by.result rest c.args.least c.added_by.ensures c.requires.behind
    (subst (λ (z : ℤ). IsNoLess z rest c.args.least) (to_z-of_z w64 c.added_by.result fits) (c.is_no_less.ensures yes)) at among

pub returns : goal.returns
returns c = λ firsts i at among.
    let table = c.args.task.now.table.now in
    let book = c.args.task.now.book.now in
    let marks = c.args.task.now.marks.now.facts in
    let k = c.args.task.now.k in
    let duals = c.args.task.now.duals.now.values in
    subst (IsLeastAmong table book marks k duals (After c.args.x) firsts (i + 1))
    (sym (c.lesser.ensures ∙ ap (lesser_weight c.args.least) c.least_of.ensures))
    (among_one_more table book marks k duals (After c.args.x) firsts i c.args.least c.way_through-way.result among
    (rw at c.way_through-way.ensures.way))
