use Rattle.std.proofs.Common.{◌≡◌, ◌∙◌, ◌++◌, ◌∷◌, [], sym, length, rules}
use Rattle.std.proofs.lemmas.List.{get_or_default}
use Rattle.std.specs.Vec.{vec_len}
use Rattle.branch_marks.specs.declared.named.Named.TheVariants.{Nothing}
use Rattle.branch_marks.specs.inside.Named.{named_by}
use Rattle.branch_marks.specs.inside.MarkTables.{names_at}
use Rattle.branch_marks.proofs.Undone.{named_less, named_none_less, names_here, not_several, nothing_named}
use Rattle.branch_marks.proofs.naming.undo_named.Goals as goal

-- the activity is one of the fact's
pub index-requires : goal.index-requires
index-requires c =
    let long : vec_len c.args.named.now ≡ length c.args.named.now.items = search rules in
    rw long (c.in-Some.ensures.within (length c.args.named.now.items) c.requires.fact)

pub index_mut-requires : goal.index_mut-requires
index_mut-requires c =
    let long : vec_len c.args.named.now ≡ length c.args.named.now.items = search rules in
    rw long (c.in-Some.ensures.within (length c.args.named.now.items) c.requires.fact)

pub index_mut-requires-in-Nothing : goal.index_mut-requires-in-Nothing
index_mut-requires-in-Nothing c =
    let long : vec_len c.args.named.now ≡ length c.args.named.now.items = search rules in
    rw long (c.in-Some.ensures.within (length c.args.named.now.items) c.requires.fact)

-- there it is what the others name, which is found from them, or is nothing
pub returns-in-Several : goal.returns-in-Several
returns-in-Several c =
    let n = length c.args.named.now.items in
    named_less n c.args.naming c.args.left.now c.args.fact c.in-Some.a c.in-Some.field-0-1 c.of_facts.result c.args.named.now.items c.in-Some.ensures.one
    (c.in-Some.ensures.within n c.requires.fact) c.of_facts.ensures c.requires.table

pub returns-in-Nothing : goal.returns-in-Nothing
returns-in-Nothing c =
    let n = length c.args.named.now.items in
    let below = c.in-Some.ensures.within n c.requires.fact in
    let now : c.index.result.now ≡ named_by (names_at c.args.naming c.in-Some.a) (c.args.left.now ++ c.args.fact ∷ []) =
    c.index.ensures ∙ get_or_default c.args.named.now.items c.in-Some.a c.index.result.now Nothing below ∙ c.requires.table.each c.in-Some.a below in
    named_less n c.args.naming c.args.left.now c.args.fact c.in-Some.a c.in-Some.field-0-1 Nothing c.args.named.now.items c.in-Some.ensures.one
    below (sym (nothing_named c.args.naming c.in-Some.a c.in-Some.field-0-1 c.args.left.now c.args.fact (names_here c.args.naming c.in-Some.a c.in-Some.field-0-1 c.args.fact c.in-Some.ensures.one) c.requires.new
    (λ e. not_several c.index.result.now c.in-Nothing.is (now ∙ e)))) c.requires.table

-- elsewhere it stays
pub returns-in_default : goal.returns-in_default
returns-in_default c = named_none_less (length c.args.named.now.items) c.args.naming c.args.left.now c.args.fact c.args.named.now.items c.in_default.ensures.none c.requires.table
