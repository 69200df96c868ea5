use Rattle.std.proofs.Common.{◌≡◌, ◌∙◌, ◌+◌, ℕ, ℤ, List, ◌∷◌, ◌++◌, Some, length, take, drop, get_or, rules, ap, subst, arith, to_z, of_z}
use Rattle.std.specs.Int.{w128}
use Rattle.std.proofs.lemmas.Int.{to_z-of_z}
use Rattle.std.proofs.lemmas.List.{length-take-le, take_rest}
use Rattle.tail_book.specs.TableSeen.{DualsSeen}
use Rattle.branch_marks.specs.declared.fact.Fact.{Fact}
use Rattle.best_first.specs.declared.rank.Rank.{Rank}
use Rattle.best_first.specs.declared.slots.KeptEnd.{KeptEnd}
use Rattle.best_first.specs.declared.slots.Slot.{Slot}
use Rattle.best_first.specs.inside.Links.{IsLinked}
use Rattle.best_first.specs.inside.Slots.{IsKeptEnd, slot_at}
use Rattle.best_first.specs.inside.Visits.{OpensBranches}
use Rattle.best_first.proofs.NodesKept.{leaf_all, split_all, opens_nothing, no_slot}
use Rattle.best_first.proofs.SlotEdits.{behind_p, cut_at, same_at}
use Rattle.best_first.proofs.visit.keep_node.Goals as goal

abbrev node_as : Rank → ℕ → DualsSeen → ℕ → ℕ → ℕ → KeptEnd → Slot
node_as rank end duals number target last ended =
    record { rank = rank; end = end; duals = duals; kept = Some (record { number = number; target = target; last = last; end = ended }) }

-- two slots were put behind it
pub put_node-requires : goal.put_node-requires
put_node-requires c =
    let slots = c.args.slots.now.items in let p = c.args.p in let opens = c.in_ok-open_branches.ensures in
    let less = c.requires.slot in
    let long : length (take p slots) ≡ p = length-take-le p slots (omega (arith, less)) in
    behind_p (take p slots) (slot_at slots p) _ c.open_branches.new.slots.items p
    (opens.opened (take p slots) (slot_at slots p) (drop (p + 1) slots) (cut_at slots p no_slot less) long) long

-- a split
pub returns-in-Split : goal.returns-in-Split
returns-in-Split c = λ table book before are is_next lower in_box shut truth.
    let old = c.args.links.now.items in let middle = c.add_links.new.links.items in let new = c.open_branches.new.links.items in
    let slots = c.args.slots.now.items in let p = c.args.p in let marks = c.args.marks.now.facts in let duals = c.args.duals in
    let facts : c.deref.result.now ≡ marks = c.deref.ensures.value ∙ c.in_ok-facts.ensures in
    let here_at : c.index.result.now ≡ get_or slots p c.index.result.now = search rules in
    let also_at : c.index-2.result.now ≡ get_or slots p c.index-2.result.now = search rules in
    let here = here_at ∙ same_at slots p c.index.result.now no_slot c.requires.slot in
    let also = also_at ∙ same_at slots p c.index-2.result.now no_slot c.requires.slot in
    let part = take_rest c.deref.result.now c.args.known ∙ ap (λ (fs : List Fact). drop c.args.known fs) facts in
    let linked : IsLinked old middle (slot_at slots p).end (drop c.args.known marks) c.in_ok-last.last =
    subst (λ (s : Slot). IsLinked old middle s.end (drop c.args.known marks) c.in_ok-last.last) also
    (subst (λ (fs : List Fact). IsLinked old middle c.index-2.result.now.end fs c.in_ok-last.last) part c.in_ok-last.ensures) in
    let pair = c.in-Split.pair in let bound = c.in-Split.bound in
    let same : to_z w128 (of_z w128 bound) ≡ bound = to_z-of_z w128 bound (search rules) in
    let opens = subst (λ (z : ℤ). OpensBranches middle new slots c.open_branches.new.slots.items p c.in_ok-last.last duals pair z (c.args.count + 1)) same
    c.in_ok-open_branches.ensures in
    let ended = subst (λ (e : KeptEnd). IsKeptEnd table book marks duals.values c.args.target e) c.in-Split.is
    (c.kept_end-ended.ensures table book marks duals.values c.args.target truth) in
    split_all c.facts_leave_no_more.ensures c.branches_leave_fewer.ensures c.among_more.ensures c.sums_never_fall.ensures c.has_fact_decides.ensures
    c.undecided_decides.ensures c.undecided_pairs_are_of_book.ensures c.following_facts_are_new.ensures c.following_facts_are_of_book.ensures table book
    old middle slots c.args.count before c.args.target p lower are is_next c.in_ok-last.last duals in_box marks shut c.args.known c.requires.known linked
    pair bound ended new c.open_branches.new.slots.items c.put_node.new.slots.items opens
    (λ front o behind is long.
    c.put_node.ensures front o behind is long
    ∙ ap (λ (s : Slot). front ++ node_as s.rank c.index-2.result.now.end duals c.args.count c.args.target c.in_ok-last.last c.kept_end-ended.result ∷ behind) here
    ∙ ap (λ (s : Slot). front ++ node_as (slot_at slots p).rank s.end duals c.args.count c.args.target c.in_ok-last.last c.kept_end-ended.result ∷ behind) also
    ∙ ap (λ (e : KeptEnd). front ++ node_as (slot_at slots p).rank (slot_at slots p).end duals c.args.count c.args.target c.in_ok-last.last e ∷ behind) c.in-Split.is)

-- a leaf
pub returns : goal.returns
returns c = λ table book before are is_next lower in_box shut truth.
    let old = c.args.links.now.items in let middle = c.add_links.new.links.items in
    let slots = c.args.slots.now.items in let p = c.args.p in let marks = c.args.marks.now.facts in let duals = c.args.duals in
    let facts : c.deref.result.now ≡ marks = c.deref.ensures.value ∙ c.in_ok-facts.ensures in
    let here_at : c.index.result.now ≡ get_or slots p c.index.result.now = search rules in
    let also_at : c.index-2.result.now ≡ get_or slots p c.index-2.result.now = search rules in
    let here = here_at ∙ same_at slots p c.index.result.now no_slot c.requires.slot in
    let also = also_at ∙ same_at slots p c.index-2.result.now no_slot c.requires.slot in
    let part = take_rest c.deref.result.now c.args.known ∙ ap (λ (fs : List Fact). drop c.args.known fs) facts in
    let linked : IsLinked old middle (slot_at slots p).end (drop c.args.known marks) c.in_ok-last.last =
    subst (λ (s : Slot). IsLinked old middle s.end (drop c.args.known marks) c.in_ok-last.last) also
    (subst (λ (fs : List Fact). IsLinked old middle c.index-2.result.now.end fs c.in_ok-last.last) part c.in_ok-last.ensures) in
    let end = c.kept_end-ended.result in
    leaf_all c.facts_leave_no_more.ensures c.branches_leave_fewer.ensures c.among_more.ensures c.sums_never_fall.ensures c.has_fact_decides.ensures
    c.undecided_decides.ensures c.undecided_pairs_are_of_book.ensures c.following_facts_are_new.ensures c.following_facts_are_of_book.ensures table book
    old middle slots c.args.count before c.args.target p lower are is_next c.in_ok-last.last duals in_box marks shut c.args.known c.requires.known linked
    end (c.kept_end-ended.ensures table book marks duals.values c.args.target truth)
    (opens_nothing marks duals.values end (c.args.count + 1) c.in_default.not-Split) c.put_node-2.new.slots.items
    (λ front o behind is long.
    c.put_node-2.ensures front o behind is long
    ∙ ap (λ (s : Slot). front ++ node_as s.rank c.index-2.result.now.end duals c.args.count c.args.target c.in_ok-last.last end ∷ behind) here
    ∙ ap (λ (s : Slot). front ++ node_as (slot_at slots p).rank s.end duals c.args.count c.args.target c.in_ok-last.last end ∷ behind) also)
