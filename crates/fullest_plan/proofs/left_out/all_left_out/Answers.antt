use Rattle.std.proofs.Common.{◌≡◌, ◌∙◌, arith, map, refl, rules, subst, sym}
use Rattle.std.proofs.lemmas.List.FromFn.{map-range_with_len_more}
use Rattle.std.specs.List.{range_with_len}
use Rattle.tail_book.specs.Lookup.{activities}
use Rattle.fullest_plan.specs.LeftOut.{IsLeftOut}
use Rattle.fullest_plan.proofs.LeavingOut.{all_are, itself}
use Rattle.fullest_plan.proofs.left_out.all_left_out.Goals as goal

-- one activity more
pub loop-a-preserved : goal.loop-a-preserved
loop-a-preserved c =
    let more = map-range_with_len_more (λ a. a) 0 c.loop-a.a c.loop-a.a (omega arith) in
    rw (c.in_ok-push.ensures.items, c.loop-a.invariant, more) refl

-- all are there
pub returns : goal.returns
returns c =
    let all : c.loop-a.list.items ≡ map (λ a. a) (range_with_len 0 (activities c.args.book.now)) = search rules in
    subst (IsLeftOut c.args.book.now) (sym (all ∙ itself 0 (activities c.args.book.now))) (all_are c.args.book.now)
