use Rattle.std.proofs.Common.{rules, ◌≡◌, ◌∙◌, ℕ, List, arith, ap, refl, subst, sym}
use Rattle.std.proofs.lemmas.List.FromFn.{map-range_with_len_more}
use Rattle.std.specs.Prelude.{Option}
use Rattle.plan_audit.specs.Kept.{kept}
use Rattle.plan_homes.specs.Homes.{home, home_in, homes}
use Rattle.plan_homes.specs.Moves.{AreHomesFor}
use Rattle.plan_homes.proofs.at_home.homes.Goals as goal

-- the next home stands last
pub loop-a-preserved : goal.loop-a-preserved
loop-a-preserved c =
    let f = home c.args.book.now c.args.raw.now in
    let routes : c.deref.result.now ≡ kept c.args.book.now c.args.raw.now = search rules in
    let here : c.home_in.result ≡ f c.loop-a.a = c.home_in.ensures ∙ ap (λ (r : List (List ℕ)). home_in r c.loop-a.a) routes in
    let more = map-range_with_len_more f 0 c.loop-a.a c.loop-a.a (omega arith) in
    rw (c.in_ok-push.ensures.items, c.loop-a.invariant, here, more) refl

pub returns-clause-each : goal.returns-clause-each
returns-clause-each c =
    let all : c.loop-a.homes.items ≡ homes c.args.book.now c.args.raw.now = search rules in
    subst (λ (list : List (Option ℕ)). AreHomesFor c.args.book.now list) (sym all) (c.homes_are_for_the_book.ensures c.args.book.now c.args.raw.now)
