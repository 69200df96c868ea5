use Rattle.std.proofs.Common.{◌∙◌, ap, arith, drop, length, ◌+◌, sym}
use Rattle.book_maker.specs.NameNumbers.{distinct_from}
use Rattle.book_maker.proofs.NameTurns.{distinct-end, distinct-next, distinct_names-few}
use Rattle.book_maker.proofs.name_numbers.distinct_names.Goals as goal

-- the name goes into the set, unless it is there
pub loop-name-preserved : goal.loop-name-preserved
loop-name-preserved c =
    c.loop-name.invariant ∙ distinct-next _ _ _ c.loop-name-test.true c.name-item.is c.loop-name.set.keys
    ∙ ap (λ keys. distinct_from keys (drop (c.loop-name.name-index + 1) c.args.names.now)) (sym c.in_ok-insert_full.ensures.keys)

-- behind the last name the set is whole
pub returns-clause-distinct : goal.returns-clause-distinct
returns-clause-distinct c = sym (c.loop-name.invariant ∙ distinct-end _ _ _ c.loop-name-test.false)

pub returns-clause-few : goal.returns-clause-few
returns-clause-few c =
    let all = c.loop-name.invariant ∙ distinct-end _ _ _ c.loop-name-test.false in
    omega (arith, ap length (sym all), distinct_names-few c.args.names.now)
