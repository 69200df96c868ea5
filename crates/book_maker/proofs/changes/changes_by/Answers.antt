use Rattle.std.proofs.Common.{◌≡◌, arith, of_z, refl, rules, sym, to_z, w64}
use Rattle.book_maker.specs.Changes.{changes_for}
use Rattle.book_maker.proofs.ChangeLemmas.{changes_for-more}
use Rattle.book_maker.proofs.changes.changes_by.Goals as goal

-- of no years there are none
pub loop-n-init : goal.loop-n-init
unfolding changes_for
loop-n-init c = c.in_ok-changes.ensures.items

-- the changes of the next year stand last
pub loop-n-preserved : goal.loop-n-preserved
loop-n-preserved c =
    let standard : to_z w64 (of_z w64 c.args.standard) ≡ c.args.standard = search rules in
    let daylight : to_z w64 (of_z w64 c.args.daylight) ≡ c.args.daylight = search rules in
    rw (c.in_ok-add_changes.ensures, c.loop-n.invariant, standard, daylight) (sym (changes_for-more c.args.standard c.args.daylight c.args.first c.args.second c.loop-n.n))

-- at the end those of all years stand there
pub returns : goal.returns
returns c =
    let standard : to_z w64 (of_z w64 c.args.standard) ≡ c.args.standard = search rules in
    let daylight : to_z w64 (of_z w64 c.args.daylight) ≡ c.args.daylight = search rules in
    let all : c.loop-n.n ≡ 232 = omega arith in
    rw (c.loop-n.invariant, standard, daylight, all) refl
