use Rattle.std.proofs.Common.{◌≡◌, ℤ, pos, of_z, rules, subst, sym, to_z, w64}
use Rattle.tail_book.specs.Ranges.{IsWithin}
use Rattle.tail_book.specs.declared.limits.TheConstants.{LAST_MOMENT}
use Rattle.quota_rows.specs.Belongs.{day_of}
use Rattle.quota_rows.proofs.DayLemmas.{days_are_few}
use Rattle.quota_rows.proofs.quota_table.day_of.Goals as goal

pub returns-clause-range : goal.returns-clause-range
returns-clause-range c =
    let value : to_z w64 (of_z w64 c.div_euclid.result) ≡ day_of c.args.moment = search rules in
    subst (λ (day : ℤ). IsWithin (pos 0) (day_of LAST_MOMENT) day) (sym value) (days_are_few c.args.moment c.requires)
