use Rattle.std.proofs.Common.{◌∙◌, ℤ, List, ap, sym, subst}
use Rattle.std.specs.Prelude.{All}
use Rattle.quota_rows.specs.Fees.{FeesSeen}
use Rattle.fee_pricing.specs.inside.Fair.{IsFairFee}
use Rattle.fee_pricing.proofs.arc.fee_at.Goals as goal

-- fees in their box are fair
pub fee_of-requires-clause-fair : goal.fee_of-requires-clause-fair
fee_of-requires-clause-fair c =
    let asked = c.args.asked.now in
    subst (λ (fees : List ℤ). All IsFairFee fees) (sym (c.deref.ensures.value ∙ ap (λ (fees : FeesSeen). fees.values) c.fees.view_is))
    (c.fees_are_fair.ensures asked.table.now asked.book.now asked.quotas.now asked.fees.now.values
    c.every_book_is_sound.ensures c.requires.asked.table c.requires.asked.fees)
