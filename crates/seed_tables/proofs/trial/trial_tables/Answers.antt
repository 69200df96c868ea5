use Rattle.std.proofs.Common.{◌≡◌, rules, subst, sym}
use Rattle.seed_tables.specs.Making.{HasBook}
use Rattle.seed_tables.specs.Trial.{TrialSeen, trial_of}
use Rattle.seed_tables.proofs.trial.trial_tables.Goals as goal

-- what is said of the definition's texts holds of these
pub returns-clause-book : goal.returns-clause-book
returns-clause-book c =
    let texts : TrialSeen = record { timetable = c.in_ok-to_vec.field-0.items; fleet = c.in_ok-to_vec-2.field-0.items; rules = c.in_ok-rules_text.field-0.items } in
    let same : texts ≡ trial_of c.args.seed = search rules in
    subst (λ t. HasBook c.args.seed t) (sym same) (c.trials_are_books.ensures c.args.seed)
