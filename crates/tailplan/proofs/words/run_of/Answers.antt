use Rattle.std.proofs.Common.{rules, ◌≡◌, ◌∙◌, false, option_map, sym, ap}
use Rattle.clap.specs.Words.{app_of, found_of, rows_of}
use Rattle.run_frame.specs.Spelled.{spelled}
use Rattle.tailplan.proofs.WordLaws.{names_given}
use Rattle.tailplan.specs.QuotaWords.{is_quota}
use Rattle.tailplan.specs.RepairWords.{is_repair}
use Rattle.tailplan.specs.WhyWords.{is_why}
use Rattle.tailplan.specs.Words.{is_trial}
use Rattle.tailplan.proofs.words.run_of.Goals as goal

-- the names are those among what was matched
pub returns-in-Some : goal.returns-in-Some
returns-in-Some c =
    let words = spelled c.args.words.now in
    let no_trial : is_trial words ≡ false = search rules in
    let no_repair : is_repair words ≡ false = search rules in
    let no_why : is_why words ≡ false = search rules in
    let no_quota : is_quota words ≡ false = search rules in
    c.names_in.ensures ∙ sym (names_given words (app_of c.in_ok-command.field-0) (option_map (λ m. rows_of (found_of m)) c.in_ok-matches.field-0) (rows_of (found_of c.in-Some.matches))
    no_trial no_repair no_why no_quota c.in_ok-command.ensures c.in_ok-matches.ensures (ap (λ found. option_map (λ m. rows_of (found_of m)) found) c.in-Some.is))
