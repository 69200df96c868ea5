use Rattle.std.proofs.Common.{◌∙◌, ap}
use Rattle.clap.specs.Words.{App, found_of, rows_of}
use Rattle.run_frame.specs.Spelled.{spelled}
use Rattle.run_frame.specs.Words.{matched}
use Rattle.tailview.proofs.MatchedNames.{read-found, read-none}
use Rattle.tailview.specs.ShortageWords.{shortage_command, shortage_names_in, shortage_of}
use Rattle.tailview.proofs.shortage_words.shortage_of.Goals as goal

-- the names are those among what the command matched
pub returns-in-Some : goal.returns-in-Some
unfolding shortage_of
returns-in-Some c =
    let words = spelled c.args.words.now in
    c.shortage_names_in.ensures ∙ read-found shortage_names_in (λ found. rows_of (found_of found)) (matched shortage_command words) c.in_ok-matches.field-0 c.in-Some.matches
    (c.in_ok-matches.ensures ∙ ap (λ (a : App). matched a words) c.in_ok-shortage_command.ensures) c.in-Some.is

-- and words that the command refuses give none
pub returns-in-None : goal.returns-in-None
unfolding shortage_of
returns-in-None c =
    let words = spelled c.args.words.now in
    read-none shortage_names_in (λ found. rows_of (found_of found)) (matched shortage_command words) c.in_ok-matches.field-0
    (c.in_ok-matches.ensures ∙ ap (λ (a : App). matched a words) c.in_ok-shortage_command.ensures) c.in-None.is
