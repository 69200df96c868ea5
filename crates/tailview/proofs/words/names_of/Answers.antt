use Rattle.std.proofs.Common.{◌∙◌, ap}
use Rattle.clap.specs.Words.{App, found_of, rows_of}
use Rattle.run_frame.specs.Spelled.{spelled}
use Rattle.run_frame.specs.Words.{matched}
use Rattle.tailview.proofs.MatchedNames.{read-found, read-none}
use Rattle.tailview.specs.Words.{command, names_in, names_of}
use Rattle.tailview.proofs.words.names_of.Goals as goal

-- the names are those among what the command matched
pub returns-in-Some : goal.returns-in-Some
unfolding names_of
returns-in-Some c =
    let words = spelled c.args.words.now in
    c.names_in.ensures ∙ read-found names_in (λ found. rows_of (found_of found)) (matched command words) c.in_ok-matches.field-0 c.in-Some.matches
    (c.in_ok-matches.ensures ∙ ap (λ (a : App). matched a words) c.in_ok-command.ensures) c.in-Some.is

-- and words that the command refuses give none
pub returns-in-None : goal.returns-in-None
unfolding names_of
returns-in-None c =
    let words = spelled c.args.words.now in
    read-none names_in (λ found. rows_of (found_of found)) (matched command words) c.in_ok-matches.field-0
    (c.in_ok-matches.ensures ∙ ap (λ (a : App). matched a words) c.in_ok-command.ensures) c.in-None.is
