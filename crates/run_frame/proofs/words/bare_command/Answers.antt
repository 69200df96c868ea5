-- Without the flag for help, all else of a new command stays.
use Rattle.std.proofs.Common.{true, ap, ◌∙◌}
use Rattle.clap.specs.Words.{Shape}
use Rattle.clap.specs.Simple.{app_of_fields, on_top}
use Rattle.run_frame.proofs.words.bare_command.Goals as goal

pub returns : goal.returns
returns c =
    let without_help : Shape → Shape = λ s. record s { disable_help_flag = true } in
    ap app_of_fields c.disable_help_flag.ensures ∙ ap (on_top without_help) c.new.ensures.app
