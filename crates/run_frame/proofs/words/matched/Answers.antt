use Rattle.std.proofs.Common.{◌≡◌, ◌∙◌, ◌==◌, ap, refl, if◌then◌else◌, length, List, [], ◌∷◌, Some, None}
use Rattle.std.proofs.lemmas.Bool.{and_parts}
use Rattle.clap.specs.Words.{Row, app_of, fault_of, matches_of}
use Rattle.clap.specs.Simple.{is_simple}
use Rattle.run_frame.specs.Spelled.{spelled}
use Rattle.run_frame.proofs.words.matched.Goals as goal

-- words without a fault are taken
taken : {A : Type 0} (faults : List A) (rows : List Row) → faults ≡ [] → Some rows ≡ (if length faults == 0 then Some rows else None)
taken [] rows none = refl
taken (fault ∷ faults) rows none = absurd (cc none)

pub returns-in-Ok : goal.returns-in-Ok
returns-in-Ok c =
    let command = app_of c.args.command in
    let words = spelled c.args.words.now in
    let rows = (c.in-Ok.ensures.matches (and_parts (is_simple command) _ c.requires).0).0 in
    ap (λ (found : List Row). Some found) rows ∙ taken (fault_of command words) (matches_of command words) (c.in-Ok.ensures.kinds c.requires)
