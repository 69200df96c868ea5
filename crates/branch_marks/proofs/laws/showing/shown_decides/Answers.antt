use Rattle.branch_marks.proofs.TreesDecided.{shown_tested}
use Rattle.branch_marks.proofs.laws.showing.shown_decides.Goals as goal

pub returns : goal.returns
returns c =
    shown_tested c.alive_decides.ensures c.has_fact_decides.ensures c.follows_decides.ensures c.undecided_decides.ensures
    c.closed_family_decides.ensures c.ends_decide.ensures c.no_end_decides.ensures
