use Rattle.cert_checker.proofs.Accepting.{accepted_yes}
use Rattle.cert_checker.proofs.laws.accepted_is_yes.Goals as goal

pub returns : goal.returns
returns c =
    accepted_yes c.alive_decides.ensures c.follows_decides.ensures c.fact_of_decides.ensures c.undecided_decides.ensures c.following_facts_are_of_book.ensures c.undecided_pairs_are_of_book.ensures
    c.has_fact_decides.ensures c.shown_decides.ensures c.bounds_decide.ensures c.legal_plan_decides.ensures c.spelled_lines_are_read.ensures c.spelled_lines_are_short.ensures
