use Rattle.dive_heuristic.proofs.Choices.{chosen_undecided}
use Rattle.dive_heuristic.proofs.laws.choices_are_undecided.Goals as goal

pub returns : goal.returns
returns c book sound marks routes k a are choice =
    chosen_undecided c.legal_routes_rise.ensures c.flown_is_count.ensures c.flown_once_is_in_one_route.ensures book sound marks routes are k a choice
