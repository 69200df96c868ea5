use Rattle.std.proofs.Common.{◌≡◌, false, rules}
use Rattle.std.proofs.lemmas.Bool.Decides.{Decides-at}
use Rattle.tail_book.specs.inside.SoundTests.{keeps_maxima}
use Rattle.tail_book.proofs.SoundTested.{cost_table_tested}
use Rattle.tail_book.proofs.cost_table.CostTable.new.Goals as goal

-- the test was not passed
pub returns-else-keeps_maxima-clause-exactly : goal.returns-else-keeps_maxima-clause-exactly
returns-else-keeps_maxima-clause-exactly c =
    let tested : false ≡ keeps_maxima c.args.n c.args.fly.items c.args.bands.items c.args.fly_max c.args.band_max = search rules in
    Decides-at false _ tested (cost_table_tested _)
