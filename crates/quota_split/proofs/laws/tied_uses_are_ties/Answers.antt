use Rattle.quota_split.proofs.TiedUses.{all_rise, one_alone, tied_uses}
use Rattle.tail_book.specs.Lookup.{activities}
use Rattle.quota_split.proofs.laws.tied_uses_are_ties.Goals as goal

pub returns : goal.returns
returns c book sound quota marks plan legal tied =
    let up = all_rise book plan (λ k lt. c.legal_routes_rise.ensures book sound k _ (legal.routes k lt)) legal.one_each in
    tied_uses book quota marks (activities book) plan up (one_alone book plan up (c.each_is_flown_once.ensures book plan legal)) tied
