use Rattle.fee_pricing.proofs.Families.{closed}
use Rattle.fee_pricing.proofs.laws.filled_stores_are_closed.Goals as goal

pub returns : goal.returns
returns c = λ arc book marks k store sound_book sound nodes. closed store sound arc book marks k nodes c.links_rise.ensures sound_book
