use Rattle.pricing.proofs.Families.{closed}
use Rattle.pricing.proofs.laws.filled_stores_are_closed.Goals as goal

pub returns : goal.returns
returns c = λ table book marks k duals store sound_book sound nodes.
    closed store sound table book marks k duals nodes c.links_rise.ensures sound_book
