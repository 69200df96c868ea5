use Rattle.std.proofs.Common.{◌∙◌}
use Rattle.std.proofs.lemmas.Bool.{ne_eqb}
use Rattle.connection_net.proofs.Links.{linked_there, linked_elsewhere}
use Rattle.connection_net.proofs.link_table.linked.Goals as goal

-- at one airport some aircraft has to fly both
pub returns-then-before-after : goal.returns-then-before-after
returns-then-before-after c =
    linked_there c.args.book.now c.args.a c.args.b c.leg_at-before.result.now c.leg_at-after.result.now c.is_flown_on.result c.leg_at-before.ensures c.leg_at-after.ensures c.if-before-after.true c.is_flown_on.ensures

-- and elsewhere nobody has a link
pub returns-else-before-after : goal.returns-else-before-after
returns-else-before-after c =
    ne_eqb _ _ c.if-before-after.false ∙ linked_elsewhere c.args.book.now c.args.a c.args.b c.leg_at-before.result.now c.leg_at-after.result.now c.leg_at-before.ensures c.leg_at-after.ensures c.if-before-after.false
