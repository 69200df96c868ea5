use Rattle.std.specs.Prelude.{◌≢◌}
use Rattle.std.proofs.Common.{◌≡◌, ◌∙◌, ◌≤◌, ◌-◌, arith, refl, rules, sym}
use Rattle.tail_outside.specs.inside.Outside.{only_read_chains, only_read_same}
use Rattle.cert_checker.specs.declared.checker.Taken.TheVariants.{More, Done}
use Rattle.tailcheck.specs.declared.certified.TheConstants.{CERTIFICATE_LIMIT}
use Rattle.tailcheck.proofs.FedFiles.{failed_more, fed_more, nothing_fed, too_long_there}
use Rattle.tailcheck.proofs.feeding.feed_file.Goals as goal

pub pieces-init : goal.pieces-init
pieces-init g c = record {
  fed = nothing_fed ((g.F.Files.shows c.args.files.now).holds c.args.name.now) c.args.checker.now c.requires.stands;
  few = omega arith;
  book = refl;
  room = refl;
  may = c.requires.named;
  only_read = only_read_same _;
}

-- a failure, and a piece that met none
pub returns-in-Done-clause-fed : goal.returns-in-Done-clause-fed
returns-in-Done-clause-fed g c =
    let inv = c.pieces.invariant in
    let count = c.in_ok-count.ensures in
    let few = count.few in let fits = count.fits in let room = count.room in let limit = inv.few in
    let done : Done c.in-Done.field-0 ≡ c.in-Ok.answer = sym c.in-Done.is in
    failed_more c.failures_stay.ensures c.verdicts_are_of_ends.ensures _ _ c.pieces.checker c.feed.new.self c.pieces.taken c.in_ok-count.count (CERTIFICATE_LIMIT - c.pieces.taken)
    c.read_piece.new.buffer c.in-Done.field-0 (inv.only_read.holds c.args.name.now) inv.fed count.read few (omega (arith, fits, room)) (omega (arith, few, limit))
    c.in-Ok.ensures.stands (done ∙ c.in-Ok.ensures.taken)

pub pieces-preserved : goal.pieces-preserved
pieces-preserved g c =
    let inv = c.pieces.invariant in
    let count = c.in_ok-count.ensures in
    let few = count.few in let fits = count.fits in let room = count.room in let limit = inv.few in
    let more : More ≡ c.in-Ok.answer = search rules in
    record {
      fed = fed_more _ _ c.pieces.checker c.feed.new.self c.pieces.taken c.in_ok-count.count (CERTIFICATE_LIMIT - c.pieces.taken)
          c.read_piece.new.buffer (inv.only_read.holds c.args.name.now) inv.fed count.read few (omega (arith, fits, room)) c.in-Ok.ensures.stands (more ∙ c.in-Ok.ensures.taken);
      few = omega (arith, few, limit);
      book = c.in-Ok.ensures.book ∙ inv.book;
      room = room ∙ inv.room;
      may = count.only_read.lets_read c.args.name.now ∙ inv.may;
      only_read = only_read_chains _ _ _ inv.only_read count.only_read;
    }

-- the limit, with bytes behind it
pub returns-clause-fed : goal.returns-clause-fed
returns-clause-fed g c =
    let inv = c.pieces.invariant in
    let most = inv.few in
    let past : CERTIFICATE_LIMIT ≤ c.pieces.taken = search rules in
    let some : c.in_ok-more.more ≢ 0 = search rules in
    too_long_there _ _ c.pieces.checker c.pieces.taken c.in_ok-more.more c.read_piece-2.new.buffer (inv.only_read.holds c.args.name.now) inv.fed (omega (arith, past, most))
    c.in_ok-more.ensures.read some
