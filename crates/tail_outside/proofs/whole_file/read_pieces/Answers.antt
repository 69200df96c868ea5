use Rattle.std.proofs.Common.{◌≡◌, ◌≤◌, ◌∙◌, ◌-◌, ◌++◌, IfSome, arith, rules, length, take, true}
use Rattle.std.specs.Result.{is_ok}
use Rattle.tail_outside.specs.inside.Outside.{IsRead, only_read_chains}
use Rattle.tail_outside.proofs.ReadLemmas.{read-piece, read-within}
use Rattle.tail_outside.proofs.whole_file.read_pieces.Goals as goal

-- what was read stands behind what had been read
pub pieces-preserved : goal.pieces-preserved
pieces-preserved g c =
    let inv = c.pieces.invariant in
    let left : c.len-in-pieces.result ≡ length c.pieces.bytes.items = search rules in
    let at : c.len-in-pieces-2.result ≡ length c.pieces.bytes.items = search rules in
    let good : is_ok c.extend_from_slice.result ≡ true = search rules in
    let items : c.extend_from_slice.new.self.items ≡ c.pieces.bytes.items ++ take c.in_ok-count.count c.read_piece.new.buffer = rw good at c.extend_from_slice.ensures.items in
    let most = c.args.limit - length c.pieces.bytes.items in
    let read : IfSome ((g.F.Files.shows c.pieces.files).holds c.args.name.now) (λ bytes. IsRead bytes (length c.pieces.bytes.items) (take most c.read_piece.new.buffer) c.in_ok-count.count) =
    rw (left, at) at c.in_ok-count.ensures.read in
    let few : c.in_ok-count.count ≤ most = omega (arith, left, c.in_ok-count.ensures.few) in record {
      begins = rw items (read-piece _ _ _ _ _ most (inv.only_read.holds c.args.name.now) inv.begins read few);
      within = read-within c.args.limit c.pieces.bytes.items c.read_piece.new.buffer c.in_ok-count.count _ items inv.within few;
      may = c.in_ok-count.ensures.only_read.lets_read c.args.name.now ∙ inv.may;
      only_read = only_read_chains _ _ _ inv.only_read c.in_ok-count.ensures.only_read;
    }
