use Rattle.std.proofs.Common.{◌≡◌, ◌++◌, rules}
use Rattle.std.specs.Prelude.{◌+◌, codes, decimal}
use Rattle.std.proofs.lemmas.Result.{on_ok_weaker}
use Rattle.plan_picture.proofs.Appends.{eleven}
use Rattle.plan_picture.specs.Curfews.{begins, curfew_of, lasts, piece_name}
use Rattle.plan_picture.specs.declared.layout.TheConstants.{LEFT}
use Rattle.plan_picture.proofs.curfews.add_piece.Goals as goal

-- what is appended is its pieces
pub returns : goal.returns
returns c =
    let name : c.add_piece_name.new.line ≡ c.text.new.self ++ piece_name c.args.stretch c.args.c = c.in_ok-add_piece_name.ensures in
    let begin : c.begins.result ≡ begins c.args.stretch.offset (curfew_of c.args.book.now c.args.c) = search rules in
    on_ok_weaker c.text-6.result (λ (last : c.text-6.new.self ≡ c.unsigned-4.new.self ++ codes "'/></pattern>"). rw (last, c.in_ok-unsigned-4.ensures.ok, c.in_ok-text-5.ensures.ok, c.in_ok-unsigned-3.ensures.ok, c.in_ok-text-4.ensures.ok, c.in_ok-unsigned-2.ensures.ok, c.in_ok-text-3.ensures.ok, c.in_ok-unsigned.ensures.ok, c.in_ok-text-2.ensures.ok, name, c.in_ok-text.ensures.ok, begin, c.lasts.ensures)
    (eleven c.args.line.now (codes "<pattern id='") (piece_name c.args.stretch c.args.c) (codes "' patternUnits='userSpaceOnUse' x='") (decimal (LEFT + begins c.args.stretch.offset (curfew_of c.args.book.now c.args.c))) (codes "' width='1440' height='") (decimal c.args.height) (codes "'><rect class='curfew' width='") (decimal (lasts (curfew_of c.args.book.now c.args.c))) (codes "' height='") (decimal c.args.height) (codes "'/></pattern>"))) c.text-6.ensures.ok
