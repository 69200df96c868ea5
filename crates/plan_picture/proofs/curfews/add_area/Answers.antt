use Rattle.std.proofs.Common.{◌≡◌, ◌++◌, rules}
use Rattle.std.specs.Prelude.{codes, decimal}
use Rattle.std.proofs.lemmas.Result.{on_ok_weaker}
use Rattle.tail_book.specs.Lookup.{airport_of}
use Rattle.plan_picture.proofs.Appends.{eleven}
use Rattle.plan_picture.specs.Curfews.{curfew_of, piece_name}
use Rattle.plan_picture.specs.Layout.{minutes_to, x_of}
use Rattle.plan_picture.proofs.curfews.add_area.Goals as goal

-- what is appended is its pieces
pub returns : goal.returns
returns c =
    let name : c.add_piece_name.new.line ≡ c.text-4.new.self ++ piece_name c.args.stretch c.args.c = c.in_ok-add_piece_name.ensures in
    let at : c.x_of.result ≡ x_of c.args.stretch.first c.args.stretch.from = search rules in
    let long : c.minutes_to.result ≡ minutes_to c.args.stretch.from c.args.stretch.to = search rules in
    on_ok_weaker c.text-7.result (λ (last : c.text-7.new.self ≡ c.text-6.new.self ++ codes " curfew</title></rect>"). rw (last, c.in_ok-text-6.ensures.ok, c.in_ok-text-5.ensures.ok, name, c.in_ok-text-4.ensures.ok, c.in_ok-unsigned-3.ensures.ok, c.in_ok-text-3.ensures.ok, c.in_ok-unsigned-2.ensures.ok, c.in_ok-text-2.ensures.ok, c.in_ok-unsigned.ensures.ok, c.in_ok-text.ensures.ok, c.port_name.ensures, c.port_of.ensures.value, at, long)
    (eleven c.args.line.now (codes "<rect x='") (decimal (x_of c.args.stretch.first c.args.stretch.from)) (codes "' y='120' width='") (decimal (minutes_to c.args.stretch.from c.args.stretch.to)) (codes "' height='") (decimal c.args.height) (codes "' fill='url(#") (piece_name c.args.stretch c.args.c) (codes ")'><title>") (airport_of c.args.book.now (curfew_of c.args.book.now c.args.c).airport).name (codes " curfew</title></rect>"))) c.text-7.ensures.ok
