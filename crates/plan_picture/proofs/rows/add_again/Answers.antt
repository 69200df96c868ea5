use Rattle.std.proofs.Common.{◌≡◌, ◌++◌}
use Rattle.std.specs.Prelude.{codes, decimal}
use Rattle.std.proofs.lemmas.Result.{on_ok_weaker}
use Rattle.plan_picture.proofs.Appends.{eleven}
use Rattle.plan_picture.specs.Layout.{y_of}
use Rattle.plan_picture.proofs.rows.add_again.Goals as goal

-- what is appended is its pieces
pub returns : goal.returns
returns c = on_ok_weaker c.text-7.result (λ (last : c.text-7.new.self ≡ c.text-6.new.self ++ codes "</text></pattern>"). rw (last, c.in_ok-text-6.ensures.ok, c.in_ok-text-5.ensures.ok, c.in_ok-unsigned-4.ensures.ok, c.in_ok-text-4.ensures.ok, c.in_ok-unsigned-3.ensures.ok, c.in_ok-text-3.ensures.ok, c.in_ok-unsigned-2.ensures.ok, c.in_ok-text-2.ensures.ok, c.in_ok-unsigned.ensures.ok, c.in_ok-text.ensures.ok, c.y_of.ensures.value, c.y_of-2.ensures.value)
    (eleven c.args.line.now (codes "<path class='line' d='M0 ") (decimal (y_of c.args.row)) (codes "H") (decimal c.args.width) (codes "'/><pattern id='row") (decimal c.args.row) (codes "' patternUnits='userSpaceOnUse' x='340' y='") (decimal (y_of c.args.row)) (codes "' width='1440' height='100'><text class='again' x='8' y='18'>") c.args.name.now (codes "</text></pattern>"))) c.text-7.ensures.ok
