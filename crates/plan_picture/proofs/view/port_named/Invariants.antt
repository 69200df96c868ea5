use Rattle.std.proofs.Common.{◌≡◌, drop}
use Rattle.plan_picture.specs.Ports.{named_from, port_named}
use Rattle.plan_picture.proofs.view.port_named.Given as goal

-- what is left decides
abbrev pub invariant-loop-p : goal.invariant-loop-p
invariant-loop-p l = port_named l.book l.name ≡ named_from l.name l.p (drop l.p l.book.rules.airports)
