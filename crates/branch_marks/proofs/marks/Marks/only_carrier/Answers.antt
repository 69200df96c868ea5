use Rattle.std.proofs.Common.{◌<◌, ◌≤◌, ap, arith, length, refl, false}
use Rattle.std.proofs.lemmas.Bool.{both_ways}
use Rattle.tail_book.specs.Seen.{BookSeen}
use Rattle.tail_book.specs.Lookup.{aircraft}
use Rattle.branch_marks.proofs.OnlyCarriers.{no_carrier, is_carrier}
use Rattle.branch_marks.proofs.marks.Marks.only_carrier.Goals as goal

pub returns-then-k-m-clause-none : goal.returns-then-k-m-clause-none
returns-then-k-m-clause-none c =
    let all : aircraft c.args.book.now ≤ c.next_alive-k.result = omega (arith, ap (λ (b : BookSeen). length b.tails) c.book.view_is) in
    no_carrier c.alive_decides.ensures c.args.book.now c.args.self.now.facts c.args.a c.next_alive-k.result c.next_alive-k.ensures.none all

pub returns-then-has-clause-none : goal.returns-then-has-clause-none
returns-then-has-clause-none c k carrier =
    let within : c.next_alive-k.result < aircraft c.args.book.now = omega (arith, ap (λ (b : BookSeen). length b.tails) c.book.view_is) in
    carrier.unnamed c.next_alive-k.result within (c.if-has.ensures.means.0 refl)

pub returns-clause-some : goal.returns-clause-some
returns-clause-some c =
    let within : c.next_alive-k.result < aircraft c.args.book.now = omega (arith, ap (λ (b : BookSeen). length b.tails) c.book.view_is) in
    let all : aircraft c.args.book.now ≤ c.next_alive.result = omega (arith, ap (λ (b : BookSeen). length b.tails) c.book.view_is) in
    is_carrier c.alive_decides.ensures c.args.book.now c.args.self.now.facts c.args.a c.next_alive-k.result c.next_alive.result within c.requires.activity
    (c.next_alive-k.ensures.found within) c.next_alive-k.ensures.none c.next_alive.ensures.none all (λ has. both_ways false refl (c.if-has.ensures.means.1 has))
