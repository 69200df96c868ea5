use Rattle.std.proofs.Common.{◌∙◌, [], ap, arith, length, refl}
use Rattle.std.proofs.lemmas.List.{length-map}
use Rattle.book_maker.proofs.EntryFacts.{mapped_names}
use Rattle.book_maker.proofs.declare.declare_tails.Goals as goal

-- there are as many names as entries
pub invariant_of-known : goal.invariant_of-known
invariant_of-known c =
    let names = c.in_ok-found.ensures.names ∙ mapped_names (λ e. e.name) [] c.args.tails.now in
    let few = ap length names ∙ length-map c.args.tails.now (λ e. e.name) in
    record {
      kinds = c.known.invariant.kinds;
      airports = c.known.invariant.airports;
      counters = c.known.invariant.counters;
      tails = omega (arith, few, c.requires.few);
      tags = c.known.invariant.tags;
    }

-- the names are those of the entries
pub returns-clause-known : goal.returns-clause-known
returns-clause-known c =
    let names = c.in_ok-found.ensures.names ∙ mapped_names (λ e. e.name) [] c.args.tails.now in
    rw (← c.known.view_is, names) refl
