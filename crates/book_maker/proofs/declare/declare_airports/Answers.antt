use Rattle.std.proofs.Common.{◌∙◌, [], ap, arith, length, refl}
use Rattle.std.proofs.lemmas.List.{length-map}
use Rattle.book_maker.proofs.EntryFacts.{mapped_names}
use Rattle.book_maker.proofs.declare.declare_airports.Goals as goal

-- there are as many names as entries
pub invariant_of-known : goal.invariant_of-known
invariant_of-known c =
    let names = c.in_ok-found.ensures.names ∙ mapped_names (λ e. e.name) [] c.args.airports.now in
    let few = ap length names ∙ length-map c.args.airports.now (λ e. e.name) in
    record {
      kinds = c.known.invariant.kinds;
      airports = omega (arith, few, c.requires.few);
      counters = c.known.invariant.counters;
      tails = c.known.invariant.tails;
      tags = c.known.invariant.tags;
    }

-- the names are those of the entries
pub returns-clause-known : goal.returns-clause-known
returns-clause-known c =
    let names = c.in_ok-found.ensures.names ∙ mapped_names (λ e. e.name) [] c.args.airports.now in
    rw (← c.known.view_is, names) refl
