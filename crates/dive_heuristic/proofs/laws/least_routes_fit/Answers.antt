use Rattle.dive_heuristic.proofs.laws.least_routes_fit.Goals as goal

pub returns : goal.returns
returns c table book marks duals routes are = record {
  one_each = are.one_each;
  legal = λ k lt. (are.each k lt).legal;
  fits = λ k lt. (are.each k lt).fits;
}
