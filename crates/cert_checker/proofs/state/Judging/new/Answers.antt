use Rattle.std.specs.Prelude.{if◌then◌else◌}
use Rattle.std.proofs.Common.{◌∙◌, ◌∷◌, Bool, ap, refl, rules}
use Rattle.open_branches.specs.Branches.{behind_of}
use Rattle.cert_checker.proofs.state.Judging.new.Goals as goal

-- nothing is owed, and rows without floors are right under the first marks
pub returns-clause-judging : goal.returns-clause-judging
returns-clause-judging c =
    let branches = c.in_ok-branches.branches in
    record {
      branches = c.in_ok-branches.ensures.branches;
      part = (
        c.in_ok-branches.ensures.marks,
        ap (λ (owes : Bool). if owes then branches.marks.facts ∷ behind_of branches else behind_of branches) c.in_ok-branches.ensures.owes
            ∙ c.in_ok-branches.ensures.behind,
        refl,
      );
      duals = search rules;
      covers = search rules;
      values = search rules;
      fliers = search rules;
      leaf = tt;
      starts = search rules;
      floors = c.in_ok-floors.ensures branches.marks.facts;
      width = search rules;
      pricer = tt;
    }
