-- Whether marks have a fact, as a test: one of the same kind with the same numbers.
-- For src/marks.rt and src/marks/walks.rt.
use Rattle.std.specs.Prelude.{List, Bool, false, ◌&&◌, nat_eq}
use Rattle.std.specs.List.{list_any}
use Rattle.branch_marks.specs.declared.fact.Fact.{Fact}
use Rattle.branch_marks.specs.declared.fact.Fact.TheVariants.{Bar, Must, Cut, Tie}

-- both are the same fact
abbrev pub same_fact : Fact → Fact → Bool
same_fact (Bar k a) (Bar j c) = nat_eq k j && nat_eq a c
same_fact (Must k a) (Must j c) = nat_eq k j && nat_eq a c
same_fact (Cut a b) (Cut c d) = nat_eq a c && nat_eq b d
same_fact (Tie a b) (Tie c d) = nat_eq a c && nat_eq b d
same_fact _ _ = false

-- the marks have the fact
abbrev pub has_fact : List Fact → Fact → Bool
has_fact marks fact = list_any (same_fact fact) marks
