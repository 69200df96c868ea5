use Rattle.std.proofs.Common.{◌≡◌, ◌∙◌, ℕ, ℤ, Bool, true, false, List, [], ◌∷◌, ◌++◌, None, rules, ap, append_assoc, to_z, of_z}
use Rattle.std.specs.Int.{w128}
use Rattle.std.proofs.lemmas.Int.{to_z-of_z}
use Rattle.tail_book.specs.TableSeen.{DualsSeen}
use Rattle.branch_marks.specs.declared.fact.Fact.{Fact}
use Rattle.branch_marks.specs.Branches.{first_branch, second_branch}
use Rattle.best_first.specs.declared.links.Link.{Link}
use Rattle.best_first.specs.declared.slots.Slot.{Slot}
use Rattle.best_first.specs.inside.Links.{facts_at}
use Rattle.best_first.proofs.FactChains.{still_facts, still_within}
use Rattle.best_first.proofs.visit.open_branches.Goals as goal

abbrev open_as : ℤ → ℕ → Bool → ℕ → DualsSeen → Slot
open_as bound since second end duals = record { rank = record { bound = bound; since = since; second = second }; end = end; duals = duals; kept = None }

-- both facts were added behind the last one, and both slots behind the node's
pub returns : goal.returns
returns c =
    let old = c.args.links.now.items in let middle = c.add_link.new.links.items in let new = c.add_link-2.new.links.items in
    let one = c.in_ok-first_end.ensures in let two = c.in_ok-second_end.ensures in
    let facts : c.branches_of-one.result ≡ (first_branch c.args.pair, second_branch c.args.pair) = c.branches_of-one.ensures in
    let last = c.args.last in
    let same : to_z w128 (of_z w128 c.args.bound.now) ≡ c.args.bound.now = to_z-of_z w128 c.args.bound.now (search rules) in
    let slot = λ (z : ℤ) (second : Bool) (end : ℕ). open_as z c.args.since second end c.args.duals.now in
    let first = slot c.args.bound.now false c.in_ok-first_end.first_end in
    let first_is : c.in_ok-first.first ≡ first = c.in_ok-first.ensures ∙ ap (λ (z : ℤ). slot z false c.in_ok-first_end.first_end) same in
    let second_is : c.in_ok-second.second ≡ slot c.args.bound.now true c.in_ok-second_end.second_end =
    c.in_ok-second.ensures ∙ ap (λ (z : ℤ). slot z true c.in_ok-second_end.second_end) same in
    record {
      more = one.more ++ two.more;
      same = two.same ∙ ap (λ (l : List Link). l ++ two.more) one.same ∙ append_assoc old one.more two.more;
      links = two.links;
      first = c.in_ok-first_end.first_end;
      second = c.in_ok-second_end.second_end;
      first_within = still_within middle new two.more two.same c.in_ok-first_end.first_end one.within;
      second_within = two.within;
      first_is = still_facts middle new two.more two.same c.in_ok-first_end.first_end one.within ∙ one.is
          ∙ ap (λ (z : Fact × Fact). facts_at old last ++ z.0 ∷ []) facts;
      second_is = two.is ∙ ap (λ (f : List Fact). f ++ c.branches_of-one.result.1 ∷ []) (still_facts old middle one.more one.same last c.requires.last)
          ∙ ap (λ (z : Fact × Fact). facts_at old last ++ z.1 ∷ []) facts;
      opened = λ before here behind is long.
          c.in_ok-put_behind.ensures before here behind is long
          ∙ ap (λ (s : Slot). before ++ here ∷ s ∷ c.in_ok-second.second ∷ behind) first_is
          ∙ ap (λ (s : Slot). before ++ here ∷ first ∷ s ∷ behind) second_is;
    }
