-- What the code keeps of the lines that it took, as the state that the definition keeps.
-- For src/ends.rt, src/state.rt and others.
use Rattle.std.specs.Prelude.{ℕ, ℤ, pos, ◌≡◌, ◌<◌, ◌≤◌, ◌*◌, ◌^◌, ◌-ℤ◌, ⊤, List, [], Bool, true, false, not, ◌==◌, Option, Some, None, IfSome, Result, Ok, Err, All, length}
use Rattle.tail_book.specs.Seen.{BookSeen}
use Rattle.tail_book.specs.Lookup.{activities, aircraft}
use Rattle.tail_book.specs.Ranges.{IsWithin}
use Rattle.tail_book.specs.declared.claim.Claim.{Claim}
use Rattle.branch_marks.specs.declared.fact.Fact.{Fact}
use Rattle.branch_marks.specs.Labels.{Label}
use Rattle.branch_marks.specs.ProofTree.{zero_duals}
use Rattle.branch_marks.specs.TreeTests.{are_duals}
use Rattle.tail_book.specs.CostTable.{costs_of}
use Rattle.cert_checker.specs.Certificate.{claimed_cost}
use Rattle.cert_checker.specs.Reasons.{has_claimed_plan}
use Rattle.cert_checker.specs.Step.{Step, after_leaf, at_node, judge_claim}
use Rattle.cert_checker.specs.State.{State, OpenLeaf, BoundLeaf, LeanLeaf, Section}
use Rattle.cert_checker.specs.State as section
use Rattle.cert_checker.specs.declared.means.Means.{Means}
use Rattle.cert_checker.specs.declared.state.Judging.{Judging}
use Rattle.cert_checker.specs.declared.state.OpenLeaf.{OpenLeaf as KeptLeaf}
use Rattle.cert_checker.specs.declared.state.Part.{Part}
use Rattle.cert_checker.specs.declared.state.Part.TheVariants.{Start, InTree, InBound, InLean, InPlan, Claimed}
use Rattle.cert_checker.specs.declared.verdict.Reason.{Reason}
use Rattle.cert_checker.specs.declared.verdict.Verdict.{Verdict}
use Rattle.cert_checker.specs.declared.verdict.Reason.TheVariants.{OutOfPlace}
use Rattle.cert_checker.specs.inside.Buckets.{IsFamilyOf}
use Rattle.cert_checker.specs.inside.KeptFloors.{AreAllUnder}
use Rattle.cert_checker.specs.inside.LeafPricer.{IsLeafPricerOf}
use Rattle.cert_checker.specs.inside.Means.{AreMeansOf}
use Rattle.open_branches.specs.Branches.{AreBranchesOf, owed_of}

-- the bound leaf that is here
abbrev pub bound_leaf : Judging → BoundLeaf
bound_leaf judging = record {
  marks = judging.branches.marks.facts;
  duals = judging.duals.items;
  next = judging.next;
  covers = judging.covers;
  values = judging.values;
}

-- the lean leaf that is here
abbrev pub lean_leaf : Judging → LeanLeaf
lean_leaf judging = record { marks = judging.branches.marks.facts; duals = judging.duals.items; next = judging.next }

-- what stands before the next line
abbrev pub section_in : Judging → Part → Section
section_in judging Start = section.Start
section_in judging InTree = section.InTree
section_in judging InBound = section.InBound (bound_leaf judging)
section_in judging InLean = section.InLean (lean_leaf judging)
section_in judging InPlan = section.InPlan judging.fliers.items
section_in judging (Claimed claim) = section.Claimed claim

-- the leaf that is open
abbrev pub leaf_in : Judging → Option KeptLeaf → Option OpenLeaf
leaf_in judging None = None
leaf_in judging (Some leaf) = Some (record {
  line = leaf.line;
  k = leaf.k;
  marks = judging.branches.marks.facts;
  duals = judging.duals.items;
  value = leaf.value;
  next = leaf.next;
  family = judging.family.items;
})

-- the state
abbrev pub state_of : Judging → State
state_of judging = record {
  lines = judging.lines;
  version = judging.version;
  section = section_in judging judging.part;
  owed = owed_of judging.branches;
  leaf = leaf_in judging judging.leaf;
  low = judging.low;
}

-- the open leaf is of an aircraft of the book, its labels are a family so far, and where it claims no value its duals are 0
pub record IsLeafOf (book : BookSeen) (marks : List Fact) (duals : List ℤ) (labels : List Label) (leaf : KeptLeaf) : Type 0 where
  pub aircraft : leaf.k < aircraft book
  pub family : IsFamilyOf book marks leaf.k labels
  pub last : All (λ label. label.at ≤ leaf.next) labels
  pub zero : leaf.value ≡ None → duals ≡ zero_duals book

abbrev pub IsLeafIn : BookSeen → Judging → Option KeptLeaf → Type 0
IsLeafIn book judging None = ⊤
IsLeafIn book judging (Some leaf) = IsLeafOf book judging.branches.marks.facts judging.duals.items judging.family.items leaf

-- nothing is there before the header; a bound leaf is owed until its last cover was begun, and has no labels before its first; and
-- the duals of a lean leaf are in the box
abbrev pub IsPartIn : BookSeen → Judging → Part → Type 0
IsPartIn book judging Start = (judging.branches.marks.facts ≡ []) × (owed_of judging.branches ≡ []) × (judging.leaf ≡ None)
IsPartIn book judging InTree = ⊤
IsPartIn book judging InBound = (judging.branches.owes ≡ not (judging.covers == aircraft book)) × (judging.covers ≡ 0 → judging.leaf ≡ None)
IsPartIn book judging InLean = (are_duals (costs_of book) book judging.duals.items ≡ true) × (judging.leaf ≡ None)
IsPartIn book judging InPlan = ⊤
IsPartIn book judging (Claimed claim) = ⊤

-- what is kept is of the book
pub record IsJudging (book : BookSeen) (judging : Judging) : Type 0 where
  pub branches : AreBranchesOf book judging.branches
  pub part : IsPartIn book judging judging.part
  pub duals : length judging.duals.items ≡ activities book
  pub covers : judging.covers ≤ aircraft book
  pub values : IsWithin (pos 0 -ℤ pos (judging.covers * 2 ^ 63)) (pos (judging.covers * 2 ^ 63)) judging.values
  pub fliers : length judging.fliers.items ≤ activities book
  pub leaf : IsLeafIn book judging judging.leaf
  pub starts : length judging.starts.items ≡ activities book
  pub floors : AreAllUnder book judging.branches.marks.facts judging.floors.rows.items
  pub width : length judging.counters.items ≡ length book.rules.counters
  pub pricer : IfSome judging.pricer (IsLeafPricerOf book)

-- what was answered to a line, and what is kept, are what the step gives
abbrev pub Gives : Step → Judging → Option Reason → Type 0
Gives step judging None = step ≡ Ok (state_of judging)
Gives step judging (Some reason) = step ≡ Err reason

-- a claim is judged as its step is, for each book of these means, and each plan that is the claim's where it was said to be
abbrev pub GivesClaim : Judging → Means → Bool → Claim → Judging → Option Reason → Type 0
GivesClaim old means has_plan claim new answer =
    (book : BookSeen) (fliers : Option (List ℕ)) → AreMeansOf book means → has_plan ≡ has_claimed_plan book fliers (claimed_cost claim)
    → Gives (judge_claim book (state_of old) fliers claim) new answer

-- a node may stand here: nothing of a leaf is kept, and its subtree is owed; or there is no place for one
pub record IsAtNode (book : BookSeen) (state : State) (judging : Judging) : Type 0 where
  pub after : after_leaf book state ≡ Ok (state_of judging)
  pub owes : judging.branches.owes ≡ true
  pub part : judging.part ≡ InTree
  pub leaf : judging.leaf ≡ None

abbrev pub TellsNode : BookSeen → State → Judging → Bool → Type 0
TellsNode book state judging true = IsAtNode book state judging
TellsNode book state judging false = (go : State → List Fact → List (List Fact) → Step) → at_node book state go ≡ Err OutOfPlace

-- what was answered to a line, and what is kept, are what the definition gives
abbrev pub Answers : Result State Verdict → Judging → Option Verdict → Type 0
Answers step judging None = step ≡ Ok (state_of judging)
Answers step judging (Some verdict) = step ≡ Err verdict
