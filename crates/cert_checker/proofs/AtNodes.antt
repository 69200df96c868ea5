-- What each line of a node gives, where the node that it belongs to is known. The tests come in their order: one that
-- holds lets the next one come, and one that does not gives its reason. So each reason is reached by the tests before
-- it, and what is kept by all of them. First the leaf before is closed, and the node is the place that is owed next.
use Rattle.std.specs.Prelude.{not, nat_lt, if◌then◌else◌}
use Rattle.std.proofs.Common.{◌≡◌, ◌∙◌, ℕ, Bool, true, false, List, [], ◌∷◌, ◌++◌, Option, None, Result, Ok, Err, refl, sym, ap}
use Rattle.tail_book.specs.Lookup.{activities}
use Rattle.tail_book.specs.Seen.{BookSeen}
use Rattle.tail_text.specs.Checks.{look, must}
use Rattle.branch_marks.specs.Branches.{first_branch, second_branch}
use Rattle.branch_marks.specs.declared.fact.Fact.{Fact}
use Rattle.branch_marks.specs.declared.fact.Pair.{Pair}
use Rattle.branch_marks.specs.Undecided.{is_undecided}
use Rattle.branch_marks.specs.FactTests.{has_fact}
use Rattle.branch_marks.specs.FollowingTests.{follows}
use Rattle.branch_marks.specs.MarkTests.{is_fact_of}
use Rattle.branch_marks.specs.TreeTests.{is_hole}
use Rattle.cert_checker.specs.Step.{Step, after_leaf, at_node, is_pair_of, next_owed, take_fact, take_hole, take_split}
use Rattle.cert_checker.specs.State.{OpenLeaf, State, Section, InTree}
use Rattle.cert_checker.specs.declared.kept_floors.KeptRows.{KeptRows}
use Rattle.cert_checker.specs.declared.state.Judging.{Judging}
use Rattle.cert_checker.specs.declared.state.Part.TheVariants.{InTree as PartInTree}
use Rattle.cert_checker.specs.declared.verdict.Reason.TheVariants.{KnownFact, NotAlive, NotFollowing, OutOfPlace}
use Rattle.cert_checker.specs.inside.Kept.{IsAtNode, TellsNode, leaf_in, section_in, state_of}
use Rattle.open_branches.specs.declared.branches.Branches.{Branches}
use Rattle.open_branches.specs.Branches.{behind_of, owed_of}

-- a test that holds lets the next one come, and one that does not gives its reason
pub passed : {A E : Type 0} (test : Bool) (why : E) (next : Result A E) → test ≡ true → must test why next ≡ next
passed test why next e = ap (λ (t : Bool). must t why next) e

pub stopped : {A E : Type 0} (test : Bool) (why : E) (next : Result A E) → test ≡ false → must test why next ≡ Err why
stopped test why next e = ap (λ (t : Bool). must t why next) e

-- in a tree, with no open leaf
abbrev pub in_tree : ℕ → ℕ → List (List Fact) → Option ℕ → State
in_tree version lines owed low = record { lines = lines; version = version; section = InTree; owed = owed; leaf = None; low = low }

pub in_tree_is : (judging : Judging) → judging.part ≡ PartInTree → judging.leaf ≡ None → state_of judging ≡ in_tree judging.version judging.lines (owed_of judging.branches) judging.low
in_tree_is judging part leaf =
    ap (λ (s : Section). record { lines = judging.lines; version = judging.version; section = s; owed = owed_of judging.branches; leaf = leaf_in judging judging.leaf; low = judging.low }) (ap (section_in judging) part)
    ∙ ap (λ (l : Option OpenLeaf). record { lines = judging.lines; version = judging.version; section = InTree; owed = owed_of judging.branches; leaf = l; low = judging.low }) (ap (leaf_in judging) leaf)

module _ (book : BookSeen) (state : State) (mid : Judging) (node : IsAtNode book state mid) where
  abbrev marks : List Fact
  marks = mid.branches.marks.facts

  abbrev behind : List (List Fact)
  behind = behind_of mid.branches

  abbrev with_owed : List (List Fact) → State
  with_owed owed = in_tree mid.version mid.lines owed mid.low

  goes : (go : State → List Fact → List (List Fact) → Step) → at_node book state go ≡ go (with_owed (marks ∷ behind)) marks behind
  goes go =
      ap (λ (after : Step). look after (λ here. next_owed here.owed (go here))) (node.after ∙ ap Ok (in_tree_is mid node.part node.leaf))
      ∙ ap (λ (t : Bool). next_owed (if t then marks ∷ behind else behind) (go (with_owed (if t then marks ∷ behind else behind)))) node.owes

  pub fact_out : (fact : Fact) → is_fact_of book fact ≡ false → take_fact book state fact ≡ Err OutOfPlace
  fact_out fact e = goes _ ∙ stopped (is_fact_of book fact) OutOfPlace _ e

  pub fact_known : (fact : Fact) → is_fact_of book fact ≡ true → has_fact marks fact ≡ true → take_fact book state fact ≡ Err KnownFact
  fact_known fact e known = goes _ ∙ passed (is_fact_of book fact) OutOfPlace _ e ∙ stopped (not (has_fact marks fact)) KnownFact _ (ap not known)

  pub fact_not_following : (fact : Fact) → is_fact_of book fact ≡ true → has_fact marks fact ≡ false → follows book marks fact ≡ false → take_fact book state fact ≡ Err NotFollowing
  fact_not_following fact e new not_so =
      goes _ ∙ passed (is_fact_of book fact) OutOfPlace _ e ∙ passed (not (has_fact marks fact)) KnownFact _ (ap not new) ∙ stopped (follows book marks fact) NotFollowing _ not_so

  pub fact_taken : (fact : Fact) → is_fact_of book fact ≡ true → has_fact marks fact ≡ false → follows book marks fact ≡ true
      → take_fact book state fact ≡ Ok (with_owed ((marks ++ fact ∷ []) ∷ behind))
  fact_taken fact e new so =
      goes _ ∙ passed (is_fact_of book fact) OutOfPlace _ e ∙ passed (not (has_fact marks fact)) KnownFact _ (ap not new) ∙ passed (follows book marks fact) NotFollowing _ so

  pub split_out : (pair : Pair) → is_pair_of book pair ≡ false → take_split book state pair ≡ Err OutOfPlace
  split_out pair e = goes _ ∙ stopped (is_pair_of book pair) OutOfPlace _ e

  pub split_decided : (pair : Pair) → is_pair_of book pair ≡ true → is_undecided book marks pair ≡ false → take_split book state pair ≡ Err NotAlive
  split_decided pair e decided = goes _ ∙ passed (is_pair_of book pair) OutOfPlace _ e ∙ stopped (is_undecided book marks pair) NotAlive _ decided

  pub split_taken : (pair : Pair) → is_pair_of book pair ≡ true → is_undecided book marks pair ≡ true
      → take_split book state pair ≡ Ok (with_owed ((marks ++ first_branch pair ∷ []) ∷ (marks ++ second_branch pair ∷ []) ∷ behind))
  split_taken pair e undecided = goes _ ∙ passed (is_pair_of book pair) OutOfPlace _ e ∙ passed (is_undecided book marks pair) NotAlive _ undecided

  pub hole_out : (a : ℕ) → nat_lt a (activities book) ≡ false → take_hole book state a ≡ Err OutOfPlace
  hole_out a e = goes _ ∙ stopped (nat_lt a (activities book)) OutOfPlace _ e

  pub hole_alive : (a : ℕ) → nat_lt a (activities book) ≡ true → is_hole book marks a ≡ false → take_hole book state a ≡ Err NotAlive
  hole_alive a e alive = goes _ ∙ passed (nat_lt a (activities book)) OutOfPlace _ e ∙ stopped (is_hole book marks a) NotAlive _ alive

  pub hole_taken : (a : ℕ) → nat_lt a (activities book) ≡ true → is_hole book marks a ≡ true → take_hole book state a ≡ Ok (with_owed behind)
  hole_taken a e is = goes _ ∙ passed (nat_lt a (activities book)) OutOfPlace _ e ∙ passed (is_hole book marks a) NotAlive _ is

-- a node that may stand here, and none
pub node_here : (book : BookSeen) (state : State) (mid : Judging) (found : Bool) → TellsNode book state mid found → found ≡ true → IsAtNode book state mid
node_here book state mid true told e = told
node_here book state mid false told e = absurd (cc e)

pub no_node : (book : BookSeen) (state : State) (mid : Judging) (found : Bool) → TellsNode book state mid found → found ≡ false
    → (go : State → List Fact → List (List Fact) → Step) → at_node book state go ≡ Err OutOfPlace
no_node book state mid true told e = absurd (cc e)
no_node book state mid false told e = told

-- where the last leaf is not done there is none
pub no_node_before : (book : BookSeen) (state : State) → after_leaf book state ≡ Err OutOfPlace → (go : State → List Fact → List (List Fact) → Step) → at_node book state go ≡ Err OutOfPlace
no_node_before book state e go = ap (λ (after : Step). look after (λ here. next_owed here.owed (go here))) e

-- what is kept at a node is what is owed
pub kept_at_node : (judging : Judging) (owed : List (List Fact)) → judging.part ≡ PartInTree → judging.leaf ≡ None → owed_of judging.branches ≡ owed
    → in_tree judging.version judging.lines owed judging.low ≡ state_of judging
kept_at_node judging owed part leaf is = ap (λ (o : List (List Fact)). in_tree judging.version judging.lines o judging.low) (sym is) ∙ sym (in_tree_is judging part leaf)

-- a node is owed before what is behind it
pub owed_here : (branches : Branches) (here : List Fact) (more : List (List Fact)) → branches.owes ≡ true → branches.marks.facts ≡ here → behind_of branches ≡ more
    → owed_of branches ≡ here ∷ more
owed_here branches here more owes facts rest =
    ap (λ (b : Bool). if b then branches.marks.facts ∷ behind_of branches else behind_of branches) owes
    ∙ ap (λ (m : List Fact). m ∷ behind_of branches) facts ∙ ap (λ (r : List (List Fact)). here ∷ r) rest

-- the next node that is owed, or that none is
module _ (book : BookSeen) (state : State) (mid : Judging) (branches : Branches) (floors : KeptRows) (after : after_leaf book state ≡ Ok (state_of mid))
    (part : mid.part ≡ PartInTree) (leaf : mid.leaf ≡ None) (owed : owed_of branches ≡ owed_of mid.branches) where
  abbrev next : Judging
  next = record mid { branches = branches; floors = floors }

  same : state_of mid ≡ state_of next
  same = in_tree_is mid part leaf ∙ kept_at_node next (owed_of mid.branches) part leaf owed

  pub node_told : (found : Bool) → branches.owes ≡ found → (found ≡ false → owed_of mid.branches ≡ []) → TellsNode book state next found
  node_told true owes none = record { after = after ∙ ap Ok same; owes = owes; part = part; leaf = leaf }
  node_told false owes none = λ go.
      ap (λ (step : Step). look step (λ here. next_owed here.owed (go here))) after
      ∙ ap (λ (o : List (List Fact)). next_owed o (go (state_of mid))) (none refl)
