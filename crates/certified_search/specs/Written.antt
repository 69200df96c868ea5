-- What a search leaves of its certificate: all of it, or a front of what was due. For src/certified.rt.
use Rattle.std.specs.Prelude.{◌≡◌, ◌⊎◌, ℕ, false, List, [], ◌∷◌, ◌++◌, Some}
use Rattle.tail_book.specs.Seen.{BookSeen}
use Rattle.tail_book.specs.Truth.{claim_of}
use Rattle.tail_book.specs.declared.outcome.Outcome.{Outcome}
use Rattle.tail_book.specs.CostTable.{costs_of}
use Rattle.tail_outside.specs.Shown.{SinkShown}
use Rattle.node_leaves.specs.Begun.{BegunTree, IsBegunTree}
use Rattle.node_leaves.specs.Node.{Node}
use Rattle.node_leaves.specs.NodeEvents.{begun_events, events_of}
use Rattle.branch_tree.specs.declared.limit.Limit.{Limit}
use Rattle.cert_lines.specs.declared.version.Version.{Version}
use Rattle.cert_lines.specs.Text.{cert_text}
use Rattle.cert_lines.specs.Version.{number_of_version}
use Rattle.cert_checker.specs.Certificate.{Accepts, header_of}
use Rattle.cert_writer.specs.EventLines.{event_lines}
use Rattle.certified_search.specs.OrderedTree.{IsTreeIn}
use Rattle.certified_search.specs.SearchText.{search_text}
use Rattle.certified_search.specs.declared.order.Order.{Order}

-- the text is accepted for what the outcome claims, and spells a tree in this order that has the outcome within the limit, in
-- this version
pub record IsCertificateOf (book : BookSeen) (limit : Limit) (order : Order) (version : Version) (outcome : Outcome) (text : List ℕ) : Type 0 where
  pub nodes : List Node
  pub is : IsTreeIn order (costs_of book) book limit outcome nodes
  pub spelled : text ≡ search_text version book (events_of nodes) outcome
  pub accepted : Accepts book text (claim_of outcome)

-- it is a front of the other text
abbrev pub IsFrontOf : List ℕ → List ℕ → Type 0
IsFrontOf whole text = (rest : List ℕ) × (whole ≡ text ++ rest)

-- it is a front of such a certificate
pub record IsFrontOfCertificate (book : BookSeen) (limit : Limit) (order : Order) (version : Version) (text : List ℕ) : Type 0 where
  pub outcome : Outcome
  pub whole : List ℕ
  pub is : IsCertificateOf book limit order version outcome whole
  pub front : IsFrontOf whole text

-- it is a front of the header's line and the lines of a begun tree
pub record IsFrontOfBegun (book : BookSeen) (version : Version) (text : List ℕ) : Type 0 where
  pub begun : BegunTree
  pub is : IsBegunTree (costs_of book) book begun
  pub front : IsFrontOf (cert_text (header_of (number_of_version version) book ∷ event_lines version (begun_events begun))) text

-- it is a front of what was due
abbrev pub IsFrontOfDue : BookSeen → Limit → Order → Version → List ℕ → Type 0
IsFrontOfDue book limit order version text = IsFrontOfCertificate book limit order version text ⊎ IsFrontOfBegun book version text

-- a sink that told no bytes before tells this of the text that it took
abbrev pub LeavesText : SinkShown → SinkShown → (List ℕ → Type 0) → Type 0
LeavesText old new P = new.ceased ≡ false → old.told ≡ Some [] → (text : List ℕ) × (new.told ≡ Some text) × P text
