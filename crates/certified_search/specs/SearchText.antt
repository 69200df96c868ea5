-- The certificate of a search: the events of its tree as lines, behind the header, and then the plan and the claim of its outcome.
-- For src/laws.rt.
use Rattle.std.specs.Prelude.{ℕ, List, ◌∷◌, ◌++◌, All}
use Rattle.tail_book.specs.Lookup.{activities}
use Rattle.tail_book.specs.Seen.{BookSeen}
use Rattle.tail_book.specs.Truth.{claim_of}
use Rattle.tail_book.specs.declared.outcome.Outcome.{Outcome}
use Rattle.tail_book.specs.CostTable.{costs_of}
use Rattle.tail_book.specs.inside.Sound.{IsBook}
use Rattle.branch_marks.specs.declared.event.Event.{Event}
use Rattle.node_leaves.specs.Node.{Node}
use Rattle.node_leaves.specs.NodeEvents.{events_of}
use Rattle.branch_tree.specs.declared.limit.Limit.{Limit}
use Rattle.cert_lines.specs.declared.cert_line.CertLine.{CertLine}
use Rattle.cert_lines.specs.declared.version.Version.{Version}
use Rattle.cert_lines.specs.Grammar.{IsLine}
use Rattle.cert_lines.specs.Text.{cert_text}
use Rattle.cert_lines.specs.Version.{number_of_version}
use Rattle.cert_checker.specs.Certificate.{Accepts, header_of}
use Rattle.cert_writer.specs.EventLines.{event_lines}
use Rattle.cert_writer.specs.Trailer.{trailer_lines}
use Rattle.certified_search.specs.OrderedTree.{IsTreeIn}
use Rattle.certified_search.specs.declared.order.Order.{Order}

-- the lines of a search that told these events and ended with this outcome
abbrev pub search_lines : Version → BookSeen → List Event → Outcome → List CertLine
search_lines version book events outcome =
    header_of (number_of_version version) book ∷ (event_lines version events ++ trailer_lines (activities book) outcome)

abbrev pub search_text : Version → BookSeen → List Event → Outcome → List ℕ
search_text version book events outcome = cert_text (search_lines version book events outcome)

-- where the lines of the events of a tree in either order can be spelled, its text in either version is accepted for what its outcome
-- claims
abbrev pub SearchTreesAreAccepted : Type 0
SearchTreesAreAccepted =
    (book : BookSeen) → IsBook book → (limit : Limit) (order : Order) (version : Version) (outcome : Outcome) (nodes : List Node)
    → IsTreeIn order (costs_of book) book limit outcome nodes → All IsLine (event_lines version (events_of nodes))
    → Accepts book (search_text version book (events_of nodes) outcome) (claim_of outcome)
