-- A store of labels: rows that are kept for good, and for each node a bucket of those that nothing there covers.
use Rattle.std.specs.Prelude.{ℕ, ℤ, ◌≡◌, ◌<◌, ◌≤◌, ◌^◌, List, [], ◌∷◌, ◌++◌, Option, None, IfSome, All, length, replicate, slice_index_or, slice_set}
use Rattle.label_store.specs.Seen.{StoreSeen, RowsSeen}
use Rattle.label_store.specs.Buckets.{bucket_with, EachApart}

-- rows with their buckets
abbrev pub store_of : RowsSeen → List (List ℕ) → StoreSeen
store_of rows buckets = record {
  width = rows.width;
  rows = rows.rows;
  parents = rows.parents;
  nodes = rows.nodes;
  buckets = buckets;
}

-- the row that a row came from, its node, and the bucket of a node
abbrev pub parent_of : StoreSeen → ℕ → Option ℕ
parent_of store i = slice_index_or store.parents i None

abbrev pub node_of : StoreSeen → ℕ → ℕ
node_of store i = slice_index_or store.nodes i 0

abbrev pub bucket_of : StoreSeen → ℕ → List ℕ
bucket_of store node = slice_index_or store.buckets node []

-- the number is that of a kept row of the node
pub record IsRowOf (store : StoreSeen) (node i : ℕ) : Type 0 where
  pub kept : i < length store.rows
  pub place : node_of store i ≡ node

-- every row has the width, a parent that was kept before it or none, and a node of the store; a bucket has numbers of
-- rows of its node, of which none covers another one. Rows and nodes are numbered in 32 bits
pub record IsStore (store : StoreSeen) : Type 0 where
  pub some : 1 ≤ store.width
  pub wide : All (λ row. length row ≡ store.width) store.rows
  pub each_parent : length store.parents ≡ length store.rows
  pub each_node : length store.nodes ≡ length store.rows
  pub below : (i : ℕ) → i < length store.rows → IfSome (parent_of store i) (λ j. j < i)
  pub placed : All (λ node. node < length store.buckets) store.nodes
  pub numbers : (node : ℕ) → node < length store.buckets → All (IsRowOf store node) (bucket_of store node)
  pub apart : (node : ℕ) → node < length store.buckets → EachApart store.rows (bucket_of store node)
  pub few : length store.rows ≤ 2 ^ 32
  pub small : length store.buckets ≤ 2 ^ 32

-- no row, and so many empty buckets
abbrev pub empty_store : ℕ → ℕ → StoreSeen
empty_store nodes width = record { width = width; rows = []; parents = []; nodes = []; buckets = replicate nodes [] }

-- the store with one more row, which has entered the bucket of its node
abbrev pub with_row : StoreSeen → ℕ → Option ℕ → List ℤ → StoreSeen
with_row store node parent row = record {
  width = store.width;
  rows = store.rows ++ row ∷ [];
  parents = store.parents ++ parent ∷ [];
  nodes = store.nodes ++ node ∷ [];
  buckets = slice_set store.buckets node (bucket_with store.rows (bucket_of store node) row (length store.rows));
}
