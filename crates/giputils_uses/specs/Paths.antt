-- Paths in a directed graph, which lists for each node the edges that begin there. An edge is where it ends, and its
-- weight.
use Rattle.std.specs.Prelude.{◌≡◌, ℕ, ◌+◌, ◌<◌, ◌≤◌, ◌⊎◌, nat_lt, min, Bool, List, [], ◌∷◌, length, slice_get, slice_index, slice_index_or, set, Some}
use Rattle.std.specs.List.{list_all}
use Rattle.giputils.specs.Keys.{HoldAlike}
use Rattle.giputils_uses.specs.Worklist.{IsWalk}

abbrev pub Edge : Type 0
Edge = ℕ × ℕ

abbrev pub Graph : Type 0
Graph = List (List Edge)

-- the edges that begin at u
abbrev pub edges_from : Graph → ℕ → List Edge
edges_from graph u = slice_index_or graph u []

-- e is an edge that begins at u
abbrev pub IsEdge : Graph → ℕ → Edge → Type 0
IsEdge graph u e = (k : ℕ) × (slice_get (edges_from graph u) k ≡ Some e)

-- whether every edge ends at a node
abbrev pub ends_at_nodes : Graph → Bool
ends_at_nodes graph = list_all (list_all (λ e. nat_lt e.0 (length graph))) graph

-- the path goes along edges of the graph from u to v, each from where the one before it ends
abbrev pub IsPath : Graph → ℕ → List Edge → ℕ → Type 0
IsPath graph = IsWalk (IsEdge graph) (λ e. e.0)

-- the sum of the weights
abbrev pub cost : List Edge → ℕ
cost [] = 0
cost (e ∷ path) = e.1 + cost path

-- there is a path from u to v of this cost
abbrev pub HasPath : Graph → ℕ → ℕ → ℕ → Type 0
HasPath graph u v c = (path : List Edge) × IsPath graph u path v × (cost path ≡ c)

-- the distance of a node that no path was found to
abbrev pub farthest : ℕ
farthest = 4294967295

-- each node that is nearer than the farthest has a path that costs its distance
abbrev pub AreCosts : Graph → ℕ → List ℕ → Type 0
AreCosts graph source far =
    (v : ℕ) → v < length graph → slice_index far v < farthest → HasPath graph source v (slice_index far v)

-- no path costs less than the distance of its end
abbrev pub AreLeast : Graph → ℕ → List ℕ → Type 0
AreLeast graph source far = (v : ℕ) (path : List Edge) → IsPath graph source path v → slice_index far v ≤ cost path

-- v waits beside those that did
abbrev pub HasWait : ℕ → List ℕ → List ℕ → Type 0
HasWait v waiting waits = HoldAlike (λ k. k) waits (v ∷ waiting) × (length waits ≤ length waiting + 1)

-- the node v has come nearer, to the distance t, and waits
pub record ComesNearer (v t : ℕ) (far waiting new waits : List ℕ) : Type 0 where
  pub nearer : t < slice_index far v
  pub now : new ≡ set far v t
  pub queued : HasWait v waiting waits

-- the end of an edge from u is no farther than along it from now on: it was not, or it has come as near
abbrev pub Relaxes : ℕ → Edge → List ℕ → List ℕ → List ℕ → List ℕ → Type 0
Relaxes u e far waiting new waits =
    (slice_index new e.0 ≤ slice_index new u + e.1)
    × (((new ≡ far) × (waits ≡ waiting)) ⊎ ComesNearer e.0 (min (slice_index far u + e.1) farthest) far waiting new waits)
