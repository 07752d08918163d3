-- A search for shortest paths: what is known of the edges and of the distances so far.
--
-- How it is proved: cases on two numbers are taken by `eqb_tells`. The invariant of an inner loop begins with the state
-- at its beginning, `(was : S) × (n : ℕ) × ..`, which saves the step from its end to the outer loop.
--
-- How it is proved: shortest distances. The invariant is: if the start of an edge does not wait, the distance of its
-- end is at most that of its start plus the weight. The measure is twice the sum of the distances plus the number of
-- waiting nodes.
use Rattle.std.proofs.Common.{◌≡◌, ◌≢◌, ℕ, ◌+◌, ◌*◌, ◌<◌, ◌≤◌, ◌⊎◌, true, false, List, [], ◌∷◌, ◌++◌, length, get_or, replicate, sum_by, Some, slice_index, arith, refl, sym, ◌∙◌, ⊎_elim, inl, inr, eqb, min, ltb}
use Rattle.std.specs.Prelude.{slice_get}
use Rattle.std.specs.List.{list_all}
use Rattle.std.proofs.lemmas.Bool.{or_cases, ltb-true, eqb-true, false≢true}
use Rattle.std.proofs.lemmas.List.{get_or-set_same, get_or-replicate, get_or_past, nil_from_length, length-set, length-replicate}
use Rattle.std.proofs.lemmas.List.Sums.{sum_by-set, AllPass-from_list_all}
use Rattle.std.proofs.lemmas.Option.{slice_get_within, slice_get-get_or, get_or_from_slice_get}
use Rattle.giputils.specs.Keys.{is_held, IsHeld, HoldAlike}
use Rattle.giputils_uses.specs.Paths.{Edge, Graph, edges_from, IsEdge, ends_at_nodes, HasPath, cost, farthest, AreCosts, AreLeast, ComesNearer, Relaxes}
use Rattle.giputils_uses.specs.Worklist.{AreDone}
use Rattle.giputils_uses.proofs.Worklists.{done-met, done-next, done-taken, done-all, walk-more, walk-each}
use Rattle.giputils_uses.proofs.Written.{get_or-set_cases}

-- the measure of a search: the distances and those that wait fall together
abbrev pub left_to_do : List ℕ → List ℕ → ℕ
left_to_do far waiting = 2 * sum_by (λ x. x) far + length waiting

module _ (graph : Graph) where
  cost-append : (path : List Edge) (e : Edge) → cost (path ++ e ∷ []) ≡ cost path + e.1
  cost-append [] e = omega arith
  cost-append (f ∷ path) e = let rest = cost-append path e in omega (arith, rest)

  -- an edge begins and ends at a node
  pub edge_nodes : ends_at_nodes graph ≡ true → (u k : ℕ) (e : Edge) → slice_get (edges_from graph u) k ≡ Some e
      → (u < length graph) × (e.0 < length graph)
  edge_nodes ends u k e at =
      let within = slice_get_within (edges_from graph u) k e at in
      let begins : u < length graph = grind (arith, get_or_past graph u [], within) in
      let row = AllPass-from_list_all (list_all (λ f. ltb f.0 (length graph))) graph ends u [] begins in
      let below = AllPass-from_list_all (λ f. ltb f.0 (length graph)) (edges_from graph u) row k e within in
      (begins, ltb-true e.0 (length graph) (rw (get_or_from_slice_get (edges_from graph u) k e e at) at below))

  -- the edge that is read at a place of a node's edges
  pub edge_at : (u i : ℕ) (items : List Edge) → items ≡ edges_from graph u → i < length items
      → slice_get (edges_from graph u) i ≡ Some (get_or items i (0, 0))
  edge_at u i items same inside = rw (← same) (slice_get-get_or items i (0, 0) inside)

  module _ (source : ℕ) where
    -- each distance is a path's, and an edge leads to no nearer end than along it, where its beginning doesn't wait, but for the edges of
    -- `node` from place i on
    abbrev IsFound : List ℕ → List ℕ → ℕ → ℕ → Type 0
    IsFound far waiting node i =
        ((length far ≡ length graph) × AreCosts graph source far) × AreDone (λ u k e. slice_get (edges_from graph u) k ≡ Some e) (λ u. ℕ)
        (λ u e. slice_index far e.0 ≤ slice_index far u + e.1) (IsHeld (λ k. k) waiting) node i

    -- and the source is no way off
    abbrev pub IsSearch : List ℕ → List ℕ → ℕ → ℕ → Type 0
    IsSearch far waiting node i = (slice_index far source ≡ 0) × IsFound far waiting node i

    -- a node comes nearer
    module _ {v t : ℕ} {far waiting new waits : List ℕ} (node i : ℕ) (inside : v < length graph) (by : ComesNearer v t far waiting new waits)
        (found : IsFound far waiting node i) where
      reads : (u : ℕ) → ((eqb u v ≡ true) × (u ≡ v) × (slice_index new u ≡ t))
          ⊎ ((eqb u v ≡ false) × (u ≢ v) × (slice_index new u ≡ slice_index far u))
      reads = rw by.now (get_or-set_cases far v t 0 (rw found.0.0 inside))

      falls : (u : ℕ) → slice_index new u ≤ slice_index far u
      falls u = ⊎_elim (λ is. rw (is.2, is.1) (omega (arith, by.nearer))) (λ other. omega (arith, other.2)) (reads u)

      -- by a path
      IsFound-nearer : (t < farthest → HasPath graph source v t) → IsFound new waits node i
      IsFound-nearer path =
          let costs : AreCosts graph source new = λ u below near.
          ⊎_elim (λ is. rw (is.2, is.1) (path (rw is.2 at near))) (λ other. rw other.2 (found.0.1 u below (rw other.2 at near))) (reads u) in
          let done = done-met _ _ _ _ node i found.1 (λ u. ℕ) (λ u f. slice_index new f.0 ≤ slice_index new u + f.1) (IsHeld (λ k. k) waits)
          (λ u met. ⊎_elim (λ is. inl (by.queued.0 u ∙ rw is.0 refl))
          (λ other. inr (met, (λ held. by.queued.0 u ∙ rw other.0 held), λ f was. omega (arith, falls f.0, other.2, was))) (reads u)) in
          ((rw by.now (length-set far v t) ∙ found.0.0, costs), done)

    -- at the start no node has been reached, and the source comes nearer
    pub IsSearch-start : (new waits : List ℕ) (node i : ℕ) → ends_at_nodes graph ≡ true → source < length graph
        → ComesNearer source 0 (replicate (length graph) farthest) [] new waits → IsSearch new waits node i
    IsSearch-start new waits node i ends inside by =
        let fresh = replicate (length graph) farthest in
        let far : (v : ℕ) → v < length graph → slice_index fresh v ≡ farthest = λ v below. get_or-replicate (length graph) v farthest 0 below in
        let costs : AreCosts graph source fresh = λ v below near. absurd (omega (arith, near, far v below)) in
        let found : IsFound fresh [] node i =
        ((length-replicate (length graph) farthest, costs), λ u k e at met. inl (omega (arith, edge_nodes ends u k e at, far e.0, far u))) in
        let now = IsFound-nearer node i inside by found (λ near. ([], refl, refl)) in
        (rw by.now (get_or-set_same fresh source 0 0 (rw found.0.0 inside)), now)

    -- a node is taken that waits
    pub IsSearch-taken : (far waiting left : List ℕ) (was node : ℕ) → HoldAlike (λ k. k) waiting (node ∷ left)
        → IsSearch far waiting was (length (edges_from graph was)) → IsSearch far left node 0
    IsSearch-taken far waiting left was node alike (here, (found, done)) =
        let idle = done-taken _ _ _ _ was _ done (IsHeld (λ k. k) left) node (slice_get_within (edges_from graph was))
        (λ u held. ⊎_elim (λ is. inr (eqb-true u node is)) inl (or_cases (eqb u node) (is_held (λ q. q) left u) (sym (alike u) ∙ held))) in
        (here, (found, idle))

    -- the edge at place i of the node is relaxed
    pub IsSearch-next : (far waiting new waits : List ℕ) (node i most : ℕ) (e : Edge) → ends_at_nodes graph ≡ true
        → slice_get (edges_from graph node) i ≡ Some e → Relaxes node e far waiting new waits
        → IsSearch far waiting node i × (left_to_do far waiting ≤ most) → IsSearch new waits node (i + 1) × (left_to_do new waits ≤ most)
    IsSearch-next far waiting new waits node i most e ends at (along, inl (same, alike)) ((here, (found, done)), less) =
        rw (same, alike) ((here, (found, done-next _ _ _ _ node i done (λ f f_at. let is : e ≡ f = cc in rw (← is) (rw same at along)))), less)
    IsSearch-next far waiting new waits node i most e ends at (along, inr by) ((here, found), less) =
        let t = min (slice_index far node + e.1) farthest in
        let nodes = edge_nodes ends node i e at in
        let now = IsFound-nearer node i nodes.1 by found (λ near.
        let (path, goes, sum) = found.0.1 node nodes.0 (omega (arith, near)) in
        (path ++ e ∷ [], walk-more (IsEdge graph) (λ f. f.0) source path node e goes (i, at), cost-append path e ∙ omega (arith, sum, near))) in
        let done = done-next _ _ _ _ node i now.1 (λ f f_at. let is : e ≡ f = cc in rw (← is) along) in
        let moved = sum_by-set (λ x. x) far e.0 t 0 (rw found.0.0 nodes.1) in
        ((omega (arith, falls node i nodes.1 by found source, here), (now.0, done)), rw by.now (omega (arith, moved, by.nearer, by.queued.1, less)))

    -- where no node waits, each distance is least
    pub IsSearch-least : (far waiting : List ℕ) (was : ℕ) → length waiting ≡ 0
        → IsSearch far waiting was (length (edges_from graph was)) → AreLeast graph source far
    IsSearch-least far waiting was none (here, (found, done)) v path goes =
        let idle = λ (q : ℕ) (held : IsHeld (λ k. k) waiting q). false≢true (rw (nil_from_length waiting none) at held) in
        let along = done-all _ _ _ _ was _ done (slice_get_within (edges_from graph was)) idle in
        let least = walk-each (IsEdge graph) (λ f. f.0) v (λ u rest. slice_index far v ≤ slice_index far u + cost rest) (omega arith)
        (λ u e rest goes least. omega (arith, along u goes.0 e goes.1 0, least)) path source goes in
        omega (arith, here, least)
