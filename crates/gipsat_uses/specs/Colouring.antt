-- Graphs whose vertices are coloured, as values of variables: one for each vertex and colour.
use Rattle.std.specs.Prelude.{◌≡◌, ℕ, ◌+◌, ◌*◌, ◌<◌, List, length, slice_get, Some, true, IsTrue}
use Rattle.gipsat_cnf.specs.Prelude.{AllBelow, Assignment, Lit}

-- the variable that a vertex has a colour, as a literal
abbrev pub has_colour : ℕ → ℕ → ℕ → Lit
has_colour colours vertex colour = record { variable = vertex * colours + colour; positive = true }

-- the vertex has the colour
abbrev pub HasColour : ℕ → Assignment → ℕ → ℕ → Type 0
HasColour colours a vertex colour = IsTrue (a (vertex * colours + colour))

-- the vertex has one of the colours
abbrev pub IsColoured : ℕ → Assignment → ℕ → Type 0
IsColoured colours a vertex = (colour : ℕ) × (colour < colours) × HasColour colours a vertex colour

-- the ends of an edge have no colour in common
abbrev pub EndsDiffer : ℕ → ℕ × ℕ → Assignment → Type 0
EndsDiffer colours edge a =
    AllBelow colours (λ colour. HasColour colours a edge.0 colour → ¬ (HasColour colours a edge.1 colour))

-- those of the edge at a place, if there is one
abbrev pub EndsDifferAt : ℕ → List (ℕ × ℕ) → Assignment → ℕ → Type 0
EndsDifferAt colours edges a place = (edge : ℕ × ℕ) → slice_get edges place ≡ Some edge → EndsDiffer colours edge a

-- each vertex has a colour, and the ends of each edge have none in common
abbrev pub IsColouring : ℕ → List (ℕ × ℕ) → ℕ → Assignment → Type 0
IsColouring vertices edges colours a =
    AllBelow vertices (IsColoured colours a) × AllBelow (length edges) (EndsDifferAt colours edges a)
