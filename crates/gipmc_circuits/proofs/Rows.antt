-- Values that hold a row, and the rows of a trace.
use Rattle.std.proofs.Common.{◌≡◌, ⊎_elim, ℕ, suc, ◌+◌, ◌≤◌, Bool, true, false, not, List, ◌∷◌, Some, Vec, length, map, get_or, arith, refl, sym, ap, subst, ◌∙◌}
use Rattle.std.specs.Prelude.{slice_get}
use Rattle.std.specs.declared.alloc.Global.{Global}
use Rattle.std.specs.Bool.{beq}
use Rattle.std.proofs.Math.ListN.{get_or-map}
use Rattle.std.proofs.lemmas.Bool.{cases_lt, false≢true}
use Rattle.std.proofs.lemmas.Option.{get_or_from_slice_get, slice_get_within}
use Rattle.gipsat_cnf.specs.Prelude.{AllBelow, Assignment, assignment_in}
use Rattle.gipsat_cnf.proofs.Places.{same_some}
use Rattle.gipmc_circuits.specs.Traces.{HoldsRow, HoldsRows}
use Rattle.gipmc_circuits.proofs.Traces.{followed_by, followed_by-new, followed_by-old}

-- the variable at the place, if there is one, has the value there
abbrev pub HoldsAt : Assignment → List ℕ → List Bool → ℕ → Type 0
HoldsAt a variables row k = (v : ℕ) → slice_get variables k ≡ Some v → a v ≡ assignment_in row k

not_differ : (x y : Bool) → not (beq x y) ≡ false → x ≡ y
not_differ true true e = refl
not_differ false false e = refl
not_differ true false e = absurd (false≢true (sym e))
not_differ false true e = absurd (false≢true (sym e))

-- one variable more has its value
pub holds_next : (a : Assignment) (variables : List ℕ) (row : List Bool) (n d : ℕ) (x y : Bool)
    → AllBelow n (HoldsAt a variables row) → x ≡ a (get_or variables n d) → y ≡ assignment_in row n → not (beq x y) ≡ false
    → AllBelow (n + 1) (HoldsAt a variables row)
holds_next a variables row n d x y old is wanted same k less =
    ⊎_elim (λ before. old k before)
    (λ last v at.
    let here : k ≡ n = omega (arith, less, last) in
    ap a (sym (get_or_from_slice_get variables n v d (subst (λ j. slice_get variables j ≡ Some v) here at)))
    ∙ sym is ∙ not_differ x y same ∙ wanted ∙ ap (assignment_in row) (sym here))
    (cases_lt k n)

pub holds_next_mapped : {X : Type 0} (f : X → ℕ) (a : Assignment) (items : List X) (row : List Bool) (n : ℕ) (d : X) (x y : Bool)
    → AllBelow n (HoldsAt a (map f items) row) → x ≡ a (f (get_or items n d)) → y ≡ assignment_in row n → not (beq x y) ≡ false
    → AllBelow (n + 1) (HoldsAt a (map f items) row)
holds_next_mapped f a items row n d x y old is wanted same =
    holds_next a (map f items) row n (f d) x y old (is ∙ ap a (sym (get_or-map f items n d))) wanted same

-- so they all have
pub holds_row : (a : Assignment) (variables : List ℕ) (row : List Bool) (n : ℕ) → length variables ≤ n
    → AllBelow n (HoldsAt a variables row) → HoldsRow a variables row
holds_row a variables row n past all k v at =
    let within = slice_get_within variables k v at in
    all k (omega (arith, past, within)) v at

-- the inputs have the values of the rows up to the place
abbrev pub HoldsRowsUpTo : ℕ → (ℕ → Assignment) → List ℕ → List (Vec Bool Global) → Type 0
HoldsRowsUpTo n t inputs rows =
    (i : ℕ) (row : Vec Bool Global) → i ≤ n → slice_get rows i ≡ Some row → HoldsRow (t i) inputs row.items

-- those of the first row
pub holds_first : (a : Assignment) (inputs : List ℕ) (rows rest : List (Vec Bool Global)) (first : Vec Bool Global)
    → rows ≡ first ∷ rest → HoldsRow a inputs first.items → HoldsRowsUpTo 0 (λ i. a) inputs rows
holds_first a inputs rows rest first split holds i row within at =
    let none : i ≡ 0 = omega (arith, within) in
    let same : first ≡ row = same_some first row (subst (λ j. slice_get (first ∷ rest) j ≡ Some row) none
    (subst (λ xs. slice_get xs i ≡ Some row) split at)) in
    subst (λ r. HoldsRow a inputs r.items) same holds

-- those of one more row
pub holds_more : (n : ℕ) (t : ℕ → Assignment) (b : Assignment) (inputs : List ℕ)
    (rows rest : List (Vec Bool Global)) (first last : Vec Bool Global)
    → rows ≡ first ∷ rest → last ≡ get_or rest n last → HoldsRowsUpTo n t inputs rows → HoldsRow b inputs last.items
    → HoldsRowsUpTo (n + 1) (followed_by b n t) inputs rows
holds_more n t b inputs rows rest first last split read old new i row within at =
    ⊎_elim
    (λ less. subst (λ a. HoldsRow a inputs row.items) (sym (followed_by-old b n t i (omega (arith, less)))) (old i row (omega (arith, less)) at))
    (λ more.
    let same : i ≡ suc n = omega (arith, within, more) in
    let next : i ≡ n + 1 = omega (arith, within, more) in
    let behind : slice_get rest n ≡ Some row = subst (λ j. slice_get (first ∷ rest) j ≡ Some row) same
    (subst (λ xs. slice_get xs i ≡ Some row) split at) in
    let here : last ≡ row = read ∙ get_or_from_slice_get rest n row last behind in
    subst (λ j. HoldsRow (followed_by b n t j) inputs row.items) (sym next)
    (subst (λ a. HoldsRow a inputs row.items) (sym (followed_by-new b n t)) (subst (λ r. HoldsRow b inputs r.items) here new)))
    (cases_lt i (n + 1))

-- those of all rows
pub holds_rows : (n : ℕ) (t : ℕ → Assignment) (inputs : List ℕ) (rows : List (Vec Bool Global)) → length rows ≡ n + 1
    → HoldsRowsUpTo n t inputs rows → HoldsRows t inputs rows
holds_rows n t inputs rows all holds i row at =
    let within = slice_get_within rows i row at in
    holds i row (omega (arith, all, within)) at
