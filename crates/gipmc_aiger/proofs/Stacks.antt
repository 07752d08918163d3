-- Gates that wait in a search in depth.
use Rattle.std.proofs.Common.{◌≡◌, ⊎_elim, ℕ, zero, suc, ◌++◌, ◌||◌, IsTrue, eqb, Bool, true, false, List, [], ◌∷◌, length, set, slice_get, Some, refl, sym, ap, subst, ◌∙◌, append_assoc, append-nil, replicate, take, drop, arith}
use Rattle.std.proofs.lemmas.Bool.{cases_Bool, eqb-true, eq-eqb, false≢true}
use Rattle.std.proofs.Math.ListN.{drop_of_length-le}
use Rattle.std.proofs.lemmas.List.{get_or-set_other, take_all}
use Rattle.gipmc_aiger.specs.Prelude.{AddsGateOf, Every, HasOutput, IsCycleIn, IsOpenAt, IsStack, Leads, MeetsOpen, Uses, UsesOnce, uses, visit_at}
use Rattle.gipmc_circuits.specs.declared.circuit.And.{And}
use Rattle.gipmc_aiger.specs.declared.error.Defect.{Defect}
use Rattle.gipmc_aiger.specs.declared.error.Defect.TheVariants as defect
use Rattle.gipmc_aiger.specs.declared.order.Visit.{Visit}
use Rattle.gipmc_aiger.specs.declared.order.Visit.TheVariants as visit

-- a slice that was lent comes back
pub lent_back : {X : Type 0} (new old : List X) (len : ℕ) → length new ≡ length old → len ≡ length old
    → take len (new ++ drop (length new) old) ≡ new
lent_back new old len same all =
    let none : drop (length new) old ≡ [] = drop_of_length-le old (omega arith) in
    ap (λ xs. take len (new ++ xs)) none ∙ ap (take len) (append-nil new) ∙ take_all len new (omega arith)

-- what stands before the last item, where another one is found in the list
pub split_last : {X : Type 0} (xs ys zs : List X) (x y : X) → xs ++ x ∷ [] ≡ ys ++ y ∷ zs → (y ≡ x → ⊥)
    → (rest : List X) × (zs ≡ rest ++ x ∷ []) × (xs ≡ ys ++ y ∷ rest)
split_last [] [] zs x y same other = let e : y ≡ x = cc in absurd (other e)
split_last (a ∷ xs) [] zs x y same other =
    let e : zs ≡ xs ++ x ∷ [] = cc in
    let f : a ∷ xs ≡ y ∷ xs = cc in
    (xs, e, f)
split_last [] (b ∷ []) zs x y same other = let e : [] ≡ y ∷ zs = cc in absurd (cc)
split_last [] (b ∷ c ∷ ys) zs x y same other = let e : [] ≡ c ∷ (ys ++ y ∷ zs) = cc in absurd (cc)
split_last (a ∷ xs) (b ∷ ys) zs x y same other =
    let e : xs ++ x ∷ [] ≡ ys ++ y ∷ zs = cc in
    let h : a ≡ b = cc in
    let (rest, front, all) = split_last xs ys zs x y e other in
    let f : a ∷ xs ≡ b ∷ (ys ++ y ∷ rest) = cc in
    (rest, front, f)

Every-front : {X : Type 0} (P : X → Type 0) (xs ys : List X) → Every P (xs ++ ys) → Every P xs
Every-front P [] ys all = tt
Every-front P (x ∷ xs) ys (p, all) = (p, Every-front P xs ys all)

Every-append : {X : Type 0} (P : X → Type 0) (xs ys : List X) → Every P xs → Every P ys → Every P (xs ++ ys)
Every-append P [] ys all more = more
Every-append P (x ∷ xs) ys (p, all) more = (p, Every-append P xs ys all more)

Every-last : {X : Type 0} (P : X → Type 0) (xs : List X) (x : X) → Every P (xs ++ x ∷ []) → P x
Every-last P [] x (p, all) = p
Every-last P (y ∷ xs) x (p, all) = Every-last P xs x all

Every-map : {X : Type 0} (P Q : X → Type 0) (xs : List X) → ((x : X) → P x → Q x) → Every P xs → Every Q xs
Every-map P Q [] step all = tt
Every-map P Q (x ∷ xs) step (p, all) = (step x p, Every-map P Q xs step all)

open_not_done : (v : Visit) (d : ℕ) → v ≡ visit.Open → v ≡ visit.Done d → ⊥
open_not_done v d o e = absurd (cc)

-- a gate that is done is not open
pub done_not_open : (visits : List Visit) (place d : ℕ) → visit_at (set visits place (visit.Done d)) place ≡ visit.Open → ⊥
done_not_open [] place d e = absurd (cc)
done_not_open (v ∷ visits) zero d e = absurd (cc)
done_not_open (v ∷ visits) (suc place) d e = done_not_open visits place d e

pub uses_left : (g : And) → IsTrue (uses g g.output g.left.variable)
uses_left g = rw (eq-eqb g.output g.output refl, eq-eqb g.left.variable g.left.variable refl) refl

pub uses_right : (g : And) → IsTrue (uses g g.output g.right.variable)
uses_right g =
    rw (eq-eqb g.output g.output refl, eq-eqb g.right.variable g.right.variable refl) (or_true (eqb g.left.variable g.right.variable))
  where
    or_true : (b : Bool) → (b || true) ≡ true
    or_true true = refl
    or_true false = refl

module _ (gates : List And) where
  Uses-append : (n m v u w : ℕ) → Uses gates n v u → Uses gates m u w → (k : ℕ) × Uses gates k v w
  Uses-append zero m v u w same more = (m, subst (λ t. Uses gates m t w) (sym same) more)
  Uses-append (suc n) m v u w (t, once, before) more =
      let (k, all) = Uses-append n m t u w before more in (suc k, (t, once, all))

  pub Uses-more : (n v u w : ℕ) → Uses gates n v u → UsesOnce gates u w → Uses gates (suc n) v w
  Uses-more zero v u w same once = (w, subst (λ t. UsesOnce gates t w) (sym same) once, refl)
  Uses-more (suc n) v u w (t, first, before) once = (t, first, Uses-more n t u w before once)

  pub same_output : (p v w : ℕ) → HasOutput gates p v → HasOutput gates p w → v ≡ w
  same_output p v w (g, at, is) (h, at', is') =
      let same : g ≡ h = cc in sym is ∙ ap (λ (x : And). x.output) same ∙ is'

  pub Leads-refl : (p v : ℕ) → HasOutput gates p v → Leads gates p p
  Leads-refl p v at = (0, v, v, at, at, refl)

  pub Leads-trans : (p q r : ℕ) → Leads gates p q → Leads gates q r → Leads gates p r
  Leads-trans p q r (n, v, u, from, via, uses) (m, u', w, via', to, uses') =
      let same : u' ≡ u = same_output q u' u via' via in
      let (k, all) = Uses-append n m v u w uses (subst (λ t. Uses gates m t w) same uses') in
      (k, v, w, from, to, all)

  -- a gate leads to that of an operand
  pub Leads-once : (p q w : ℕ) (g : And) → slice_get gates p ≡ Some g → IsTrue (uses g g.output w)
      → HasOutput gates q w → Leads gates p q
  Leads-once p q w g at is to =
      (1, g.output, w, (g, at, refl), to, (w, (p, g, at, is), refl))

  module _ (visits : List Visit) (front : List ℕ) (place : ℕ) (stack : IsStack gates visits (front ++ place ∷ [])) where
    -- what is open, and is another gate, leads to the last one
    found : (q : ℕ) → visit_at visits q ≡ visit.Open → (q ≡ place → ⊥)
        → (below : List ℕ) × (above : List ℕ) × (front ≡ below ++ q ∷ above) × Every (Leads gates q) above
        × Leads gates q place
    found q is_open other =
        let (below, above, split, all) = stack q is_open in
        let (rest, last, before) = split_last front below above place q split other in
        let leads = subst (λ xs. Every (Leads gates q) xs) last all in
        (below, rest, before, Every-front (Leads gates q) rest (place ∷ []) leads, Every-last (Leads gates q) rest place leads)

    -- the last one no longer waits, and is not open
    pub popped : (visits' : List Visit)
        → ((q : ℕ) → visit_at visits' q ≡ visit.Open → (visit_at visits q ≡ visit.Open) × (q ≡ place → ⊥))
        → IsStack gates visits' front
    popped visits' only q is_open =
        let (was, other) = only q is_open in
        let (below, above, split, all, leads) = found q was other in
        (below, above, split, all)

    other_place : (q : ℕ) → eqb q place ≡ false → q ≡ place → ⊥
    other_place q other e = false≢true (sym other ∙ eq-eqb q place e)

    was_open : (q : ℕ) → (q ≡ place → ⊥) → visit_at (set visits place visit.Open) q ≡ visit.Open
        → visit_at visits q ≡ visit.Open
    was_open q other is_open =
        sym (get_or-set_other visits place q visit.Open (visit.Done 0) other) ∙ is_open

    -- what is open once the last one is, leads to that one
    pub leads_last : (v : ℕ) → HasOutput gates place v → (q : ℕ) → visit_at (set visits place visit.Open) q ≡ visit.Open
        → Leads gates q place
    leads_last v at q is_open =
        ⊎_elim
        (λ same. subst (λ (p : ℕ). Leads gates p place) (sym (eqb-true q place same)) (Leads-refl place v at))
        (λ other. let (below, above, split, all, leads) = found q (was_open q (other_place q other) is_open) (other_place q other) in leads)
        (cases_Bool (eqb q place))

    -- the last one is open, and what it depends on waits
    pub opened : (children : List ℕ) → Every (Leads gates place) children
        → IsStack gates (set visits place visit.Open) ((front ++ place ∷ []) ++ children)
    opened children kids q is_open =
        ⊎_elim
        (λ same.
        let is = eqb-true q place same in (
          front,
          children,
          subst (λ (p : ℕ). (front ++ place ∷ []) ++ children ≡ front ++ p ∷ children) (sym is) (append_assoc front (place ∷ []) children),
          subst (λ (p : ℕ). Every (Leads gates p) children) (sym is) kids,
        ))
        (λ other.
        let not_last = other_place q other in
        let (below, above, split, all, leads) = found q (was_open q not_last is_open) not_last in
        let text : (front ++ place ∷ []) ++ children ≡ below ++ q ∷ (above ++ (place ∷ children)) =
        append_assoc front (place ∷ []) children ∙ ap (λ xs. xs ++ place ∷ children) split
        ∙ append_assoc below (q ∷ above) (place ∷ children) in (
          below,
          above ++ place ∷ children,
          text,
          Every-append (Leads gates q) above (place ∷ children) all
              (leads, Every-map (Leads gates place) (Leads gates q) children (λ c way. Leads-trans q place c leads way) kids),
        ))
        (cases_Bool (eqb q place))

    -- the last one is done
    pub closed : (d : ℕ) → IsStack gates (set visits place (visit.Done d)) front
    closed d =
        popped (set visits place (visit.Done d))
        (λ q is_open.
        let other : q ≡ place → ⊥ = λ e. done_not_open visits place d
        (subst (λ (p : ℕ). visit_at (set visits place (visit.Done d)) p ≡ visit.Open) e is_open) in
        (sym (get_or-set_other visits place q (visit.Done d) (visit.Done 0) other) ∙ is_open, other))

    -- the last one was done before
    pub passed : (d : ℕ) → visit_at visits place ≡ visit.Done d → IsStack gates visits front
    passed d done =
        popped visits
        (λ q is_open. (is_open, λ e. open_not_done (visit_at visits place) d (subst (λ (p : ℕ). visit_at visits p ≡ visit.Open) e is_open) done))

  -- an operand's gate is open, and so its gate depends on itself
  pub cyclic : (visits : List Visit) (front : List ℕ) (place : ℕ) → IsStack gates visits (front ++ place ∷ [])
      → (g : And) → slice_get gates place ≡ Some g → (w : ℕ) → IsTrue (uses g g.output w)
      → IsOpenAt gates (set visits place visit.Open) w
      → (more : ℕ) × Uses gates (suc more) w w
  cyclic visits front place stack g at w is (q, is_open, from) =
      let (n, v, u, from', to, uses) = leads_last visits front place stack g.output (g, at, refl) q is_open in
      let start : v ≡ w = same_output q v w from' from in
      let end : u ≡ g.output = same_output place u g.output to (g, at, refl) in
      let way = subst (λ t. Uses gates n t g.output) start (subst (λ t. Uses gates n v t) end uses) in
      (n, Uses-more n w g.output w way (place, g, at, is))

  -- the same of a defect
  pub meets : (visits : List Visit) (front : List ℕ) (place : ℕ) → IsStack gates visits (front ++ place ∷ [])
      → (g : And) → slice_get gates place ≡ Some g → (w : ℕ) → IsTrue (uses g g.output w) → (d : Defect)
      → MeetsOpen gates (set visits place visit.Open) w d → IsCycleIn gates d
  meets visits front place stack g at w is defect.Memory found = tt
  meets visits front place stack g at w is (defect.Twice v) found = absurd found
  meets visits front place stack g at w is (defect.Undefined v) found = absurd found
  meets visits front place stack g at w is (defect.Cycle v) (same, open_at) =
      subst (λ u. (more : ℕ) × Uses gates (suc more) u u) (sym same) (cyclic visits front place stack g at w is open_at)

  kids_of : (place : ℕ) (g : And) → slice_get gates place ≡ Some g → (w : ℕ) → IsTrue (uses g g.output w)
      → (added : List ℕ) → Every (λ q. HasOutput gates q w) added → Every (Leads gates place) added
  kids_of place g at w is added all =
      Every-map (λ q. HasOutput gates q w) (Leads gates place) added (λ q to. Leads-once place q w g at is to) all

  -- a gate is open, and the gates of its operands wait
  pub opened_both : (visits : List Visit) (front : List ℕ) (place : ℕ) → IsStack gates visits (front ++ place ∷ [])
      → (g : And) → slice_get gates place ≡ Some g → (one two : List ℕ)
      → AddsGateOf gates g.left.variable (front ++ place ∷ []) one → AddsGateOf gates g.right.variable one two
      → IsStack gates (set visits place visit.Open) two
  opened_both visits front place stack g at one two (left, first, lefts) (right, second, rights) =
      let kids = Every-append (Leads gates place) left right (kids_of place g at g.left.variable (uses_left g) left lefts)
      (kids_of place g at g.right.variable (uses_right g) right rights) in
      let all : (front ++ place ∷ []) ++ (left ++ right) ≡ two =
      sym (second ∙ ap (λ xs. xs ++ right) first ∙ append_assoc (front ++ place ∷ []) left right) in
      subst (λ xs. IsStack gates (set visits place visit.Open) xs) all (opened visits front place stack (left ++ right) kids)

  -- nothing is open, and one waits
  pub begun : (visits : List Visit) (root : ℕ) → IsStack gates visits [] → IsStack gates visits (root ∷ [])
  begun visits root stack q is_open = let (below, above, split, all) = stack q is_open in absurd (none_left below q above split)
    where
      none_left : (below : List ℕ) (q : ℕ) (above : List ℕ) → [] ≡ below ++ q ∷ above → ⊥
      none_left [] q above e = absurd (cc)
      none_left (b ∷ below) q above e = absurd (cc)

  -- at first nothing is open
  pub fresh : (n : ℕ) → IsStack gates (replicate n visit.New) []
  fresh n q is_open = absurd (not_open n q is_open)
    where
      not_open : (n q : ℕ) → visit_at (replicate n visit.New) q ≡ visit.Open → ⊥
      not_open zero q e = absurd (cc)
      not_open (suc n) zero e = absurd (cc)
      not_open (suc n) (suc q) e = not_open n q e
