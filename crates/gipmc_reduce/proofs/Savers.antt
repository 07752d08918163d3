-- The latches and gates of the circuit that saves widen the circuit: they are numbered, and stacked.
use Rattle.std.proofs.Common.{◌≡◌, ℕ, zero, suc, ◌+◌, ◌*◌, ◌<◌, ◌≤◌, ◌++◌, ◌&&◌, eqb, ltb, get_or, Bool, true, List, [], ◌∷◌, length, map, IsTrue, arith, refl, sym, ap, subst, ◌∙◌}
use Rattle.std.specs.List.{list_all}
use Rattle.std.proofs.lemmas.Bool.{and_from, and_parts, eq-eqb, eqb-true, lt-ltb, ltb-true}
use Rattle.std.proofs.lemmas.List.{length-append, length_push}
use Rattle.gipsat_cnf.specs.Literals.{Lit}
use Rattle.gipmc_circuits.specs.declared.circuit.And.{And}
use Rattle.gipmc_circuits.specs.declared.circuit.Circuit.{Circuit}
use Rattle.gipmc_circuits.specs.declared.circuit.Latch.{Latch}
use Rattle.gipmc_circuits.specs.Prelude.{IsWidened, are_numbered, are_stacked, gate_below, is_below, latch_below, latch_variables, literal_below}
use Rattle.gipmc_circuits.proofs.Agreeing.{below-parts}
use Rattle.gipmc_reduce.specs.Chains.{not_of, yes_of}
use Rattle.gipmc_reduce.specs.Saved.{IsSaving, first_gate, gate, latch, note, note_latches, notes, saver_gates, saver_latches, saving, shadow, shadow_latches, shadows}
use Rattle.gipmc_reduce.specs.Turns.{always}

-- the variables of the latches of a circuit below n are below it
pub variables_below : (n : ℕ) (ls : List Latch) → IsTrue (list_all (latch_below n) ls)
    → IsTrue (list_all (λ v. ltb v n) (map (λ l. l.variable) ls))
variables_below n [] all = refl
variables_below n (l ∷ ls) all =
    let (here, rest) = and_parts (latch_below n l) (list_all (latch_below n) ls) all in
    and_from (ltb l.variable n) (list_all (λ v. ltb v n) (map (λ m. m.variable) ls))
    (and_parts (ltb l.variable n) (literal_below n l.next) here).0 (variables_below n ls rest)

-- Gates that are stacked, and latches that are numbered, one list behind the other.

stacked-one : (g : And) (gates : List And) (n m : ℕ) → g.left.variable < n → g.right.variable < n → g.output ≡ n → m ≡ n + 1
    → IsTrue (are_stacked gates m) → IsTrue (are_stacked (g ∷ gates) n)
stacked-one g gates n m left right here next rest =
    and_from (literal_below n g.left && literal_below n g.right) (eqb g.output n && are_stacked gates (g.output + 1))
    (and_from (literal_below n g.left) (literal_below n g.right) (lt-ltb g.left.variable n left) (lt-ltb g.right.variable n right))
    (and_from (eqb g.output n) (are_stacked gates (g.output + 1)) (eq-eqb g.output n here)
    (subst (λ k. IsTrue (are_stacked gates k)) (next ∙ ap (λ k. k + 1) (sym here)) rest))

stacked-append : (gs hs : List And) (n : ℕ) → IsTrue (are_stacked gs n) → IsTrue (are_stacked hs (n + length gs))
    → IsTrue (are_stacked (gs ++ hs) n)
stacked-append [] hs n first then = let none : n + 0 ≡ n = omega arith in subst (λ k. IsTrue (are_stacked hs k)) none then
stacked-append (g ∷ gs) hs n first then =
    let (operands, others) = and_parts (literal_below n g.left && literal_below n g.right) (eqb g.output n && are_stacked gs (g.output + 1)) first in
    let (output, rest) = and_parts (eqb g.output n) (are_stacked gs (g.output + 1)) others in
    let place : n + suc (length gs) ≡ (g.output + 1) + length gs = at_place g.output n (length gs) (eqb-same g.output n output) in
    and_from (literal_below n g.left && literal_below n g.right) (eqb g.output n && are_stacked (gs ++ hs) (g.output + 1)) operands
    (and_from (eqb g.output n) (are_stacked (gs ++ hs) (g.output + 1)) output
    (stacked-append gs hs (g.output + 1) rest (subst (λ k. IsTrue (are_stacked hs k)) place then)))
  where
    eqb-same : (a b : ℕ) → IsTrue (eqb a b) → a ≡ b
    eqb-same a b is = eqb-true a b is

    at_place : (o n k : ℕ) → o ≡ n → n + suc k ≡ (o + 1) + k
    at_place o n k same = omega (arith, same)

numbered-append : (ls ms : List Latch) (n : ℕ) → IsTrue (are_numbered ls n) → IsTrue (are_numbered ms (n + length ls))
    → IsTrue (are_numbered (ls ++ ms) n)
numbered-append [] ms n first then = let none : n + 0 ≡ n = omega arith in subst (λ k. IsTrue (are_numbered ms k)) none then
numbered-append (l ∷ ls) ms n first then =
    let (here, rest) = and_parts (eqb l.variable n) (are_numbered ls (n + 1)) first in
    let place : n + suc (length ls) ≡ (n + 1) + length ls = omega arith in
    and_from (eqb l.variable n) (are_numbered (ls ++ ms) (n + 1)) here
    (numbered-append ls ms (n + 1) rest (subst (λ k. IsTrue (are_numbered ms k)) place then))

numbered-one : (x g n : ℕ) → x ≡ n → IsTrue (are_numbered (latch x g ∷ []) n)
numbered-one x g n same = and_from (eqb x n) true (eq-eqb x n same) refl

shadow_latches-length : (y b k : ℕ) → length (shadow_latches y b k) ≡ k
shadow_latches-length y b zero = refl
shadow_latches-length y b (suc k) =
    length_push (shadow_latches y b k) (latch (y + k) (b + 7 * k + 3)) ∙ ap (λ i. i + 1) (shadow_latches-length y b k) ∙ omega arith

note_latches-length : (z b k : ℕ) → length (note_latches z b k) ≡ k
note_latches-length z b zero = refl
note_latches-length z b (suc k) =
    length_push (note_latches z b k) (latch (z + k) (b + 3 * k + 2)) ∙ ap (λ i. i + 1) (note_latches-length z b k) ∙ omega arith

shadow_latches-numbered : (y b k : ℕ) → IsTrue (are_numbered (shadow_latches y b k) y)
shadow_latches-numbered y b zero = refl
shadow_latches-numbered y b (suc k) =
    numbered-append (shadow_latches y b k) (latch (y + k) (b + 7 * k + 3) ∷ []) y (shadow_latches-numbered y b k)
    (numbered-one (y + k) (b + 7 * k + 3) (y + length (shadow_latches y b k)) (ap (λ i. y + i) (sym (shadow_latches-length y b k))))

note_latches-numbered : (z b k : ℕ) → IsTrue (are_numbered (note_latches z b k) z)
note_latches-numbered z b zero = refl
note_latches-numbered z b (suc k) =
    numbered-append (note_latches z b k) (latch (z + k) (b + 3 * k + 2) ∷ []) z (note_latches-numbered z b k)
    (numbered-one (z + k) (b + 3 * k + 2) (z + length (note_latches z b k)) (ap (λ i. z + i) (sym (note_latches-length z b k))))

shadow-stacked : (s x y b : ℕ) → s ≤ b → x ≤ b → y ≤ b → IsTrue (are_stacked (shadow s x y b) (b + 1))
shadow-stacked s x y b saved kept here =
    let rest_7 = gate (b + 7) (yes_of b) (yes_of (b + 6)) ∷ [] in
    let rest_6 = gate (b + 6) (not_of (b + 4)) (not_of (b + 5)) ∷ rest_7 in
    let rest_5 = gate (b + 5) (not_of y) (yes_of x) ∷ rest_6 in
    let rest_4 = gate (b + 4) (yes_of y) (not_of x) ∷ rest_5 in
    let rest_3 = gate (b + 3) (not_of (b + 1)) (not_of (b + 2)) ∷ rest_4 in
    let rest_2 = gate (b + 2) (not_of s) (yes_of x) ∷ rest_3 in
    stacked-one (gate (b + 1) (yes_of s) (yes_of y)) rest_2 (b + 1) (b + 2) (omega (arith, saved)) (omega (arith, here)) refl (omega arith)
    (stacked-one (gate (b + 2) (not_of s) (yes_of x)) rest_3 (b + 2) (b + 3) (omega (arith, saved)) (omega (arith, kept)) refl (omega arith)
    (stacked-one (gate (b + 3) (not_of (b + 1)) (not_of (b + 2))) rest_4 (b + 3) (b + 4) (omega arith) (omega arith) refl (omega arith)
    (stacked-one (gate (b + 4) (yes_of y) (not_of x)) rest_5 (b + 4) (b + 5) (omega (arith, here)) (omega (arith, kept)) refl (omega arith)
    (stacked-one (gate (b + 5) (not_of y) (yes_of x)) rest_6 (b + 5) (b + 6) (omega (arith, here)) (omega (arith, kept)) refl (omega arith)
    (stacked-one (gate (b + 6) (not_of (b + 4)) (not_of (b + 5))) rest_7 (b + 6) (b + 7) (omega arith) (omega arith) refl (omega arith)
    (stacked-one (gate (b + 7) (yes_of b) (yes_of (b + 6))) [] (b + 7) (b + 8) (omega arith) (omega arith) refl (omega arith) refl))))))

note-stacked : (f z b : ℕ) (l : Lit) → f ≤ b → z ≤ b → l.variable ≤ b → IsTrue (are_stacked (note f l z b) (b + 1))
note-stacked f z b l outside here met =
    let rest_3 = gate (b + 3) (yes_of b) (yes_of z) ∷ [] in
    let rest_2 = gate (b + 2) (not_of z) (not_of (b + 1)) ∷ rest_3 in
    stacked-one (gate (b + 1) (not_of f) l) rest_2 (b + 1) (b + 2) (omega (arith, outside)) (omega (arith, met)) refl (omega arith)
    (stacked-one (gate (b + 2) (not_of z) (not_of (b + 1))) rest_3 (b + 2) (b + 3) (omega (arith, here)) (omega arith) refl (omega arith)
    (stacked-one (gate (b + 3) (yes_of b) (yes_of z)) [] (b + 3) (b + 4) (omega arith) (omega (arith, here)) refl (omega arith) refl))

pub at_below : (xs : List ℕ) (k n : ℕ) → 0 < n → IsTrue (list_all (λ v. ltb v n) xs) → get_or xs k 0 < n
at_below [] k n some all = some
at_below (x ∷ xs) zero n some all = ltb-true x n (and_parts (ltb x n) (list_all (λ v. ltb v n) xs) all).0
at_below (x ∷ xs) (suc k) n some all = at_below xs k n some (and_parts (ltb x n) (list_all (λ v. ltb v n) xs) all).1

pub lit_below : (ls : List Lit) (k n : ℕ) → 0 < n → IsTrue (list_all (literal_below n) ls) → IsTrue (literal_below n (get_or ls k always))
lit_below [] k n some all = lt-ltb 0 n some
lit_below (l ∷ ls) zero n some all = (and_parts (literal_below n l) (list_all (literal_below n) ls) all).0
lit_below (l ∷ ls) (suc k) n some all = lit_below ls k n some (and_parts (literal_below n l) (list_all (literal_below n) ls) all).1

shadows-length : (s y b : ℕ) (xs : List ℕ) (k : ℕ) → length (shadows s y b xs k) ≡ 7 * k
shadows-length s y b xs zero = refl
shadows-length s y b xs (suc k) =
    length-append (shadows s y b xs k) (shadow s (get_or xs k 0) (y + k) (b + 7 * k))
    ∙ ap (λ n. n + 7) (shadows-length s y b xs k) ∙ omega arith

notes-length : (f z b : ℕ) (ls : List Lit) (k : ℕ) → length (notes f z b ls k) ≡ 3 * k
notes-length f z b ls zero = refl
notes-length f z b ls (suc k) =
    length-append (notes f z b ls k) (note f (get_or ls k always) (z + k) (b + 3 * k))
    ∙ ap (λ n. n + 3) (notes-length f z b ls k) ∙ omega arith

shadows-stacked : (s y b n : ℕ) (xs : List ℕ) (k : ℕ) → 0 < n → s ≤ b → n ≤ b → y + k ≤ b → IsTrue (list_all (λ v. ltb v n) xs)
    → IsTrue (are_stacked (shadows s y b xs k) (b + 1))
shadows-stacked s y b n xs zero some saved old room all = refl
shadows-stacked s y b n xs (suc k) some saved old room all =
    let kept = at_below xs k n some all in
    let place : b + 7 * k + 1 ≡ b + 1 + length (shadows s y b xs k) = omega (arith, shadows-length s y b xs k) in
    stacked-append (shadows s y b xs k) (shadow s (get_or xs k 0) (y + k) (b + 7 * k)) (b + 1)
    (shadows-stacked s y b n xs k some saved old (omega (arith, room)) all)
    (subst (λ i. IsTrue (are_stacked (shadow s (get_or xs k 0) (y + k) (b + 7 * k)) i)) place
    (shadow-stacked s (get_or xs k 0) (y + k) (b + 7 * k) (omega (arith, saved)) (omega (arith, kept, old)) (omega (arith, room))))

notes-stacked : (f z b n : ℕ) (ls : List Lit) (k : ℕ) → 0 < n → f ≤ b → n ≤ b → z + k ≤ b → IsTrue (list_all (literal_below n) ls)
    → IsTrue (are_stacked (notes f z b ls k) (b + 1))
notes-stacked f z b n ls zero some outside old room all = refl
notes-stacked f z b n ls (suc k) some outside old room all =
    let l = get_or ls k always in
    let met = ltb-true l.variable n (lit_below ls k n some all) in
    let place : b + 3 * k + 1 ≡ b + 1 + length (notes f z b ls k) = omega (arith, notes-length f z b ls k) in
    stacked-append (notes f z b ls k) (note f l (z + k) (b + 3 * k)) (b + 1)
    (notes-stacked f z b n ls k some outside old (omega (arith, room)) all)
    (subst (λ i. IsTrue (are_stacked (note f l (z + k) (b + 3 * k)) i)) place
    (note-stacked f (z + k) (b + 3 * k) l (omega (arith, outside)) (omega (arith, room)) (omega (arith, met, old))))

saver_latches-numbered : (n : ℕ) (xs : List ℕ) (ls : List Lit) → IsTrue (are_numbered (saver_latches n xs ls) (n + 1))
saver_latches-numbered n xs ls =
    let f = first_gate n (length xs) (length ls) in
    let S = shadow_latches (n + 2) (f + 1) (length xs) in
    let N = note_latches (n + 2 + length xs) (f + 1 + 7 * length xs) (length ls) in
    let two : n + 2 ≡ (n + 1) + 1 = omega arith in
    and_from (eqb (n + 1) (n + 1)) (are_numbered (S ++ N) ((n + 1) + 1)) (eq-eqb (n + 1) (n + 1) refl)
    (subst (λ k. IsTrue (are_numbered (S ++ N) k)) two
    (numbered-append S N (n + 2) (shadow_latches-numbered (n + 2) (f + 1) (length xs))
    (subst (λ k. IsTrue (are_numbered N (n + 2 + k))) (sym (shadow_latches-length (n + 2) (f + 1) (length xs)))
    (note_latches-numbered (n + 2 + length xs) (f + 1 + 7 * length xs) (length ls)))))

saver_latches-length : (n : ℕ) (xs : List ℕ) (ls : List Lit) → n + 1 + length (saver_latches n xs ls) ≡ first_gate n (length xs) (length ls)
saver_latches-length n xs ls =
    let f = first_gate n (length xs) (length ls) in
    let S = shadow_latches (n + 2) (f + 1) (length xs) in
    let N = note_latches (n + 2 + length xs) (f + 1 + 7 * length xs) (length ls) in
    let all : length (S ++ N) ≡ length xs + length ls =
    length-append S N ∙ ap (λ k. k + length N) (shadow_latches-length (n + 2) (f + 1) (length xs))
    ∙ ap (λ k. length xs + k) (note_latches-length (n + 2 + length xs) (f + 1 + 7 * length xs) (length ls)) in
    omega (arith, all)

saving-stacked : (n f : ℕ) → n + 1 < f → IsTrue (are_stacked (saving n (n + 1) f) f)
saving-stacked n f room =
    stacked-one (gate f (not_of (n + 1)) (not_of n)) (gate (f + 1) (yes_of (n + 1)) (yes_of (n + 1)) ∷ []) f (f + 1)
    (omega (arith, room)) (omega (arith, room)) refl refl
    (stacked-one (gate (f + 1) (yes_of (n + 1)) (yes_of (n + 1))) [] (f + 1) (f + 2) (omega (arith, room)) (omega (arith, room))
    refl (omega arith) refl)

saver_gates-stacked : (n : ℕ) (xs : List ℕ) (ls : List Lit) → 0 < n → IsTrue (list_all (λ v. ltb v n) xs)
    → IsTrue (list_all (literal_below n) ls) → IsTrue (are_stacked (saver_gates n xs ls) (first_gate n (length xs) (length ls)))
saver_gates-stacked n xs ls some variables literals =
    let f = first_gate n (length xs) (length ls) in
    let S = shadows (n + 1) (n + 2) (f + 1) xs (length xs) in
    let N = notes f (n + 2 + length xs) (f + 1 + 7 * length xs) ls (length ls) in
    let two : f + 1 + 1 ≡ f + 2 = omega arith in
    let behind : f + 1 + 7 * length xs + 1 ≡ f + 2 + length S =
    omega (arith, shadows-length (n + 1) (n + 2) (f + 1) xs (length xs)) in
    stacked-append (saving n (n + 1) f) (S ++ N) f (saving-stacked n f (omega arith))
    (stacked-append S N (f + 2)
    (subst (λ k. IsTrue (are_stacked S k)) two
    (shadows-stacked (n + 1) (n + 2) (f + 1) n xs (length xs) some (omega arith) (omega arith) (omega arith) variables))
    (subst (λ k. IsTrue (are_stacked N k)) behind
    (notes-stacked f (n + 2 + length xs) (f + 1 + 7 * length xs) n ls (length ls) some (omega arith) (omega arith) (omega arith) literals)))

pub IsWidened-saving : (n : ℕ) (c : Circuit) (e : Circuit) (ls : List Lit) → IsSaving n c e ls → IsTrue (is_below n c)
    → IsTrue (list_all (literal_below n) ls) → IsWidened (n + 1) c e
IsWidened-saving n c e ls is below within =
    let parts = below-parts n c below in
    let xs = latch_variables c in
    record {
      more_latches = saver_latches n xs ls;
      more_gates = saver_gates n xs ls;
      latches = is.latches;
      gates = is.gates;
      constraints = is.constraints;
      numbered = saver_latches-numbered n xs ls;
      stacked =
          subst (λ k. IsTrue (are_stacked (saver_gates n xs ls) k)) (sym (saver_latches-length n xs ls))
          (saver_gates-stacked n xs ls parts.some (variables_below n c.latches.items parts.latches) within);
    }

-- A circuit below n is below the next number.

all-weaker : {X : Type 0} (p q : X → Bool) (xs : List X) → ((x : X) → IsTrue (p x) → IsTrue (q x)) → IsTrue (list_all p xs)
    → IsTrue (list_all q xs)
all-weaker p q [] weaker all = refl
all-weaker p q (x ∷ xs) weaker all =
    let (here, rest) = and_parts (p x) (list_all p xs) all in
    and_from (q x) (list_all q xs) (weaker x here) (all-weaker p q xs weaker rest)

ltb-more : (v n : ℕ) → IsTrue (ltb v n) → IsTrue (ltb v (n + 1))
ltb-more v n is = let less = ltb-true v n is in lt-ltb v (n + 1) (omega (arith, less))

latch-more : (n : ℕ) (l : Latch) → IsTrue (latch_below n l) → IsTrue (latch_below (n + 1) l)
latch-more n l is =
    let (first, next) = and_parts (ltb l.variable n) (literal_below n l.next) is in
    and_from (ltb l.variable (n + 1)) (literal_below (n + 1) l.next) (ltb-more l.variable n first) (ltb-more l.next.variable n next)

gate-more : (n : ℕ) (g : And) → IsTrue (gate_below n g) → IsTrue (gate_below (n + 1) g)
gate-more n g is =
    let (output, operands) = and_parts (ltb g.output n) (literal_below n g.left && literal_below n g.right) is in
    let (left, right) = and_parts (literal_below n g.left) (literal_below n g.right) operands in
    and_from (ltb g.output (n + 1)) (literal_below (n + 1) g.left && literal_below (n + 1) g.right) (ltb-more g.output n output)
    (and_from (literal_below (n + 1) g.left) (literal_below (n + 1) g.right) (ltb-more g.left.variable n left) (ltb-more g.right.variable n right))

pub is_below-more : (n : ℕ) (c : Circuit) → IsTrue (is_below n c) → IsTrue (is_below (n + 1) c)
is_below-more n c is =
    let parts = below-parts n c is in
    let m = n + 1 in
    let inputs = list_all (λ v. ltb v m) c.inputs.items in
    let latches = list_all (latch_below m) c.latches.items in
    let gates = list_all (gate_below m) c.gates.items in
    let bads = list_all (literal_below m) c.bads.items in
    let constraints = list_all (literal_below m) c.constraints.items in
    and_from (ltb 0 m) (inputs && (latches && (gates && (bads && constraints)))) (lt-ltb 0 m (omega (arith, parts.some)))
    (and_from inputs (latches && (gates && (bads && constraints)))
    (all-weaker (λ v. ltb v n) (λ v. ltb v m) c.inputs.items (λ v less. ltb-more v n less) parts.inputs)
    (and_from latches (gates && (bads && constraints))
    (all-weaker (latch_below n) (latch_below m) c.latches.items (latch-more n) parts.latches)
    (and_from gates (bads && constraints) (all-weaker (gate_below n) (gate_below m) c.gates.items (gate-more n) parts.gates)
    (and_from bads constraints
    (all-weaker (literal_below n) (literal_below m) c.bads.items (λ l less. ltb-more l.variable n less) parts.bads)
    (all-weaker (literal_below n) (literal_below m) c.constraints.items (λ l less. ltb-more l.variable n less) parts.constraints)))))
