-- No clause that a text writes has a variable past those of the text.
use Rattle.std.proofs.Common.{◌≡◌, ◌+◌, ◌-◌, ◌<◌, ◌≤◌, max, ℕ, zero, suc, Bool, true, false, List, [], ◌∷◌, ◌++◌, length, map, drop, ◌==◌, if◌then◌else◌, nat_le, IfSome, ⊎_elim, refl, sym, ap, subst, unwrap_or, arith}
use Rattle.std.specs.Prelude.{Option, Some, None, ⊤}
use Rattle.std.specs.Option.{option_and_then, option_map}
use Rattle.std.proofs.lemmas.Bool.{cases_Bool}
use Rattle.gipsat_cnf.proofs.Places.{none_some}
use Rattle.gipsat_cnf.specs.Prelude.{AreAllBelow, AreBelow, Clause, Formula, Lit}
use Rattle.gipsat_dimacs.specs.Inputs.{OfProblem}
use Rattle.gipsat_dimacs.specs.Texts.{Problem, Word, begins, clause_words, clauses_after, goes_on, header_of, is_header, item_of, literal_of, minus, number_of, problem_after, problem_begun, problem_by, problem_headed, problem_in, problem_with, says, signed_item, variable_limit, variables_with, word_lines}
use Rattle.gipsat_dimacs.specs.declared.rule.HeaderRule.{HeaderRule}
use Rattle.gipsat_dimacs.specs.declared.rule.HeaderRule.TheVariants.{Strict, Relaxed}
use Rattle.gipsat_cnf.specs.declared.dimacs.Item.{Item}
use Rattle.gipsat_cnf.specs.declared.dimacs.Item.TheVariants.{Literal, End}
use Rattle.gipsat_answers.specs.Assumed.{assuming, units}

module _ (n : ℕ) where
  pub AreBelow-none : AreBelow n []
  AreBelow-none = λ k l at. none_some l at

  pub AreBelow-cons : (l : Lit) (clause : Clause) → l.variable < n → AreBelow n clause → AreBelow n (l ∷ clause)
  AreBelow-cons l clause less below zero m at =
      let same : l ≡ m = ap (λ o. unwrap_or o l) at in subst (λ o. o.variable < n) same less
  AreBelow-cons l clause less below (suc k) m at = below k m at

  pub AreBelow-append : (first last : Clause) → AreBelow n first → AreBelow n last → AreBelow n (first ++ last)
  AreBelow-append [] last one other = other
  AreBelow-append (l ∷ first) last one other =
      AreBelow-cons l (first ++ last) (one zero l refl) (AreBelow-append first last (λ k m at. one (suc k) m at) other)

  AreAllBelow-none : AreAllBelow n []
  AreAllBelow-none = λ k clause at. none_some clause at

  AreAllBelow-cons : (clause : Clause) (f : Formula) → AreBelow n clause → AreAllBelow n f → AreAllBelow n (clause ∷ f)
  AreAllBelow-cons clause f one below zero d at =
      let same : clause ≡ d = ap (λ o. unwrap_or o clause) at in subst (AreBelow n) same one
  AreAllBelow-cons clause f one below (suc k) d at = below k d at

  pub AreAllBelow-append : (f g : Formula) → AreAllBelow n f → AreAllBelow n g → AreAllBelow n (f ++ g)
  AreAllBelow-append [] g one other = other
  AreAllBelow-append (clause ∷ f) g one other =
      AreAllBelow-cons clause (f ++ g) (one zero clause refl) (AreAllBelow-append f g (λ k d at. one (suc k) d at) other)

  AreAllBelow-units : (literals : List Lit) → AreBelow n literals → AreAllBelow n (units literals)
  AreAllBelow-units [] below = AreAllBelow-none
  AreAllBelow-units (l ∷ literals) below =
      AreAllBelow-cons (l ∷ []) (units literals) (AreBelow-cons l [] (below zero l refl) AreBelow-none)
      (AreAllBelow-units literals (λ k m at. below (suc k) m at))

  -- the literal that an item is, if it is one, has such a variable
  abbrev IsItemBelow : Option Item → Type 0
  IsItemBelow None = ⊤
  IsItemBelow (Some (Literal l)) = l.variable < n
  IsItemBelow (Some End) = ⊤

  abbrev AreItemsBelow : List (Option Item) → Type 0
  AreItemsBelow [] = ⊤
  AreItemsBelow (item ∷ items) = IsItemBelow item × AreItemsBelow items

  -- where this holds of a problem, if there is one
  abbrev AreClausesBelow : Option Formula → Type 0
  AreClausesBelow found = IfSome found (AreAllBelow n)

  clause-more : (found : Option Formula) (clause : Clause) → AreBelow n clause → AreClausesBelow found
      → AreClausesBelow (option_map (λ clauses. clause ∷ clauses) found)
  clause-more None clause one below = tt
  clause-more (Some f) clause one below = AreAllBelow-cons clause f one below

  clauses-below : (begun : Clause) (items : List (Option Item)) → AreBelow n begun → AreItemsBelow items
      → AreClausesBelow (clauses_after begun items)
  clauses-below begun [] one below =
      ⊎_elim (λ (none : (length begun == 0) ≡ true). subst (λ b. AreClausesBelow (if b then Some [] else None)) (sym none) AreAllBelow-none)
      (λ (some : (length begun == 0) ≡ false). subst (λ b. AreClausesBelow (if b then Some [] else None)) (sym some) tt)
      (cases_Bool (length begun == 0))
  clauses-below begun (None ∷ items) one below = tt
  clauses-below begun (Some (Literal l) ∷ items) one (less, below) =
      clauses-below (begun ++ l ∷ []) items (AreBelow-append begun (l ∷ []) one (AreBelow-cons l [] less AreBelow-none)) below
  clauses-below begun (Some End ∷ items) one (ends, below) =
      clause-more (clauses_after [] items) begun one (clauses-below [] items AreBelow-none below)

-- a number up to so many is a literal of one of so many variables
literal-below : (variables : ℕ) (positive : Bool) (number : ℕ) → IsItemBelow variables (literal_of variables positive (suc number))
literal-below variables positive number =
    ⊎_elim (λ (within : nat_le (suc number) variables ≡ true).
    subst (λ b. IsItemBelow variables (if b then Some (Literal (record { variable = suc number - 1; positive = positive })) else None))
    (sym within) (grind (arith, within)))
    (λ (past : nat_le (suc number) variables ≡ false).
    subst (λ b. IsItemBelow variables (if b then Some (Literal (record { variable = suc number - 1; positive = positive })) else None)) (sym past) tt)
    (cases_Bool (nat_le (suc number) variables))

signed-below : (variables : ℕ) (positive : Bool) (number : ℕ) → IsItemBelow variables (signed_item variables positive number)
signed-below variables positive zero = tt
signed-below variables positive (suc number) =
    let some : (suc number == 0) ≡ false = grind arith in rw some (literal-below variables positive number)

number-below : (variables : ℕ) (positive : Bool) (found : Option ℕ)
    → IsItemBelow variables (option_and_then (signed_item variables positive) found)
number-below variables positive None = tt
number-below variables positive (Some number) = signed-below variables positive number

item-below : (variables : ℕ) (word : Word) → IsItemBelow variables (item_of variables word)
item-below variables word =
    ⊎_elim (λ (negative : begins minus word ≡ true). rw negative (number-below variables false (number_of (drop 1 word))))
    (λ (positive : begins minus word ≡ false). rw positive (number-below variables true (number_of word)))
    (cases_Bool (begins minus word))

items-below : (variables : ℕ) (words : List Word) → AreItemsBelow variables (map (item_of variables) words)
items-below variables [] = tt
items-below variables (word ∷ words) = (item-below variables word, items-below variables words)

-- each literal counts for how many variables there are
with-least : (variables : ℕ) (items : List (Option Item)) → variables ≤ variables_with variables items
with-least variables [] = omega arith
with-least variables (None ∷ items) = with-least variables items
with-least variables (Some (Literal l) ∷ items) =
    let least = with-least (max variables (l.variable + 1)) items in omega (arith, least)
with-least variables (Some End ∷ items) = with-least variables items

with-below : (variables : ℕ) (items : List (Option Item)) → AreItemsBelow (variables_with variables items) items
with-below variables [] = tt
with-below variables (None ∷ items) = (tt, with-below variables items)
with-below variables (Some (Literal l) ∷ items) =
    let least = with-least (max variables (l.variable + 1)) items in
    (omega (arith, least), with-below (max variables (l.variable + 1)) items)
with-below variables (Some End ∷ items) = (tt, with-below variables items)

-- no clause of a problem has a variable past its own
abbrev pub IsNamed : Option Problem → Type 0
IsNamed found = IfSome found (λ problem. AreAllBelow problem.variables problem.clauses)

strict-named : (variables count found : ℕ) (clauses : Option Formula) → AreClausesBelow variables clauses
    → IsNamed (option_and_then (problem_with Strict variables count found) clauses)
strict-named variables count found None below = tt
strict-named variables count found (Some f) below =
    ⊎_elim (λ (same : (length f == count) ≡ true). rw same below) (λ (other : (length f == count) ≡ false). rw other tt)
    (cases_Bool (length f == count))

relaxed-named : (variables count found : ℕ) (clauses : Option Formula) → AreClausesBelow found clauses
    → IsNamed (option_and_then (problem_with Relaxed variables count found) clauses)
relaxed-named variables count found None below = tt
relaxed-named variables count found (Some f) below = below

after-named : (rule : HeaderRule) (words : List Word) (header : Option (ℕ × ℕ)) → IsNamed (problem_after rule words header)
after-named rule words None = tt
after-named Strict words (Some (variables, count)) =
    let items = map (item_of variables) words in
    strict-named variables count (variables_with variables items) (clauses_after [] items)
    (clauses-below variables [] items (AreBelow-none variables) (items-below variables words))
after-named Relaxed words (Some (variables, count)) =
    let items = map (item_of (variable_limit Relaxed variables)) words in
    let found = variables_with variables items in
    relaxed-named variables count found (clauses_after [] items)
    (clauses-below found [] items (AreBelow-none found) (with-below variables items))

headed-named : (rule : HeaderRule) (header : List Word) (lines : List (List Word)) → IsNamed (problem_headed rule header lines)
headed-named rule header [] = after-named rule [] (header_of header)
headed-named rule header (line ∷ lines) =
    ⊎_elim (λ (more : goes_on header ≡ true). rw more (headed-named rule (header ++ line) lines))
    (λ (ends : goes_on header ≡ false). rw ends (after-named rule (clause_words (line ∷ lines)) (header_of header)))
    (cases_Bool (goes_on header))

begun-named : (rule : HeaderRule) (line : List Word) (lines : List (List Word)) → IsNamed (problem_begun rule line lines)
begun-named rule line lines =
    ⊎_elim (λ (heads : is_header rule line ≡ true). rw heads (headed-named rule line lines))
    (λ (lacks : is_header rule line ≡ false). rw lacks (after-named rule (clause_words (line ∷ lines)) (Some (0, 0))))
    (cases_Bool (is_header rule line))

lines-named : (rule : HeaderRule) (lines : List (List Word)) → IsNamed (problem_in rule lines)
lines-named rule [] = begun-named rule [] []
lines-named rule (line ∷ lines) =
    ⊎_elim (λ (speaks : says line ≡ true). rw speaks (begun-named rule line lines))
    (λ (silent : says line ≡ false). rw silent (lines-named rule lines))
    (cases_Bool (says line))

-- no clause that a text writes has a variable past those of the text
pub text-named : (rule : HeaderRule) (text : List ℕ) → IsNamed (problem_by rule text)
text-named rule text = lines-named rule (word_lines text)

-- nor does one of an input, where the input writes a problem
pub input-below : (rule : HeaderRule) (input : Option (List ℕ))
    → OfProblem rule input (λ problem. AreAllBelow problem.variables problem.clauses)
input-below rule None = tt
input-below rule (Some text) = text-named rule text

assumed-named : (found : Option Problem) (variables : ℕ) (clauses : Formula) (assumed : List Lit)
    → found ≡ Some (record { variables = variables; clauses = clauses }) → IsNamed found → AreBelow variables assumed
    → IfSome found (λ problem. AreAllBelow problem.variables (assuming assumed problem).clauses)
assumed-named None variables clauses assumed is named below = tt
assumed-named (Some problem) variables clauses assumed is named below =
    let same : problem.variables ≡ variables = ap (λ o. (unwrap_or o problem).variables) is in
    AreAllBelow-append problem.variables problem.clauses (units assumed) named
    (AreAllBelow-units problem.variables assumed (subst (λ n. AreBelow n assumed) (sym same) below))

-- the same where literals are assumed that are of the text's variables
pub input-named : (rule : HeaderRule) (input : Option (List ℕ)) (variables : ℕ) (clauses : Formula) (assumed : List Lit)
    → IfSome input (λ text. problem_by rule text ≡ Some (record { variables = variables; clauses = clauses }))
    → AreBelow variables assumed
    → OfProblem rule input (λ problem. AreAllBelow problem.variables (assuming assumed problem).clauses)
input-named rule None variables clauses assumed writes below = tt
input-named rule (Some text) variables clauses assumed writes below =
    assumed-named (problem_by rule text) variables clauses assumed writes (text-named rule text) below
