-- An exclusive or of many, literal by literal.
use Rattle.std.proofs.Common.{◌≡◌, ℕ, ◌+◌, ◌<◌, ◌≤◌, Bool, List, [], ◌∷◌, ◌++◌, get_or, length, take, IsTrue, sym, ap, ◌∙◌, arith}
use Rattle.std.proofs.lemmas.List.{take_more}
use Rattle.gipsat_cnf.specs.Prelude.{Adds, AddsPart, AreBelow, Assignment, Formula, Lit, is_true, satisfies}
use Rattle.gipsat_cnf.proofs.Places.{none_some}
use Rattle.gipsat_encodings.specs.Extending.{Anything, Constrains, Defines, DefinesPart, Extends, SpeaksOf}
use Rattle.gipsat_encodings.specs.Gates.{HasParity, IsXor, differ, parity}
use Rattle.gipsat_encodings.proofs.Agreeing.{RestsBelow-more, is_true-agreeing, parity-agreeing}
use Rattle.gipsat_encodings.proofs.Counting.{parity-push}
use Rattle.gipsat_encodings.proofs.Extending.{Defines-output, Extends-adds, Extends-both, Extends-from, Extends-weaker, changed, changed-above, changed-below, is_true-plain, plain}
use Rattle.gipsat_encodings.proofs.Leaving.{AreBelow-more-first}

-- the first literals, and the one that stands behind them
pub taken : (literals : List Lit) (place : ℕ) (l : Lit) → place < length literals → l ≡ get_or literals place l
    → take (place + 1) literals ≡ take place literals ++ l ∷ []
taken literals place l within is = take_more literals place l within ∙ ap (λ x. take place literals ++ x ∷ []) (sym is)

-- an exclusive or of two is defined
pub Defines-xor : (n m : ℕ) (o sum l : Lit) (f g : Formula) → o ≡ plain n → m ≡ n + 1 → sum.variable < n → l.variable < n → Adds (IsXor o sum l) f g
    → Defines n m (IsXor o sum l) f g
Defines-xor n m o sum l f g same_o same_m sum_below l_below adds =
    Defines-output n m o (λ a. differ (is_true a sum) (is_true a l)) f g same_o same_m
    (λ a b same. ap (λ x. differ x (is_true a l)) (is_true-agreeing n a b sum same sum_below) ∙ ap (differ (is_true b sum)) (is_true-agreeing n a b l same l_below))
    adds

-- a part of its clauses leaves the models as they were
pub DefinesPart-xor : (n m : ℕ) (o sum l : Lit) (f g : Formula) → o ≡ plain n → m ≡ n + 1 → sum.variable < n → l.variable < n
    → AddsPart (IsXor o sum l) f g → SpeaksOf (o ∷ sum ∷ l ∷ []) f g → DefinesPart n m f g
DefinesPart-xor n m o sum l f g same_o same_m sum_below l_below part speaks =
    let variable : o.variable ≡ n = ap (λ x. x.variable) same_o in
    let value = λ (a : Assignment). differ (is_true a sum) (is_true a l) in
    record {
      up = omega (arith, same_m);
      sound = λ a sat. ((part a).0 sat, tt);
      complete = λ still a sat asked.
          let b = changed n a (λ v. value a) in
          let same = changed-below n a (λ v. value a) in
          let has : is_true b o ≡ value b =
          ap (is_true b) same_o ∙ is_true-plain b n ∙ changed-above n a (λ v. value a) n (omega arith)
          ∙ ap (λ x. differ x (is_true a l)) (is_true-agreeing n a b sum same sum_below) ∙ ap (differ (is_true b sum)) (is_true-agreeing n a b l same l_below)
          in
          (b, same, (part b).1 (still a b same sat) has);
      speaks = λ still.
          speaks m
          (AreBelow-more-first m o (sum ∷ l ∷ []) (omega (arith, variable, same_m))
          (AreBelow-more-first m sum (l ∷ []) (omega (arith, sum_below, same_m))
          (AreBelow-more-first m l [] (omega (arith, l_below, same_m)) (λ k x at. none_some x at))))
          (RestsBelow-more n m (λ a. IsTrue (satisfies a f)) (omega (arith, same_m)) still);
    }

-- what is defined, and a part of something else, leave them too
pub DefinesPart-then : (n k m : ℕ) (M : Assignment → Type 0) (f g h : Formula) → Defines n k M f g → DefinesPart k m g h → DefinesPart n m f h
DefinesPart-then n k m M f g h first then =
    Extends-weaker n m Anything Anything (λ a. M a × Anything a) Anything f h (λ a asked. tt) (λ a means. tt)
    (Extends-both n k m Anything Anything Anything M Anything f g h first then (λ a asked. tt) (λ a b same asked means. tt))

-- one literal more
pub Defines-next : (n k m : ℕ) (literals : List Lit) (place : ℕ) (o sum l : Lit) (f g h : Formula) → place < length literals → l ≡ get_or literals place l
    → Defines n k (λ a. is_true a sum ≡ parity a (take place literals)) f g → Defines k m (IsXor o sum l) g h
    → Defines n m (λ a. is_true a o ≡ parity a (take (place + 1) literals)) f h
Defines-next n k m literals place o sum l f g h within is before then =
    let S = λ (a : Assignment). is_true a sum ≡ parity a (take place literals) in
    Extends-weaker n m Anything Anything (λ a. S a × IsXor o sum l a) (λ a. is_true a o ≡ parity a (take (place + 1) literals)) f h (λ a asked. tt)
    (λ a (has, differs).
    differs ∙ ap (λ x. differ x (is_true a l)) has ∙ sym (parity-push a (take place literals) l) ∙ ap (parity a) (sym (taken literals place l within is)))
    (Extends-both n k m Anything Anything Anything S (IsXor o sum l) f g h before then (λ a asked. tt) (λ a b same asked means. tt))

-- the exclusive or of all has a value
pub Constrains-parity : (v n m : ℕ) (literals : List Lit) (odd : Bool) (sum : Lit) (f g h : Formula) → v ≤ n → AreBelow n literals → sum.variable < m
    → Defines n m (λ a. is_true a sum ≡ parity a literals) f g → Adds (λ a. is_true a sum ≡ odd) g h → Constrains v m (HasParity literals odd) f h
Constrains-parity v n m literals odd sum f g h up below sum_below defines adds =
    let S = λ (a : Assignment). is_true a sum ≡ parity a literals in
    let V = λ (a : Assignment). is_true a sum ≡ odd in
    let last : Extends m m V V g h = Extends-adds m V g h (λ a b same has. sym (is_true-agreeing m a b sum same sum_below) ∙ has) adds in
    Extends-from v n m (HasParity literals odd) (HasParity literals odd) f h up
    (Extends-weaker n m (HasParity literals odd) (HasParity literals odd) (λ a. S a × V a) (HasParity literals odd) f h (λ a asked. asked)
    (λ a (has, value). sym has ∙ value)
    (Extends-both n m m Anything V (HasParity literals odd) S V f g h defines last (λ a asked. tt)
    (λ a b same asked has. has ∙ sym (parity-agreeing n a b literals same below) ∙ asked)))
