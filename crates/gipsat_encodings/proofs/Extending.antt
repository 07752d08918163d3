-- How formulas grow: step by step, by clauses with and without variables of their own.
use Rattle.std.proofs.Common.{◌≡◌, ◌↔◌, ℕ, ◌+◌, ◌≤◌, Bool, true, false, cond, ltb, IsTrue, refl, sym, ap, ◌∙◌, arith}
use Rattle.std.specs.Bool.{beq}
use Rattle.std.proofs.lemmas.Bool.{lt-ltb, le-ltb, false≢true}
use Rattle.gipsat_cnf.specs.Prelude.{Adds, Assignment, Formula, Lit, is_true, satisfies}
use Rattle.gipsat_cnf.proofs.Encodings.{Adds-same}
use Rattle.gipsat_encodings.specs.Extending.{AgreeBelow, Anything, Constrains, ConstrainsPart, Defines, Extends, RestsBelow, SpeaksBelow}
use Rattle.gipsat_encodings.proofs.Agreeing.{AgreeBelow-both, AgreeBelow-less, AgreeBelow-refl, RestsBelow-more, SpeaksBelow-adds, is_true-agreeing}

-- a formula that stays has what its models have
pub Extends-none : (n : ℕ) (M : Assignment → Type 0) (f : Formula) → ((a : Assignment) → M a) → Extends n n Anything M f f
Extends-none n M f each = record {
  up = omega arith;
  sound = λ a sat. (sat, each a);
  complete = λ speaks a sat asked. (a, AgreeBelow-refl n a, sat);
  speaks = λ speaks. speaks;
}

-- clauses with no variables of their own
pub Extends-adds : (n : ℕ) (M : Assignment → Type 0) (f g : Formula) → RestsBelow n M → Adds M f g → Constrains n n M f g
Extends-adds n M f g rests adds = record {
  up = omega arith;
  sound = λ a sat. (adds a).0 sat;
  complete = λ speaks a sat asked. (a, AgreeBelow-refl n a, (adds a).1 (sat, asked));
  speaks = SpeaksBelow-adds n n M f g (omega arith) adds rests;
}

-- less is asked, or more is meant
pub Extends-weaker : (n m : ℕ) (A B M N : Assignment → Type 0) (f g : Formula) → ((a : Assignment) → B a → A a) → ((a : Assignment) → M a → N a)
    → Extends n m A M f g → Extends n m B N f g
Extends-weaker n m A B M N f g asks means extends = record {
  up = extends.up;
  sound = λ a sat. let (was, m) = extends.sound a sat in (was, means a m);
  complete = λ speaks a sat asked. extends.complete speaks a sat (asks a asked);
  speaks = extends.speaks;
}

-- the variables between are left out
pub Extends-from : (n k m : ℕ) (A M : Assignment → Type 0) (f g : Formula) → n ≤ k → Extends k m A M f g → Extends n m A M f g
Extends-from n k m A M f g up extends =
    let more = λ (speaks : SpeaksBelow n f). RestsBelow-more n k (λ a. IsTrue (satisfies a f)) up speaks in
    let above = extends.up in
    record {
      up = omega (arith, up, above);
      sound = extends.sound;
      complete = λ speaks a sat asked. let (b, same, is) = extends.complete (more speaks) a sat asked in (b, AgreeBelow-less n k a b up same, is);
      speaks = λ speaks. extends.speaks (more speaks);
    }

-- First the one, then the other: what the second asks follows from what is asked in all and from what the first means.
pub Extends-both : (n k m : ℕ) (A B C M N : Assignment → Type 0) (f g h : Formula) → Extends n k A M f g → Extends k m B N g h
    → ((a : Assignment) → C a → A a) → ((a b : Assignment) → AgreeBelow n a b → C a → M b → B b) → Extends n m C (λ a. M a × N a) f h
Extends-both n k m A B C M N f g h first then asks asks_then =
    let up = first.up in
    let above = then.up in
    record {
      up = omega (arith, up, above);
      sound = λ a sat. let (mid, is) = then.sound a sat in let (was, has) = first.sound a mid in (was, (has, is));
      complete = λ speaks a sat asked.
          let (b, same, mid) = first.complete speaks a sat (asks a asked) in
          let (c, alike, is) = then.complete (first.speaks speaks) b mid (asks_then a b same asked (first.sound b mid).1) in
          (c, AgreeBelow-both n k a b c up same alike, is);
      speaks = λ speaks. then.speaks (first.speaks speaks);
    }

-- the variable itself
abbrev pub plain : ℕ → Lit
plain v = record { variable = v; positive = true }

-- the assignment, but for the values from n on, which the other one gives
abbrev pub changed : ℕ → Assignment → Assignment → Assignment
changed n a values v = cond (ltb v n) (a v) (values v)

pub changed-below : (n : ℕ) (a values : Assignment) → AgreeBelow n a (changed n a values)
changed-below n a values v less = rw (lt-ltb v n less) refl

pub changed-above : (n : ℕ) (a values : Assignment) (v : ℕ) → n ≤ v → changed n a values v ≡ values v
changed-above n a values v from = rw (le-ltb v n from) refl

pub is_true-plain : (a : Assignment) (v : ℕ) → is_true a (plain v) ≡ a v
is_true-plain a v = same (a v)
  where
    same : (x : Bool) → beq x true ≡ x
    same true = refl
    same false = refl

-- a variable of its own is defined
pub Defines-output : (n m : ℕ) (o : Lit) (value : Assignment → Bool) (f g : Formula) → o ≡ plain n → m ≡ n + 1
    → ((a b : Assignment) → AgreeBelow n a b → value a ≡ value b) → Adds (λ a. is_true a o ≡ value a) f g → Defines n m (λ a. is_true a o ≡ value a) f g
Defines-output n m o value f g same_o same_m rests adds =
    let variable : o.variable ≡ n = ap (λ x. x.variable) same_o in
    record {
      up = omega arith;
      sound = λ a sat. (adds a).0 sat;
      complete = λ speaks a sat asked.
          let b = changed n a (λ v. value a) in
          let same = changed-below n a (λ v. value a) in
          let has : is_true b o ≡ value b =
          ap (is_true b) same_o ∙ is_true-plain b n ∙ changed-above n a (λ v. value a) n (omega arith) ∙ rests a b same
          in
          (b, same, (adds b).1 (speaks a b same sat, has));
      speaks = SpeaksBelow-adds n m (λ a. is_true a o ≡ value a) f g (omega arith) adds (λ a b same has.
          sym (is_true-agreeing m a b o same (omega arith)) ∙ has ∙ rests a b (AgreeBelow-less n m a b (omega arith) same));
    }

-- what is meant is the same
pub Constrains-same : (n m : ℕ) (M N : Assignment → Type 0) (f g : Formula) → ((a : Assignment) → M a ↔ N a) → Constrains n m M f g → Constrains n m N f g
Constrains-same n m M N f g same = Extends-weaker n m M N M N f g (λ a. (same a).1) (λ a. (same a).0)

pub ConstrainsPart-same : (n m : ℕ) (M N : Assignment → Type 0) (f g : Formula) → ((a : Assignment) → M a ↔ N a) → ConstrainsPart n m M f g
    → ConstrainsPart n m N f g
ConstrainsPart-same n m M N f g same = Extends-weaker n m M N Anything Anything f g (λ a. (same a).1) (λ a any. any)

-- every assignment has it, and no clause is added
pub Constrains-always : (n : ℕ) (M : Assignment → Type 0) (f : Formula) → ((a : Assignment) → M a) → Constrains n n M f f
Constrains-always n M f each = Extends-weaker n n Anything M M M f f (λ a is. tt) (λ a is. is) (Extends-none n M f each)

-- no assignment has it, and the clause that nothing satisfies is added
pub Constrains-never : (n : ℕ) (M : Assignment → Type 0) (f g : Formula) → ((a : Assignment) → M a → ⊥) → Adds (λ a. IsTrue false) f g → Constrains n n M f g
Constrains-never n M f g none adds =
    Extends-adds n M f g (λ a b same is. absurd (none a is))
    (Adds-same (λ a. IsTrue false) M f g (λ a. (λ is. absurd (false≢true is), λ is. absurd (none a is))) adds)
