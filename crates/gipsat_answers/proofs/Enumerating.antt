-- Models one after another: what is written so far, and what is to come.
use Rattle.std.proofs.Common.{◌≡◌, ◌≢◌, ◌+◌, ◌-◌, ◌<◌, ◌≤◌, ℕ, zero, suc, Bool, false, ◌==◌, List, [], ◌∷◌, ◌++◌, IsTrue, refl, sym, ap, ◌∙◌, subst, inl, inr, ⊎_elim, arith}
use Rattle.std.specs.Prelude.{Option, Some, None, codes, Result, Ok, Err, IfOk, OnOk}
use Rattle.gipsat_answers.specs.Answers.{problem_of}
use Rattle.std.specs.Io.KnownBytes.{Appends}
use Rattle.std.proofs.lemmas.List.{append_assoc, append-nil}
use Rattle.gipsat_cnf.specs.Prelude.{Assignment, Formula, IsSatisfiable, Lit, satisfies}
use Rattle.gipsat_cnf.proofs.Formulas.{satisfies-first}
use Rattle.gipsat_dimacs.specs.Texts.{Problem}
use Rattle.gipsat_answers.specs.Enumeration.{IsModelsText, IsOpen, IsRightVerdict, WritesModels, WritesNext, differing, first_verdict, model_text, with_clause}
use Rattle.gipsat_answers.specs.declared.answers.Verdict.{Verdict}
use Rattle.gipsat_answers.specs.declared.answers.Verdict.TheVariants.{Satisfiable, Unsatisfiable, Unknown, Stopped}

pub Appends-join : (x y z : Option (List ℕ)) (s t : List ℕ) → Appends x y s → Appends y z t → Appends x z (s ++ t)
Appends-join None y z s t first then = tt
Appends-join (Some xs) None z s t first then = absurd first
Appends-join (Some xs) (Some ys) None s t first then = absurd then
Appends-join (Some xs) (Some ys) (Some zs) s t first then = then ∙ ap (λ l. l ++ t) first ∙ append_assoc xs s t

pub Appends-none : (x : Option (List ℕ)) → Appends x x []
Appends-none None = tt
Appends-none (Some xs) = sym (append-nil xs)

-- what was written so far, and what is left to write, are together what n models of a problem ask for
pub record Leads (witness : Bool) (projection : List Lit) (limit n : ℕ) (problem : Problem) (old : Option (List ℕ))
    (left : ℕ) (formula : Formula) (now : Option (List ℕ)) : Type 0 where
  pub on : (learned : ℕ) (stop : Bool) (new : Option (List ℕ))
      → WritesModels witness projection (IsOpen limit learned stop) left (record problem { clauses = formula }) now new
      → WritesModels witness projection (IsOpen limit learned stop) n problem old new
  pub more : (extra : Formula) × (formula ≡ problem.clauses ++ extra)
  pub first : left ≡ n → formula ≡ problem.clauses
  pub found : left < n → IsSatisfiable problem.clauses

module _ (witness : Bool) (projection : List Lit) (limit n : ℕ) (problem : Problem) (old : Option (List ℕ)) where
  -- before the first one
  pub Leads-begin : Leads witness projection limit n problem old n problem.clauses old
  Leads-begin = record {
    on = λ learned stop new writes. writes;
    more = ([], sym (append-nil problem.clauses));
    first = λ same. refl;
    found = λ less. absurd (omega (arith, less));
  }

  -- a model more
  pub Leads-more : (left : ℕ) (formula next : Formula) (now then : Option (List ℕ)) (Open : Type 0)
      → Leads witness projection limit n problem old (suc left) formula now → suc left ≤ n
      → WritesNext witness projection Open (record problem { clauses = formula }) Satisfiable next now then
      → Leads witness projection limit n problem old left next then
  Leads-more left formula next now then Open leads within (a, sat, wrote, is) = record {
    on = λ learned stop new (text, tells, writes).
        leads.on learned stop new (
          model_text witness a (record problem { clauses = formula }) ++ text,
          inl (a, sat, (text, refl, subst (λ f. IsModelsText witness projection (IsOpen limit learned stop) left (record problem { clauses = f }) text) is tells)),
          Appends-join now then new (model_text witness a (record problem { clauses = formula })) text wrote writes,
        );
    more = (
      leads.more.0 ++ differing a projection ∷ [],
      is ∙ ap (λ f. f ++ differing a projection ∷ []) leads.more.1 ∙ append_assoc problem.clauses leads.more.0 (differing a projection ∷ []),
    );
    first = λ same. absurd (omega (arith, same, within));
    found = λ less. (a, satisfies-first a problem.clauses leads.more.0 (subst (λ f. IsTrue (satisfies a f)) leads.more.1 sat));
  }

  -- the last answer, which is no model
  pub Leads-last : (left : ℕ) (formula next : Formula) (now new : Option (List ℕ)) (last : Verdict) (learned : ℕ) (stop : Bool)
      → Leads witness projection limit n problem old (suc left) formula now → last ≢ Satisfiable
      → WritesNext witness projection (IsOpen limit learned stop) (record problem { clauses = formula }) last next now new
      → WritesModels witness projection (IsOpen limit learned stop) n problem old new
  Leads-last left formula next now new Satisfiable learned stop leads other writes = absurd (other refl)
  Leads-last left formula next now new Unsatisfiable learned stop leads other (none, writes) =
      leads.on learned stop new (codes "s UNSATISFIABLE\n", inr (inl (none, refl)), writes)
  Leads-last left formula next now new Unknown learned stop leads other (is_open, writes) =
      leads.on learned stop new (codes "s UNKNOWN\n", inr (inr (is_open, refl)), writes)
  Leads-last left formula next now new Stopped learned stop leads other (is_open, writes) =
      leads.on learned stop new (codes "s UNKNOWN\n", inr (inr (is_open, refl)), writes)

  -- one of n models more, behind so many that were found
  pub Leads-step : (found : ℕ) (formula next : Formula) (now then : Option (List ℕ)) (Open : Type 0) → found < n
      → Leads witness projection limit n problem old (n - found) formula now
      → WritesNext witness projection Open (record problem { clauses = formula }) Satisfiable next now then
      → Leads witness projection limit n problem old (n - (found + 1)) next then
  Leads-step found formula next now then Open less leads writes =
      let same : n - found ≡ suc (n - (found + 1)) = omega arith in
      Leads-more (n - (found + 1)) formula next now then Open
      (subst (λ left. Leads witness projection limit n problem old left formula now) same leads) (omega arith) writes

  -- the last answer behind so many models
  pub Leads-last-step : (found : ℕ) (formula next : Formula) (now new : Option (List ℕ)) (last : Verdict) (learned : ℕ) (stop : Bool)
      → found < n → Leads witness projection limit n problem old (n - found) formula now → last ≢ Satisfiable
      → WritesNext witness projection (IsOpen limit learned stop) (record problem { clauses = formula }) last next now new
      → WritesModels witness projection (IsOpen limit learned stop) n problem old new
  Leads-last-step found formula next now new last learned stop less leads other writes =
      let same : n - found ≡ suc (n - (found + 1)) = omega arith in
      Leads-last (n - (found + 1)) formula next now new last learned stop
      (subst (λ left. Leads witness projection limit n problem old left formula now) same leads) other writes

  -- all are written
  pub Leads-end : (formula : Formula) (new : Option (List ℕ)) (learned : ℕ) (stop : Bool)
      → Leads witness projection limit n problem old 0 formula new
      → WritesModels witness projection (IsOpen limit learned stop) n problem old new
  Leads-end formula new learned stop leads = leads.on learned stop new ([], refl, Appends-none new)

  -- the verdict is the first one
  pub first-right : (left models : ℕ) (formula next : Formula) (now new : Option (List ℕ)) (last : Verdict) (Open : Type 0)
      → left + models ≡ n → Leads witness projection limit n problem old left formula now
      → WritesNext witness projection Open (record problem { clauses = formula }) last next now new
      → IsRightVerdict problem (first_verdict models last)
  first-right left zero formula next now new Satisfiable Open sum leads (a, sat, wrote, is) =
      (a, subst (λ f. IsTrue (satisfies a f)) (leads.first (omega (arith, sum))) sat)
  first-right left zero formula next now new Unsatisfiable Open sum leads (none, writes) =
      subst (λ f. ¬ (IsSatisfiable f)) (leads.first (omega (arith, sum))) none
  first-right left zero formula next now new Unknown Open sum leads writes = tt
  first-right left zero formula next now new Stopped Open sum leads writes = tt
  first-right left (suc models) formula next now new last Open sum leads writes =
      let none : (suc models == 0) ≡ false = grind arith in
      rw none (leads.found (omega (arith, sum)))

  -- that of all models
  pub all-right : (models : ℕ) (formula : Formula) (now : Option (List ℕ)) → models ≡ n
      → Leads witness projection limit n problem old 0 formula now → IsRightVerdict problem (first_verdict models Unknown)
  all-right zero formula now same leads = tt
  all-right (suc models) formula now same leads =
      let none : (suc models == 0) ≡ false = grind arith in rw none (leads.found (omega (arith, same)))

-- a model was written and excluded, if nothing failed
pub WritesNext-model : {E : Type 0} (witness : Bool) (projection : List Lit) (Open : Type 0) (variables : ℕ) (f same : Formula) (next : Formula)
    (r : Result Verdict E) (a : Assignment) (old new : Option (List ℕ)) → same ≡ f → IsTrue (satisfies a f)
    → IfOk r (λ verdict. verdict ≡ Satisfiable) → OnOk r (Appends old new (model_text witness a (problem_of variables same)))
    → OnOk r (next ≡ same ++ differing a projection ∷ [])
    → IfOk r (λ verdict. WritesNext witness projection Open (problem_of variables f) verdict next old new)
WritesNext-model witness projection Open variables f same next (Ok verdict) a old new as_before sat is wrote excluded =
    subst (λ v. WritesNext witness projection Open (problem_of variables f) v next old new) (sym is)
    (a, sat, wrote, subst (λ g. next ≡ g ++ differing a projection ∷ []) as_before excluded)
WritesNext-model witness projection Open variables f same next (Err e) a old new as_before sat is wrote excluded = tt

-- what is open in one sense is open in a wider one
IsModelsText-wider : (witness : Bool) (projection : List Lit) (Open Wider : Type 0) (n : ℕ) (problem : Problem) (text : List ℕ)
    → (Open → Wider) → IsModelsText witness projection Open n problem text → IsModelsText witness projection Wider n problem text
IsModelsText-wider witness projection Open Wider zero problem text wider none = none
IsModelsText-wider witness projection Open Wider (suc n) problem text wider tells =
    ⊎_elim (λ (a, sat, (rest, is, more)). inl (a, sat, (rest, is, IsModelsText-wider witness projection Open Wider n (with_clause problem (differing a projection)) rest wider more)))
    (λ others. ⊎_elim (λ ended. inr (inl ended)) (λ (is_open, is). inr (inr (wider is_open, is))) others) tells

pub WritesModels-wider : (witness : Bool) (projection : List Lit) (Open Wider : Type 0) (n : ℕ) (problem : Problem) (old new : Option (List ℕ))
    → (Open → Wider) → WritesModels witness projection Open n problem old new → WritesModels witness projection Wider n problem old new
WritesModels-wider witness projection Open Wider n problem old new wider (text, tells, appends) =
    (text, IsModelsText-wider witness projection Open Wider n problem text wider tells, appends)
