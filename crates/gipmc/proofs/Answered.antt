-- What answers say of the properties.
use Rattle.std.proofs.Common.{◌≡◌, ◌∙◌, ⊎_elim, ◌⊎◌, inl, inr, ℕ, zero, suc, ◌<◌, List, [], ◌∷◌, ◌++◌, ap, arith}
use Rattle.std.proofs.Common.{length, refl, subst, sym}
use Rattle.std.proofs.lemmas.Bool.{cases_lt}
use Rattle.std.proofs.lemmas.Option.{same_Some, slice_get_within}
use Rattle.gipsat_cnf.specs.Literals.{Lit}
use Rattle.gipmc_aiger.specs.declared.problem.Problem.{Problem}
use Rattle.gipmc_aiger.specs.declared.problem.Property.{Property}
use Rattle.gipmc_aiger.specs.declared.problem.Property.TheVariants.{Bad, Justice}
use Rattle.gipmc_aiger.specs.declared.problem.Subject.{Subject}
use Rattle.gipmc_aiger.specs.declared.problem.Subject.TheVariants.{All, Any, One}
use Rattle.gipmc_circuits.specs.Circuit.{FailsAfter, IsSafe}
use Rattle.gipmc_circuits.specs.declared.circuit.Circuit.{Circuit}
use Rattle.gipmc_reduce.specs.Liveness.{FailsForever, IsLive}
use Rattle.gipmc_aiger.specs.Lists.{Every}
use Rattle.gipmc_task.proofs.Once.{of_each}
use Rattle.gipmc_task.proofs.Outcomes.{both-assoc, both-none, together-one}
use Rattle.gipmc_task.specs.Answers as bads
use Rattle.gipmc_task.specs.Answers.{TellsAll, TellsFirst, TellsOne}
use Rattle.gipmc_task.specs.Justice.Answers as justice
use Rattle.gipmc_task.specs.Outcomes.{both}
use Rattle.gipmc_task.specs.Verdicts.{outcome_of, place_of, places_of, together}
use Rattle.gipmc_task.specs.declared.answered.Answered.{Answered}
use Rattle.gipmc_task.specs.declared.outcome.Outcome.{Outcome}
use Rattle.gipmc_task.specs.declared.outcome.Outcome.TheVariants.{Fails, Safe, Open}
use Rattle.gipmc_task.specs.declared.output.AnswerOrder.{AnswerOrder}
use Rattle.gipmc_task.specs.declared.output.AnswerOrder.TheVariants.{Known, Places}
use Rattle.gipmc_task.specs.declared.verdict.Verdict.{Verdict}
use Rattle.gipmc_task.specs.declared.verdict.Verdict.TheVariants as verdict
use Rattle.gipmc.specs.Asked.{Has, Holds, IsAbout, IsFailing, IsRightOutcome}

-- of two, both hold, or one fails
both-safe : (one other : Outcome) → both one other ≡ Safe → (one ≡ Safe) × (other ≡ Safe)
both-safe Safe other is = (refl, is)
both-safe Fails other is = absurd cc
both-safe Open Fails is = absurd cc
both-safe Open Safe is = absurd cc
both-safe Open Open is = absurd cc

both-fails : (one other : Outcome) → both one other ≡ Fails → (one ≡ Fails) ⊎ (other ≡ Fails)
both-fails Fails other is = inl refl
both-fails Safe other is = inr is
both-fails Open Fails is = inr refl
both-fails Open Safe is = absurd cc
both-fails Open Open is = absurd cc

-- of one, and of others that hold
both-first : (one other outcome : Outcome) → other ≡ Safe → outcome ≡ both one other → outcome ≡ one
both-first one other outcome safe is = is ∙ ap (both one) safe ∙ both-none one

-- of some answers and one more
together-more : (answers : List Answered) (a : Answered)
    → together (answers ++ a ∷ []) ≡ both (together answers) (outcome_of a.verdict)
together-more [] a = both-none (outcome_of a.verdict)
together-more (b ∷ answers) a =
    ap (both (outcome_of b.verdict)) (together-more answers a)
    ∙ sym (both-assoc (outcome_of b.verdict) (together answers) (outcome_of a.verdict))

-- a bad literal of which is known that it is safe, or that it fails
known-safe : (c : Circuit) (bad : Lit) (v : Verdict) → bads.IsKnown c bad v → outcome_of v ≡ Safe → IsSafe c bad
known-safe c bad (verdict.Fails trace) right is = absurd cc
known-safe c bad (verdict.Holds by) right is = right
known-safe c bad (verdict.ClearTo n) right is = absurd cc
known-safe c bad verdict.Unknown right is = absurd cc

known-fails : (c : Circuit) (bad : Lit) (v : Verdict) → bads.IsKnown c bad v → outcome_of v ≡ Fails
    → (n : ℕ) × FailsAfter c bad n
known-fails c bad (verdict.Fails trace) (fit, n, t, rows, is_trace, follows, ends) is =
    (n, (t, is_trace, ends))
known-fails c bad (verdict.Holds by) right is = absurd cc
known-fails c bad (verdict.ClearTo n) right is = absurd cc
known-fails c bad verdict.Unknown right is = absurd cc

-- the same of a justice property
known-live : (c : Circuit) (fairness literals : List Lit) (v : Verdict) → justice.IsKnown c fairness literals v
    → outcome_of v ≡ Safe → IsLive c fairness literals
known-live c fairness literals (verdict.Fails trace) right is = absurd cc
known-live c fairness literals (verdict.Holds by) right is = right
known-live c fairness literals (verdict.ClearTo n) right is = absurd right
known-live c fairness literals verdict.Unknown right is = absurd cc

known-recurs : (c : Circuit) (fairness literals : List Lit) (v : Verdict) → justice.IsKnown c fairness literals v
    → outcome_of v ≡ Fails → FailsForever c fairness literals
known-recurs c fairness literals (verdict.Fails trace) right is = right.1
known-recurs c fairness literals (verdict.Holds by) right is = absurd cc
known-recurs c fairness literals (verdict.ClearTo n) right is = absurd right
known-recurs c fairness literals verdict.Unknown right is = absurd cc

module _ (p : Problem) where
  -- what an outcome says of a property
  abbrev SaysOf : Property → Outcome → Type 0
  SaysOf property outcome = (outcome ≡ Safe → Holds p property) × (outcome ≡ Fails → IsFailing p property)

  -- a right answer says so
  bad-said : (place : ℕ) (a : Answered) → bads.Tells p.netlist.circuit place a
      → SaysOf (Bad place) (outcome_of a.verdict)
  bad-said place a (named, small, (bad, here, right, clear)) = (
    λ safe other there.
        subst (λ l. IsSafe p.netlist.circuit l) (same_Some bad other (sym here ∙ there))
        (known-safe p.netlist.circuit bad a.verdict right safe),
    λ fails. let (n, is) = known-fails p.netlist.circuit bad a.verdict right fails in (bad, here, n, is),
  )

  justice-said : (place : ℕ) (a : Answered) → justice.Tells p.netlist.circuit p.liveness place a
      → SaysOf (Justice place) (outcome_of a.verdict)
  justice-said place a (named, small, none, (literals, here, right)) =
      let fairness = p.liveness.fairness.items in (
        λ safe other there.
            subst (λ ls. IsLive p.netlist.circuit fairness ls.items) (same_Some literals other (sym here ∙ there))
            (known-live p.netlist.circuit fairness literals.items a.verdict right safe),
        λ fails. (literals, here, known-recurs p.netlist.circuit fairness literals.items a.verdict right fails),
      )

  -- what it says of the first n of a kind: each holds, or one of them fails
  abbrev Says : (ℕ → Property) → ℕ → Outcome → Type 0
  Says kind n outcome =
      (outcome ≡ Safe → (k : ℕ) → k < n → Holds p (kind k)) × (outcome ≡ Fails → (k : ℕ) × IsFailing p (kind k))

  Says-none : (kind : ℕ → Property) → Says kind 0 Safe
  Says-none kind = (λ safe k less. absurd (omega (arith, less)), λ fails. absurd cc)

  Says-more : (kind : ℕ → Property) (n : ℕ) (one other : Outcome)
      → Says kind n one → SaysOf (kind n) other → Says kind (suc n) (both one other)
  Says-more kind n one other first last = (
    λ safe k less.
        let (before, here) = both-safe one other safe in
        ⊎_elim (λ lower. first.0 before k lower)
        (λ past.
        let same : n ≡ k = omega (arith, less, past) in
        subst (λ j. Holds p (kind j)) same (last.0 here)) (cases_lt k n),
    λ fails. ⊎_elim (λ before. first.1 before) (λ here. (n, last.1 here)) (both-fails one other fails),
  )

  -- so do right answers on these in turn
  first-said : (kind : ℕ → Property) (P : ℕ → Answered → Type 0)
      → ((k : ℕ) (a : Answered) → P k a → SaysOf (kind k) (outcome_of a.verdict))
      → (n : ℕ) (answers : List Answered) → TellsFirst P n answers → Says kind n (together answers)
  first-said kind P said zero answers none = subst (λ xs. Says kind 0 (together xs)) (sym none) (Says-none kind)
  first-said kind P said (suc n) answers (before, last, first, tells, is) =
      subst (λ xs. Says kind (suc n) (together xs)) (sym is)
      (subst (Says kind (suc n)) (sym (together-more before last))
      (Says-more kind n (together before) (outcome_of last.verdict) (first-said kind P said n before first)
      (said n last tells)))

  -- what it says of the properties at some places: each holds, or one of them fails
  abbrev SaysOn : (ℕ → Property) → List ℕ → Outcome → Type 0
  SaysOn kind places outcome =
      (outcome ≡ Safe → Every (λ k. Holds p (kind k)) places) × (outcome ≡ Fails → (k : ℕ) × IsFailing p (kind k))

  -- so do right answers on the places that they name
  named-said : (kind : ℕ → Property) (P : ℕ → Answered → Type 0)
      → ((k : ℕ) (a : Answered) → P k a → SaysOf (kind k) (outcome_of a.verdict))
      → (answers : List Answered) → Every (λ a. P (place_of a.property) a) answers
      → SaysOn kind (places_of answers) (together answers)
  named-said kind P said [] right = (λ safe. tt, λ fails. absurd cc)
  named-said kind P said (a ∷ answers) (here, rest) =
      let others = named-said kind P said answers rest in
      let own = said (place_of a.property) a here in (
        λ safe. let (first, last) = both-safe (outcome_of a.verdict) (together answers) safe in (own.0 first, others.0 last),
        λ fails.
            ⊎_elim (λ first. (place_of a.property, own.1 first)) (λ last. others.1 last)
            (both-fails (outcome_of a.verdict) (together answers) fails),
      )

  -- in either order they do so of the first n of a kind
  all-said : (order : AnswerOrder) (kind : ℕ → Property) (P : ℕ → Answered → Type 0)
      → ((k : ℕ) (a : Answered) → P k a → SaysOf (kind k) (outcome_of a.verdict))
      → (n : ℕ) (answers : List Answered) → TellsAll order P n answers → Says kind n (together answers)
  all-said Places kind P said n answers first = first-said kind P said n answers first
  all-said Known kind P said n answers each =
      let named = named-said kind P said answers each.right in
      (λ safe. of_each (λ k. Holds p (kind k)) n (places_of answers) each.once (named.0 safe), named.1)

  -- the outcome is right, where what is asked about holds if it is safe, and something fails if it says so
  right-by : (asked : Subject) (outcome : Outcome)
      → (outcome ≡ Safe → Has p asked × ((property : Property) → IsAbout asked property → Holds p property))
      → (outcome ≡ Fails → (property : Property) × IsAbout asked property × IsFailing p property)
      → IsRightOutcome p asked outcome
  right-by asked Safe safe fails = safe refl
  right-by asked Fails safe fails = fails refl
  right-by asked Open safe fails = tt

  -- all properties hold, where those do that there are
  all-hold : ((k : ℕ) → k < length p.netlist.circuit.bads.items → Holds p (Bad k))
      → ((k : ℕ) → k < length p.liveness.justice.items → Holds p (Justice k))
      → (property : Property) → IsAbout All property → Holds p property
  all-hold bad just (Bad place) about =
      λ literal here. bad place (slice_get_within p.netlist.circuit.bads.items place literal here) literal here
  all-hold bad just (Justice place) about =
      λ literals here. just place (slice_get_within p.liveness.justice.items place literals here) literals here

  -- each bad literal does
  any-hold : bads.IsSafeAll p.netlist.circuit → (property : Property) → IsAbout Any property → Holds p property
  any-hold safe (Bad place) about = safe place
  any-hold safe (Justice place) about = absurd about

  right-all : (one other : Outcome) → Says Bad (length p.netlist.circuit.bads.items) one
      → Says Justice (length p.liveness.justice.items) other → IsRightOutcome p All (both one other)
  right-all one other bad just =
      right-by All (both one other)
      (λ safe. let (first, last) = both-safe one other safe in (tt, all-hold (bad.0 first) (just.0 last)))
      (λ fails.
      ⊎_elim (λ first. let (k, is) = bad.1 first in (Bad k, tt, is))
      (λ last. let (k, is) = just.1 last in (Justice k, tt, is)) (both-fails one other fails))

  right-one : (property : Property) (outcome : Outcome) → Has p (One property) → SaysOf property outcome
      → IsRightOutcome p (One property) outcome
  right-one property outcome has said =
      right-by (One property) outcome
      (λ safe. (has, λ other same. subst (Holds p) (sym same) (said.0 safe)))
      (λ fails. (property, refl, said.1 fails))

  -- the outcome of right answers of both kinds is right
  pub told-right : (asked : Subject) (order : AnswerOrder) (first second : List Answered) (outcome : Outcome)
      → bads.TellsAsked p.netlist.circuit asked order first
      → justice.TellsAsked p.netlist.circuit p.liveness asked second
      → outcome ≡ both (together first) (together second) → IsRightOutcome p asked outcome
  told-right All order first second outcome bad just is =
      subst (IsRightOutcome p All) (sym is)
      (right-all (together first) (together second)
      (all-said order Bad (bads.Tells p.netlist.circuit) bad-said (length p.netlist.circuit.bads.items) first bad)
      (first-said Justice (justice.Tells p.netlist.circuit p.liveness) justice-said
      (length p.liveness.justice.items) second just))
  told-right Any order first second outcome (a, only, ((place, tells), all)) none is =
      let same : outcome ≡ outcome_of a.verdict =
      both-first (together first) (together second) outcome (ap together none) is ∙ together-one first a only in
      let (named, small, (literal, here, right, clear)) = tells in
      right-by Any outcome
      (λ holds.
      let some : 0 < length p.netlist.circuit.bads.items =
      omega (arith, slice_get_within p.netlist.circuit.bads.items place literal here) in
      (some, any-hold (all (sym same ∙ holds))))
      (λ fails. (Bad place, tt, (bad-said place a tells).1 (sym same ∙ fails)))
  told-right (One (Bad place)) order first second outcome (a, only, tells) none is =
      let same : outcome ≡ outcome_of a.verdict =
      both-first (together first) (together second) outcome (ap together none) is ∙ together-one first a only in
      let (named, small, (literal, here, right, clear)) = tells in
      subst (IsRightOutcome p (One (Bad place))) (sym same)
      (right-one (Bad place) (outcome_of a.verdict)
      (slice_get_within p.netlist.circuit.bads.items place literal here) (bad-said place a tells))
  told-right (One (Justice place)) order first second outcome none (a, only, tells) is =
      let same : outcome ≡ outcome_of a.verdict =
      is ∙ ap (λ o. both o (together second)) (ap together none) ∙ together-one second a only in
      let (named, small, depths, (literals, here, right)) = tells in
      subst (IsRightOutcome p (One (Justice place))) (sym same)
      (right-one (Justice place) (outcome_of a.verdict)
      (slice_get_within p.liveness.justice.items place literals here) (justice-said place a tells))
