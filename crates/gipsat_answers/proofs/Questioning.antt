-- Questions one after another: which were asked and replied to so far, and what is left.
use Rattle.std.proofs.Common.{◌≡◌, ◌+◌, ◌-◌, ◌<◌, ◌≤◌, ℕ, Bool, true, false, List, [], ◌∷◌, ◌++◌, length, take, refl, sym, ap, ◌∙◌, subst, ⊎_elim, inl, inr, IsTrue, unwrap_or, arith}
use Rattle.std.specs.Prelude.{Option, Some, None, codes, slice_get, ⊤}
use Rattle.std.specs.Option.{option_map}
use Rattle.std.proofs.lemmas.List.{append_assoc, append-nil, take_more}
use Rattle.std.proofs.lemmas.Option.{get_or_from_slice_get, slice_get_within}
use Rattle.std.proofs.lemmas.Bool.{false≢true}
use Rattle.gipsat_cnf.specs.Prelude.{Clause, Formula, IsSatisfiableUnder, Lit}
use Rattle.gipsat_answers.specs.Questions.{Question, AsksSoFar, asks, clauses_in, first_of, questions_after, is_stop, verdict_with}
use Rattle.gipsat_answers.specs.Questions.{AreAskedOf, AreNoneSatisfiable, AreRightReplies, IsAnySatisfiable, IsRightOfAll, IsRightReply, WritesReplies, WritesReply}
use Rattle.gipsat_answers.specs.declared.answers.Verdict.{Verdict}
use Rattle.gipsat_answers.specs.declared.answers.Verdict.TheVariants.{Satisfiable, Unsatisfiable, Unknown, Stopped}
use Rattle.gipsat_answers.proofs.Enumerating.{Appends-join, Appends-none}

-- the verdict of the questions so far; before the first there is none
abbrev pub IsRightSoFar : List Question → Option Verdict → Type 0
IsRightSoFar asked None = asked ≡ []
IsRightSoFar asked (Some verdict) = IsRightOfAll asked verdict

-- the verdict of a question
abbrev pub IsRightOfOne : Question → Verdict → Type 0
IsRightOfOne question Satisfiable = IsSatisfiableUnder question.formula question.assumed
IsRightOfOne question Unsatisfiable = ¬ (IsSatisfiableUnder question.formula question.assumed)
IsRightOfOne question Unknown = ⊤
IsRightOfOne question Stopped = ⊤

any-last : (asked : List Question) (q : Question) → IsSatisfiableUnder q.formula q.assumed → IsAnySatisfiable (asked ++ q ∷ [])
any-last [] q sat = inl sat
any-last (first ∷ asked) q sat = inr (any-last asked q sat)

any-more : (asked : List Question) (q : Question) → IsAnySatisfiable asked → IsAnySatisfiable (asked ++ q ∷ [])
any-more [] q any = absurd any
any-more (first ∷ asked) q any = ⊎_elim (λ sat. inl sat) (λ others. inr (any-more asked q others)) any

none-more : (asked : List Question) (q : Question) → AreNoneSatisfiable asked → (¬ (IsSatisfiableUnder q.formula q.assumed))
    → AreNoneSatisfiable (asked ++ q ∷ [])
none-more [] q none last = (last, tt)
none-more (first ∷ asked) q (none, others) last = (none, none-more asked q others last)

longer : (asked : List Question) (q : Question) → 0 < length (asked ++ q ∷ [])
longer [] q = omega arith
longer (first ∷ asked) q = omega arith

-- a question more
right-with : (asked : List Question) (q : Question) (so_far : Option Verdict) (last : Verdict) → IsRightSoFar asked so_far
    → IsRightOfOne q last → IsRightOfAll (asked ++ q ∷ []) (verdict_with so_far last)
right-with asked q None Satisfiable right one = any-last asked q one
right-with asked q None Unsatisfiable right one =
    (longer asked q, none-more asked q (subst (λ l. AreNoneSatisfiable l) (sym right) tt) one)
right-with asked q None Unknown right one = tt
right-with asked q None Stopped right one = tt
right-with asked q (Some Satisfiable) last right one = any-more asked q right
right-with asked q (Some Unsatisfiable) Satisfiable right one = any-last asked q one
right-with asked q (Some Unsatisfiable) Unsatisfiable (some, none) one = (longer asked q, none-more asked q none one)
right-with asked q (Some Unsatisfiable) Unknown right one = tt
right-with asked q (Some Unsatisfiable) Stopped right one = tt
right-with asked q (Some Unknown) Satisfiable right one = any-last asked q one
right-with asked q (Some Unknown) Unsatisfiable right one = tt
right-with asked q (Some Unknown) Unknown right one = tt
right-with asked q (Some Unknown) Stopped right one = tt
right-with asked q (Some Stopped) Satisfiable right one = any-last asked q one
right-with asked q (Some Stopped) Unsatisfiable right one = tt
right-with asked q (Some Stopped) Unknown right one = tt
right-with asked q (Some Stopped) Stopped right one = tt

module _ (witness : Bool) (limit : ℕ) where
  -- what a reply says of its question
  says-right : (spent : ℕ) (stop : Bool) (q : Question) (verdict : Verdict) (text : List ℕ)
      → IsRightReply witness limit spent stop q verdict text → IsRightOfOne q verdict
  says-right spent stop q Satisfiable text (a, (variables, sat, true_, rising, among, is)) = (a, sat, true_)
  says-right spent stop q Unsatisfiable text (none, is) = none
  says-right spent stop q Unknown text right = tt
  says-right spent stop q Stopped text right = tt

  -- a reply stays right when the search was stopped
  reply-later : (spent : ℕ) (stop stops : Bool) (q : Question) (verdict : Verdict) (text : List ℕ)
      → (IsTrue stop → IsTrue stops) → IsRightReply witness limit spent stop q verdict text
      → IsRightReply witness limit spent stops q verdict text
  reply-later spent stop stops q Satisfiable text wider right = right
  reply-later spent stop stops q Unsatisfiable text wider right = right
  reply-later spent stop stops q Unknown text wider right = right
  reply-later spent stop stops q Stopped text wider (stopped, is) = (wider stopped, is)

  -- a reply is right where its own verdict says whether the search was stopped
  pub reply-itself : (spent : ℕ) (q : Question) (verdict : Verdict) (old new : Option (List ℕ))
      → WritesReply witness limit spent true q verdict old new → WritesReply witness limit spent (is_stop verdict) q verdict old new
  reply-itself spent q Satisfiable old new writes = writes
  reply-itself spent q Unsatisfiable old new writes = writes
  reply-itself spent q Unknown old new writes = writes
  reply-itself spent q Stopped old new writes = writes

  replies-later : (learned : ℕ) (stop stops : Bool) (asked : List Question) (text : List ℕ)
      → (IsTrue stop → IsTrue stops) → AreRightReplies witness limit learned stop asked text
      → AreRightReplies witness limit learned stops asked text
  replies-later learned stop stops [] text wider none = none
  replies-later learned stop stops (q ∷ asked) text wider (verdict, (spent, (others, (first, (rest, is, sum, most, right, are))))) = (
    verdict,
    (
      spent,
      (
        others,
        (
          first,
          (
            rest,
            is,
            sum,
            most,
            reply-later spent stop stops q verdict first wider right,
            replies-later others stop stops asked rest wider are,
          ),
        ),
      ),
    ),
  )

  replies-more : (learned spent : ℕ) (stop : Bool) (asked : List Question) (q : Question) (verdict : Verdict) (text last : List ℕ)
      → AreRightReplies witness limit learned stop asked text → spent ≤ limit
      → IsRightReply witness limit spent stop q verdict last
      → AreRightReplies witness limit (learned + spent) stop (asked ++ q ∷ []) (text ++ last)
  replies-more learned spent stop [] q verdict text last (none, nothing) most right = (
    verdict,
    (
      spent,
      (
        0,
        (
          last,
          (
            [],
            ap (λ l. l ++ last) none ∙ sym (append-nil last),
            omega (arith, nothing),
            most,
            right,
            (refl, refl),
          ),
        ),
      ),
    ),
  )
  replies-more learned spent stop (p ∷ asked) q verdict text last (v, (s, (others, (first, (rest, is, sum, least, said, are))))) most right = (
    v,
    (
      s,
      (
        others + spent,
        (
          first,
          (
            rest ++ last,
            ap (λ l. l ++ last) is ∙ append_assoc first rest last,
            omega (arith, sum),
            least,
            said,
            replies-more others spent stop asked q verdict rest last are most right,
          ),
        ),
      ),
    ),
  )

-- a formula with more clauses was asked the same
AreAskedOf-longer : (formula added : Formula) (asked : List Question) → AreAskedOf formula asked → AreAskedOf (formula ++ added) asked
AreAskedOf-longer formula added [] none = tt
AreAskedOf-longer formula added (q ∷ asked) ((more, is), others) = (
  (more ++ added, ap (λ f. f ++ added) is ∙ append_assoc q.formula more added),
  AreAskedOf-longer formula added asked others,
)

-- a question of the whole formula more
AreAskedOf-more : (formula : Formula) (assumed : List Lit) (asked : List Question) → AreAskedOf formula asked
    → AreAskedOf formula (asked ++ record { formula = formula; assumed = assumed } ∷ [])
AreAskedOf-more formula assumed [] none = (([], sym (append-nil formula)), tt)
AreAskedOf-more formula assumed (q ∷ asked) (one, others) = (one, AreAskedOf-more formula assumed asked others)

-- these questions were asked of a formula so far, of which this is the verdict, right replies to them were written, and
-- with those that are left they are all
pub record Asked (witness : Bool) (limit : ℕ) (all : Option (List Question)) (old : Option (List ℕ)) (formula : Formula)
    (left : Option (List Question)) (learned : ℕ) (stop : Bool) (verdict : Option Verdict) (now : Option (List ℕ)) : Type 0 where
  pub asked : List Question
  pub together : all ≡ option_map (λ more. asked ++ more) left
  pub written : WritesReplies witness limit learned stop asked old now
  pub right : IsRightSoFar asked verdict
  pub formulas : AreAskedOf formula asked

-- the verdict so far is that of all, and open where nothing was asked
right_of_all : (asked : List Question) (verdict : Option Verdict) → IsRightSoFar asked verdict
    → IsRightOfAll asked (unwrap_or verdict Unknown)
right_of_all asked None right = tt
right_of_all asked (Some verdict) right = right

pub all_left : (left : Option (List Question)) → left ≡ option_map (λ more. [] ++ more) left
all_left None = refl
all_left (Some more) = refl

pub one_left : (asked : List Question) (formula : Formula) (assumed : List Lit) (left : Option (List Question))
    → option_map (λ more. asked ++ more) (first_of formula assumed left)
    ≡ option_map (λ more. (asked ++ record { formula = formula; assumed = assumed } ∷ []) ++ more) left
one_left asked formula assumed None = refl
one_left asked formula assumed (Some more) =
    ap Some (sym (append_assoc asked (record { formula = formula; assumed = assumed } ∷ []) more))

module _ (witness : Bool) (limit : ℕ) (all : Option (List Question)) (old : Option (List ℕ)) where
  -- before the first line
  pub Asked-begin : (formula : Formula) (left : Option (List Question)) (learned : ℕ) (stop : Bool) → all ≡ left → learned ≡ 0
      → Asked witness limit all old formula left learned stop None old
  Asked-begin formula left learned stop same nothing = record {
    asked = [];
    together = same ∙ all_left left;
    written = ([], (refl, nothing), Appends-none old);
    right = refl;
    formulas = tt;
  }

  module _ (formula : Formula) (begun line : List ℕ) (lines : List (List ℕ)) (learned : ℕ) (stop : Bool) (verdict : Option Verdict)
      (now : Option (List ℕ)) (so_far : Asked witness limit all old formula (questions_after formula begun None (line ∷ lines)) learned stop verdict now) where
    -- a line of clauses was read
    pub Asked-line : asks line ≡ false
        → Asked witness limit all old formula (questions_after formula (begun ++ line ++ codes "\n") None lines) learned stop verdict now
    Asked-line asks_none =
        let same : questions_after formula begun None (line ∷ lines) ≡ questions_after formula (begun ++ line ++ codes "\n") None lines = rw asks_none refl in
        record {
          asked = so_far.asked;
          together = so_far.together ∙ ap (option_map (λ more. so_far.asked ++ more)) same;
          written = so_far.written;
          right = so_far.right;
          formulas = so_far.formulas;
        }

    -- a question was replied to
    pub Asked-more : (rest : List (List ℕ)) (added : Formula) (assumed : List Lit) (later : ℕ) (last : Verdict) (then : Option (List ℕ))
        → AsksSoFar (line ∷ lines) assumed true rest → clauses_in begun ≡ Some added → learned ≤ later → later - learned ≤ limit
        → (IsTrue stop → last ≡ Stopped)
        → WritesReply witness limit (later - learned) true (record { formula = formula ++ added; assumed = assumed }) last now then
        → Asked witness limit all old (formula ++ added) (questions_after (formula ++ added) [] None rest) later (is_stop last)
        (Some (verdict_with verdict last)) then
    Asked-more rest added assumed later last then asks_it has more most stays reply =
        let q : Question = record { formula = formula ++ added; assumed = assumed } in
        let same : questions_after formula begun None (line ∷ lines) ≡ first_of (formula ++ added) assumed (questions_after (formula ++ added) [] None rest)
        = asks_it formula begun ∙ rw has refl in
        let wider : IsTrue stop → IsTrue (is_stop last) = λ stopped. subst (λ v. IsTrue (is_stop v)) (sym (stays stopped)) refl in
        let (text, are, wrote) = so_far.written in
        let (words, right, writes) = reply-itself witness limit (later - learned) q last now then reply in
        let sum : learned + (later - learned) ≡ later = omega arith in
        record {
          asked = so_far.asked ++ q ∷ [];
          together = so_far.together ∙ ap (option_map (λ more. so_far.asked ++ more)) same
              ∙ one_left so_far.asked (formula ++ added) assumed (questions_after (formula ++ added) [] None rest);
          written = (
            text ++ words,
            subst (λ n. AreRightReplies witness limit n (is_stop last) (so_far.asked ++ q ∷ []) (text ++ words)) sum
                (replies-more witness limit learned (later - learned) (is_stop last) so_far.asked q last text words
                (replies-later witness limit learned stop (is_stop last) so_far.asked text wider are) most right),
            Appends-join old now then text words wrote writes,
          );
          right = right-with so_far.asked q verdict last so_far.right (says-right witness limit (later - learned) (is_stop last) q last words right);
          formulas = AreAskedOf-more (formula ++ added) assumed so_far.asked
              (AreAskedOf-longer formula added so_far.asked so_far.formulas);
        }

  -- behind the last line, once the clauses behind the last question were added
  pub Asked-end : (formula added f1 : Formula) (begun : List ℕ) (left : List (List ℕ)) (learned later : ℕ) (stop : Bool)
      (verdict : Option Verdict) (now : Option (List ℕ))
      → Asked witness limit all old formula (questions_after formula begun None left) learned stop verdict now
      → left ≡ [] → clauses_in begun ≡ Some added → f1 ≡ formula ++ added → later ≡ learned
      → (asked : List Question) × (all ≡ Some asked) × WritesReplies witness limit later stop asked old now
      × IsRightOfAll asked (unwrap_or verdict Unknown) × AreAskedOf f1 asked
  Asked-end formula added f1 begun left learned later stop verdict now so_far ended has is same =
      let none : questions_after formula begun None [] ≡ Some [] = rw has refl in
      let rest : questions_after formula begun None left ≡ Some [] = ap (λ lines. questions_after formula begun None lines) ended ∙ none in (
        so_far.asked,
        so_far.together ∙ ap (option_map (λ more. so_far.asked ++ more)) rest ∙ ap Some (append-nil so_far.asked),
        subst (λ n. WritesReplies witness limit n stop so_far.asked old now) (sym same) so_far.written,
        right_of_all so_far.asked verdict so_far.right,
        subst (λ f. AreAskedOf f so_far.asked) (sym is) (AreAskedOf-longer formula added so_far.asked so_far.formulas),
      )

module _ (witness : Bool) (limit : ℕ) (all : Option (List Question)) (old : Option (List ℕ)) (formula f1 f2 : Formula)
    (begun line next : List ℕ) (left lines : List (List ℕ)) (learned : ℕ) (stop : Bool) (verdict : Option Verdict) (now : Option (List ℕ))
    (so_far : Asked witness limit all old formula (questions_after formula begun None left) learned stop verdict now) (split : left ≡ line ∷ lines) where
  before : Asked witness limit all old formula (questions_after formula begun None (line ∷ lines)) learned stop verdict now
  before = subst (λ ls. Asked witness limit all old formula (questions_after formula begun None ls) learned stop verdict now) split so_far

  -- a line of clauses was read, and stands behind those before
  pub Asked-line-on : asks line ≡ false → next ≡ begun ++ line ++ codes "\n"
      → Asked witness limit all old formula (questions_after formula next None lines) learned stop verdict now
  Asked-line-on asks_none is =
      subst (λ b. Asked witness limit all old formula (questions_after formula b None lines) learned stop verdict now) (sym is)
      (Asked-line witness limit all old formula begun line lines learned stop verdict now before asks_none)

  -- a question was replied to, once the clauses before it were added
  pub Asked-more-on : (rest : List (List ℕ)) (added : Formula) (assumed : List Lit) (later : ℕ) (last : Verdict)
      (then : Option (List ℕ)) (verdict2 : Option Verdict) (stop2 : Bool) → AsksSoFar (line ∷ lines) assumed true rest
      → clauses_in begun ≡ Some added → f1 ≡ formula ++ added → f2 ≡ f1 → next ≡ [] → learned ≤ later → later - learned ≤ limit
      → (IsTrue stop → last ≡ Stopped)
      → WritesReply witness limit (later - learned) true (record { formula = f1; assumed = assumed }) last now then
      → verdict2 ≡ Some (verdict_with verdict last) → stop2 ≡ is_stop last
      → Asked witness limit all old f2 (questions_after f2 next None rest) later stop2 verdict2 then
  Asked-more-on rest added assumed later last then verdict2 stop2 asks_it has is1 is2 none more most stays reply is_verdict is_stop2 =
      let same : f2 ≡ formula ++ added = is2 ∙ is1 in
      let core = Asked-more witness limit all old formula begun line lines learned stop verdict now before rest added assumed later last then
      asks_it has more most stays
      (subst (λ f. WritesReply witness limit (later - learned) true (record { formula = f; assumed = assumed }) last now then) is1 reply) in
      subst (λ f. Asked witness limit all old f (questions_after f next None rest) later stop2 verdict2 then) (sym same)
      (subst (λ b. Asked witness limit all old (formula ++ added) (questions_after (formula ++ added) b None rest) later stop2 verdict2 then) (sym none)
      (subst (λ s. Asked witness limit all old (formula ++ added) (questions_after (formula ++ added) [] None rest) later s verdict2 then) (sym is_stop2)
      (subst (λ v. Asked witness limit all old (formula ++ added) (questions_after (formula ++ added) [] None rest) later (is_stop last) v then)
      (sym is_verdict) core)))

-- only a search that was stopped has this verdict
pub is_stop-only : (verdict : Verdict) → IsTrue (is_stop verdict) → verdict ≡ Stopped
is_stop-only Satisfiable is = absurd (false≢true is)
is_stop-only Unsatisfiable is = absurd (false≢true is)
is_stop-only Unknown is = absurd (false≢true is)
is_stop-only Stopped is = refl

-- a clause more was added
pub clauses-more : (old now then f : Formula) (i : ℕ) (c : Clause) → now ≡ old ++ take i f → then ≡ now ++ c ∷ []
    → slice_get f i ≡ Some c → then ≡ old ++ take (i + 1) f
clauses-more old now then f i c so_far is at =
    let within : i < length f = slice_get_within f i c at in
    let next : take (i + 1) f ≡ take i f ++ c ∷ [] =
    take_more f i c within ∙ ap (λ x. take i f ++ x ∷ []) (get_or_from_slice_get f i c c at) in
    is ∙ ap (λ x. x ++ c ∷ []) so_far ∙ append_assoc old (take i f) (c ∷ []) ∙ ap (λ x. old ++ x) (sym next)
