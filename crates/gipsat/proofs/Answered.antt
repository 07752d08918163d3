-- What was answered to an input, by what was written of its problem or of its questions.
use Rattle.std.proofs.Common.{◌≡◌, ℕ, Bool, List, Option, Some, None, IfSome, refl, subst, sym, inl, inr, ⊎_elim}
use Rattle.std.specs.Prelude.{⊤, IfOk, Result}
use Rattle.std.specs.Io.KnownBytes.{Appends, Keeps}
use Rattle.gipsat_cnf.specs.Literals.{Lit}
use Rattle.gipsat_solver.specs.Answers.{SolverState}
use Rattle.gipsat_answers.specs.Answers.{WritesVerdict, verdict_status}
use Rattle.gipsat_answers.specs.Assumed.{assuming}
use Rattle.gipsat_answers.specs.Enumeration.{IsRightVerdict, WritesModels}
use Rattle.gipsat_answers.specs.Questions.{IsRightOfAll, OfQuestions, Question, WritesReplies, questions_of}
use Rattle.gipsat_answers.specs.declared.answers.Verdict.{Verdict}
use Rattle.gipsat_answers.specs.declared.answers.Verdict.TheVariants.{Satisfiable, Unsatisfiable, Unknown, Stopped}
use Rattle.gipsat_command.specs.declared.options.Options.{Options}
use Rattle.gipsat_dimacs.specs.Inputs.{OfProblem}
use Rattle.gipsat_dimacs.specs.Texts.{Problem}
use Rattle.gipsat_dimacs.specs.declared.rule.HeaderRule.{HeaderRule}
use Rattle.gipsat.specs.Answered.{AreQuestionsAnswered, IsAnswered, IsProblemAnswered, WritesAllReplies, WritesAnswers, WritesOne}
use Rattle.gipsat.specs.Models.{projection_of}
use Rattle.gipsat.proofs.Problems.{IfOk-more, OfProblem-both, OfProblem-more, WritesModels-wider}

-- the right text of a verdict is an answer of this verdict
one-written : (witness : Bool) (problem : Problem) (limit : ℕ) (known : SolverState) (verdict : Verdict) (old new : Option (List ℕ))
    → WritesVerdict witness problem limit known verdict old new → WritesOne witness problem verdict old new
one-written witness problem limit known Satisfiable old new (text, (a, sat, is), appends) =
    (a, sat, subst (λ t. Appends old new t) is appends)
one-written witness problem limit known Unsatisfiable old new (text, (none, is), appends) =
    (none, subst (λ t. Appends old new t) is appends)
one-written witness problem limit known Unknown old new (text, (spent, is), appends) = subst (λ t. Appends old new t) is appends
one-written witness problem limit known Stopped old new (text, is, appends) = subst (λ t. Appends old new t) is appends

pub one-answered : (rule : HeaderRule) (input : Option (List ℕ)) (assumed : List Lit) (witness : Bool) (limit : ℕ)
    (known : SolverState) (verdict : Verdict) (old new : Option (List ℕ))
    → OfProblem rule input (λ problem. WritesVerdict witness (assuming assumed problem) limit known verdict old new)
    → OfProblem rule input (λ problem. WritesOne witness (assuming assumed problem) verdict old new)
one-answered rule input assumed witness limit known verdict old new wrote =
    OfProblem-more rule input _ (λ problem. WritesOne witness (assuming assumed problem) verdict old new)
    (λ problem one. one-written witness (assuming assumed problem) limit known verdict old new one) wrote

-- models of a problem were written, and this is its verdict
pub models-answered : (rule : HeaderRule) (input : Option (List ℕ)) (assumed : List Lit) (projection : Option (List Lit))
    (witness : Bool) (Open : Type 0) (n : ℕ) (verdict : Verdict) (old new : Option (List ℕ))
    → OfProblem rule input (λ problem. IsRightVerdict (assuming assumed problem) verdict)
    → OfProblem rule input (λ problem. WritesModels witness (projection_of projection problem.variables) Open n
    (assuming assumed problem) old new)
    → OfProblem rule input (λ problem. IsRightVerdict (assuming assumed problem) verdict
    × WritesModels witness (projection_of projection problem.variables) ⊤ n (assuming assumed problem) old new)
models-answered rule input assumed projection witness Open n verdict old new right wrote =
    OfProblem-both rule input (λ problem. IsRightVerdict (assuming assumed problem) verdict)
    (λ problem. WritesModels witness (projection_of projection problem.variables) ⊤ n (assuming assumed problem) old new)
    right
    (OfProblem-more rule input _ (λ problem. WritesModels witness (projection_of projection problem.variables) ⊤ n
    (assuming assumed problem) old new)
    (λ problem models. WritesModels-wider witness (projection_of projection problem.variables) Open ⊤ n
    (assuming assumed problem) old new (λ any. tt) models) wrote)

-- replies to all questions were written, and this is their verdict
found-answered : (found : Option (List Question)) (witness : Bool) (limit learned : ℕ) (stopped : Bool) (verdict : Verdict)
    (old new : Option (List ℕ)) → IfSome found (λ questions. IsRightOfAll questions verdict)
    → IfSome found (λ questions. WritesReplies witness limit learned stopped questions old new)
    → IfSome found (λ questions. WritesAllReplies witness limit questions verdict old new)
found-answered None witness limit learned stopped verdict old new right wrote = tt
found-answered (Some questions) witness limit learned stopped verdict old new right wrote = (right, (learned, (stopped, wrote)))

pub questions-answered : (input : Option (List ℕ)) (witness : Bool) (limit learned : ℕ) (stopped : Bool) (verdict : Verdict)
    (old new : Option (List ℕ)) → OfQuestions input (λ questions. IsRightOfAll questions verdict)
    → OfQuestions input (λ questions. WritesReplies witness limit learned stopped questions old new)
    → OfQuestions input (λ questions. WritesAllReplies witness limit questions verdict old new)
questions-answered None witness limit learned stopped verdict old new right wrote = tt
questions-answered (Some text) witness limit learned stopped verdict old new right wrote =
    found-answered (questions_of text) witness limit learned stopped verdict old new right wrote

-- what was answered to the bytes that a reader has left was answered to those that it kept
pub IsAnswered-kept : (options : Options) (assumed : List Lit) (projection : Option (List Lit)) (verdict : Verdict)
    (input left old new : Option (List ℕ)) → Keeps input left → IsAnswered options assumed projection verdict left old new
    → IsAnswered options assumed projection verdict input old new
IsAnswered-kept options assumed projection verdict None left old new kept answered = inl (tt, tt)
IsAnswered-kept options assumed projection verdict (Some xs) None old new kept answered = absurd kept
IsAnswered-kept options assumed projection verdict (Some xs) (Some ys) old new kept answered =
    subst (λ text. IsAnswered options assumed projection verdict (Some text) old new) kept answered

pub questions-kept : {E : Type 0} (r : Result Verdict E) (options : Options) (assumed : List Lit) (projection : Option (List Lit))
    (input left old new : Option (List ℕ)) → Keeps input left
    → IfOk r (λ verdict. AreQuestionsAnswered options.witness options.conflicts verdict left old new)
    → IfOk r (λ verdict. IsAnswered options assumed projection verdict input old new)
questions-kept r options assumed projection input left old new kept answered =
    IfOk-more r (λ verdict replied. IsAnswered-kept options assumed projection verdict input left old new kept (inl replied)) answered

pub problem-kept : {E : Type 0} (r : Result Verdict E) (options : Options) (assumed : List Lit) (projection : Option (List Lit))
    (models : Option ℕ) (input left old new : Option (List ℕ)) → options.models ≡ models → Keeps input left
    → IfOk r (λ verdict. IsProblemAnswered options.rule options.witness models assumed projection verdict left old new)
    → IfOk r (λ verdict. IsAnswered options assumed projection verdict input old new)
problem-kept r options assumed projection models input left old new is kept answered =
    IfOk-more r
    (λ verdict wrote. IsAnswered-kept options assumed projection verdict input left old new kept
    (inr (subst (λ m. IsProblemAnswered options.rule options.witness m assumed projection verdict left old new) (sym is) wrote)))
    answered

-- of a verdict that is open nothing is said but that
open-written : (witness : Bool) (models : Option ℕ) (projection : List Lit) (problem : Problem) (verdict : Verdict)
    (old new : Option (List ℕ)) → verdict_status verdict ≡ 0 → WritesAnswers witness models projection problem verdict old new
    → WritesAnswers witness models projection problem Unknown old new
open-written witness models projection problem Satisfiable old new is wrote = absurd cc
open-written witness models projection problem Unsatisfiable old new is wrote = absurd cc
open-written witness models projection problem Unknown old new is wrote = wrote
open-written witness None projection problem Stopped old new is wrote = wrote
open-written witness (Some n) projection problem Stopped old new is wrote = wrote

open-replied : (witness : Bool) (limit : ℕ) (verdict : Verdict) (input old new : Option (List ℕ)) → verdict_status verdict ≡ 0
    → OfQuestions input (λ questions. WritesAllReplies witness limit questions verdict old new)
    → OfQuestions input (λ questions. WritesAllReplies witness limit questions Unknown old new)
open-replied witness limit Satisfiable input old new is wrote = absurd cc
open-replied witness limit Unsatisfiable input old new is wrote = absurd cc
open-replied witness limit Unknown input old new is wrote = wrote
open-replied witness limit Stopped input old new is wrote = wrote

-- 20 is the status of one verdict alone, and so is 10
unsatisfiable_alone : (verdict : Verdict) → verdict_status verdict ≡ 20 → verdict ≡ Unsatisfiable
unsatisfiable_alone Satisfiable is = absurd cc
unsatisfiable_alone Unsatisfiable is = refl
unsatisfiable_alone Unknown is = absurd cc
unsatisfiable_alone Stopped is = absurd cc

satisfiable_alone : (verdict : Verdict) → verdict_status verdict ≡ 10 → verdict ≡ Satisfiable
satisfiable_alone Satisfiable is = refl
satisfiable_alone Unsatisfiable is = absurd cc
satisfiable_alone Unknown is = absurd cc
satisfiable_alone Stopped is = absurd cc

module _ (options : Options) (assumed : List Lit) (projection : Option (List Lit)) (verdict : Verdict)
    (input old new : Option (List ℕ)) (answered : IsAnswered options assumed projection verdict input old new) where
  -- the verdict is that of the status
  pub unsatisfiable-answered : verdict_status verdict ≡ 20 → IsAnswered options assumed projection Unsatisfiable input old new
  unsatisfiable-answered is = subst (λ v. IsAnswered options assumed projection v input old new) (unsatisfiable_alone verdict is) answered

  pub satisfiable-answered : verdict_status verdict ≡ 10 → IsAnswered options assumed projection Satisfiable input old new
  satisfiable-answered is = subst (λ v. IsAnswered options assumed projection v input old new) (satisfiable_alone verdict is) answered

  pub unknown-answered : verdict_status verdict ≡ 0 → IsAnswered options assumed projection Unknown input old new
  unknown-answered is =
      ⊎_elim
      (λ (form, wrote). inl (form, open-replied options.witness options.conflicts verdict input old new is wrote))
      (λ (form, wrote). inr (
        form,
        OfProblem-more options.rule input
            (λ problem. WritesAnswers options.witness options.models (projection_of projection problem.variables)
            (assuming assumed problem) verdict old new)
            (λ problem. WritesAnswers options.witness options.models (projection_of projection problem.variables)
            (assuming assumed problem) Unknown old new)
            (λ problem one. open-written options.witness options.models (projection_of projection problem.variables)
            (assuming assumed problem) verdict old new is one) wrote,
      ))
      answered
