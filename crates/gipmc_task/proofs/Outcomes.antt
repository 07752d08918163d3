-- What is known of properties together, in any order of joining.
use Rattle.std.proofs.Common.{◌≡◌, ◌∙◌, ℕ, ◌+◌, ◌<◌, ◌≤◌, List, [], ◌∷◌, append-nil, ap, drop, get_or, length, refl, subst, sym}
use Rattle.std.proofs.lemmas.List.{drop_all, drop_more}
use Rattle.gipmc_task.specs.Answers.{TellsOne}
use Rattle.gipmc_task.specs.Outcomes.{both}
use Rattle.gipmc_task.specs.Verdicts.{answer_text, outcome_of, texts_of, together}
use Rattle.gipmc_task.specs.declared.answered.Answered.{Answered}
use Rattle.gipmc_task.specs.declared.outcome.Outcome.{Outcome}
use Rattle.gipmc_task.specs.declared.outcome.Outcome.TheVariants.{Fails, Safe, Open}

pub both-none : (o : Outcome) → both o Safe ≡ o
both-none Fails = refl
both-none Safe = refl
both-none Open = refl

open_both : (one other : Outcome) → both (both Open one) other ≡ both Open (both one other)
open_both Fails other = refl
open_both Safe other = refl
open_both Open Fails = refl
open_both Open Safe = refl
open_both Open Open = refl

pub both-assoc : (one two three : Outcome) → both (both one two) three ≡ both one (both two three)
both-assoc Fails two three = refl
both-assoc Safe two three = refl
both-assoc Open two three = open_both two three

-- one answer more is joined
pub together-next : (answers : List Answered) (i : ℕ) (a : Answered) (o : Outcome) → i < length answers → get_or answers i a ≡ a
    → together answers ≡ both o (together (drop i answers))
    → together answers ≡ both (both o (outcome_of a.verdict)) (together (drop (i + 1) answers))
together-next answers i a o less is so_far =
    so_far ∙ ap (λ xs. both o (together xs)) (drop_more answers i a less)
    ∙ ap (λ (x : Answered). both o (both (outcome_of x.verdict) (together (drop (i + 1) answers)))) is
    ∙ sym (both-assoc o (outcome_of a.verdict) (together (drop (i + 1) answers)))

-- all are joined
pub together-last : (answers : List Answered) (i : ℕ) (o : Outcome) → length answers ≤ i
    → together answers ≡ both o (together (drop i answers)) → o ≡ together answers
together-last answers i o past so_far =
    sym (so_far ∙ ap (λ xs. both o (together xs)) (drop_all i answers past) ∙ both-none o)

-- of one answer it is what its verdict says
pub together-one : (answers : List Answered) (a : Answered) → answers ≡ a ∷ [] → together answers ≡ outcome_of a.verdict
together-one answers a is = ap together is ∙ both-none (outcome_of a.verdict)

-- what the text of one answer that says so has, those of a list of one have
pub fails-one : (P : Answered → Type 0) (Q : List ℕ → Type 0) (answers : List Answered)
    → ((a : Answered) → P a → outcome_of a.verdict ≡ Fails → Q (answer_text a)) → TellsOne P answers → together answers ≡ Fails
    → Q (texts_of answers)
fails-one P Q answers has (a, is, told) fails =
    subst Q (sym (ap texts_of is ∙ append-nil (answer_text a))) (has a told (sym (together-one answers a is) ∙ fails))
