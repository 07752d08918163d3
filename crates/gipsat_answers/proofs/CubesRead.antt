-- Cubes one after another: which were read so far, and what is left.
use Rattle.std.proofs.Common.{◌≡◌, ℕ, true, false, List, [], ◌∷◌, ◌++◌, refl, sym, ap, ◌∙◌, subst}
use Rattle.std.specs.Prelude.{Option, Some, None, codes}
use Rattle.std.specs.Option.{option_map}
use Rattle.std.proofs.lemmas.List.{map-append}
use Rattle.gipsat_cnf.specs.Prelude.{Formula, Lit}
use Rattle.gipsat_answers.specs.Questions.{Question, AsksSoFar, asks, clauses_in, cubes_asked, first_of, questions_after}
use Rattle.gipsat_answers.proofs.Questioning.{one_left}

-- some questions were read, which assume these cubes, and with those that are left they are all
pub record CubesSoFar (all : Option (List Question)) (begun : List ℕ) (lines : List (List ℕ)) (cubes : Formula) : Type 0 where
  pub formula : Formula
  pub asked : List Question
  pub together : all ≡ option_map (λ more. asked ++ more) (questions_after formula begun None lines)
  pub assumed : cubes ≡ cubes_asked asked

module _ (all : Option (List Question)) (begun line : List ℕ) (left lines : List (List ℕ)) (cubes : Formula)
    (so_far : CubesSoFar all begun left cubes) (split : left ≡ line ∷ lines) where
  before : all ≡ option_map (λ more. so_far.asked ++ more) (questions_after so_far.formula begun None (line ∷ lines))
  before = subst (λ ls. all ≡ option_map (λ more. so_far.asked ++ more) (questions_after so_far.formula begun None ls)) split so_far.together

  -- a line of clauses was read
  pub so_far_line : (next : List ℕ) → asks line ≡ false → next ≡ begun ++ line ++ codes "\n" → CubesSoFar all next lines cubes
  so_far_line next asks_none is =
      let same : questions_after so_far.formula begun None (line ∷ lines) ≡ questions_after so_far.formula (begun ++ line ++ codes "\n") None lines
      = rw asks_none refl in
      record {
        formula = so_far.formula;
        asked = so_far.asked;
        together = subst (λ b. all ≡ option_map (λ more. so_far.asked ++ more) (questions_after so_far.formula b None lines)) (sym is)
            (before ∙ ap (option_map (λ more. so_far.asked ++ more)) same);
        assumed = so_far.assumed;
      }

  -- a question was read
  pub so_far_more : (next : List ℕ) (rest : List (List ℕ)) (added longer : Formula) (literals : List Lit)
      → AsksSoFar (line ∷ lines) literals true rest → clauses_in begun ≡ Some added → longer ≡ cubes ++ literals ∷ [] → next ≡ []
      → CubesSoFar all next rest longer
  so_far_more next rest added longer literals asks_it has is none =
      let f : Formula = so_far.formula ++ added in
      let q : Question = record { formula = f; assumed = literals } in
      let same : questions_after so_far.formula begun None (line ∷ lines) ≡ first_of f literals (questions_after f [] None rest)
      = asks_it so_far.formula begun ∙ rw has refl in
      record {
        formula = f;
        asked = so_far.asked ++ q ∷ [];
        together = subst (λ b. all ≡ option_map (λ more. (so_far.asked ++ q ∷ []) ++ more) (questions_after f b None rest)) (sym none)
            (before ∙ ap (option_map (λ more. so_far.asked ++ more)) same ∙ one_left so_far.asked f literals (questions_after f [] None rest));
        assumed = is ∙ ap (λ c. c ++ literals ∷ []) so_far.assumed
            ∙ sym (map-append (λ (question : Question). question.assumed) so_far.asked (q ∷ []));
      }
