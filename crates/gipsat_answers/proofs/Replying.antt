-- A reply by a model of the formula whose variables have names.
use Rattle.std.proofs.Common.{◌≡◌, ◌<◌, ◌≤◌, ◌++◌, ℕ, Bool, List, length, codes, arith, ◌∙◌}
use Rattle.std.specs.Prelude.{IsTrue}
use Rattle.std.proofs.lemmas.Option.{slice_get-get_or}
use Rattle.gipsat_cnf.specs.Prelude.{AreAllBelow, AreBelow, Assignment, Formula, IsModelUnder, Lit, assignment_in}
use Rattle.gipsat_answers.specs.Answers.{witness_text}
use Rattle.gipsat_answers.specs.Names.{first_names, name_in, AreNamedValues, IsRising}
use Rattle.gipsat_answers.specs.Questions.{asked_under, IsRightReply}
use Rattle.gipsat_answers.specs.declared.answers.Verdict.TheVariants.{Satisfiable}
use Rattle.gipsat_answers.proofs.Renaming.{first_names-keeps, makes_true-alike, makes_true-named, satisfies-alike, satisfies-named, value_by, value_by-name, value_by-true, IsRising-first}

pub reply-by-model : (names : List ℕ) (model : List Bool) (shown : ℕ) (witness : Bool) (text : List ℕ) → IsRising names
    → shown ≤ length names → ((v : ℕ) → v < length names → v < length model → v < shown)
    → ((a : Assignment) → AreNamedValues names shown model a
    → text ≡ codes "s SATISFIABLE\n" ++ witness_text witness a (first_names names shown))
    → (limit spent : ℕ) (stop : Bool) (f : Formula) (assumed : List Lit) → AreAllBelow (length names) f
    → AreBelow (length names) assumed → IsModelUnder f assumed model
    → IsRightReply witness limit spent stop (asked_under names f assumed) Satisfiable text
reply-by-model names model shown witness text rising most all tells limit spent stop f assumed below under (sat, true_) =
    let a : Assignment = value_by names model in
    let alike : (v : ℕ) → v < length names → a (name_in names v) ≡ assignment_in model v =
    λ v less. value_by-name names model v (name_in names v) rising (slice_get-get_or names v v less) in (
      a,
      (
        first_names names shown,
        satisfies-named names a f
            ∙ satisfies-alike (λ v. a (name_in names v)) (assignment_in model) (length names) alike f below ∙ sat,
        makes_true-named names a assumed
            ∙ makes_true-alike (λ v. a (name_in names v)) (assignment_in model) (length names) alike assumed under ∙ true_,
        IsRising-first names shown most rising,
        (λ v is. let (k, at, within, valued) = value_by-true names model v is in
            (k, first_names-keeps names shown k v (all k within valued) at)),
        tells a (λ v less. let inside : v < length names = omega (arith, less, most) in alike v inside),
      ),
    )
