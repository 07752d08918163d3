-- Worked examples of the definitions.
use Rattle.std.proofs.Common.{◌≡◌, ℕ, true, false, List, [], ◌∷◌, ◌++◌, None, Some, refl}
use Rattle.std.specs.Prelude.{codes}
use Rattle.std.proofs.lemmas.Option.{none-some}
use Rattle.gipmc_aiger.specs.declared.problem.Problem.{Problem}
use Rattle.gipmc_aiger.specs.declared.problem.Property.{Property}
use Rattle.gipmc_aiger.specs.declared.problem.Property.TheVariants.{Bad, Justice}
use Rattle.gipmc_aiger.specs.declared.problem.Subject.{Subject}
use Rattle.gipmc_aiger.specs.declared.problem.Subject.TheVariants as subject
use Rattle.gipmc_engines.specs.declared.engines.Engine.TheVariants.{All, Bounded, Induction, Invariants}
use Rattle.gipmc_task.specs.declared.outcome.Outcome.TheVariants.{Open, Safe}
use Rattle.gipmc.specs.Asked.{Holds, IsAbout, IsRightOutcome, asked_or}
use Rattle.gipmc.specs.Plans.{depth_by, engine_by}
use Rattle.gipmc.specs.Texts.{text_read}

none-holds : (p : Problem) → p.netlist.circuit.bads.items ≡ [] → p.liveness.justice.items ≡ []
    → (property : Property) → IsAbout subject.All property → Holds p property
none-holds p bads justice (Bad place) about = λ literal here. absurd (none-some literal (rw bads at here))
none-holds p bads justice (Justice place) about = λ literals here. absurd (none-some literals (rw justice at here))

-- of a problem without a property all is safe
none-right : (p : Problem) → p.netlist.circuit.bads.items ≡ [] → p.liveness.justice.items ≡ []
    → IsRightOutcome p subject.All Safe
none-right p bads justice = (tt, none-holds p bads justice)

-- where nothing is known, nothing is said
open-right : (p : Problem) (asked : Subject) → IsRightOutcome p asked Open
open-right p asked = tt

-- the property that is asked about stands for another one
one_is_asked : asked_or (subject.One (Justice 2)) (subject.One (Justice 5)) ≡ subject.One (Justice 2)
one_is_asked = refl

other_is_asked : asked_or subject.All (subject.One (Justice 5)) ≡ subject.One (Justice 5)
other_is_asked = refl

-- two lines that end in two bytes, the second of them without its line feed
abbrev two_lines : List ℕ
two_lines = codes "aag 0 0 0 0 0" ++ 13 ∷ 10 ∷ codes "c" ++ 13 ∷ []

returns-read : text_read two_lines ≡ codes "aag 0 0 0 0 0\nc\n"
returns-read = refl

-- where the first line has none, the others keep theirs
later : text_read (codes "aag 0 0 0 0 0\nc" ++ 13 ∷ 10 ∷ []) ≡ codes "aag 0 0 0 0 0\nc" ++ 13 ∷ 10 ∷ []
later = refl

-- and so it is in the binary form
packed : text_read (codes "aig 0 0 0 0 0" ++ 13 ∷ 10 ∷ []) ≡ codes "aig 0 0 0 0 0" ++ 13 ∷ 10 ∷ []
packed = refl

-- the engines, where a circuit is wanted as a certificate and where not
all : engine_by false All ≡ All
all = refl

all_for_a_circuit : engine_by true All ≡ Invariants
all_for_a_circuit = refl

one_for_a_circuit : engine_by true Induction ≡ Induction
one_for_a_circuit = refl

-- bounded model checking alone goes as far as it is asked to, and else to 100 transitions
bounded : depth_by Bounded None ≡ 100
bounded = refl

bounded_asked : depth_by Bounded (Some 7) ≡ 7
bounded_asked = refl

beside_asked : depth_by All (Some 7) ≡ 7
beside_asked = refl
