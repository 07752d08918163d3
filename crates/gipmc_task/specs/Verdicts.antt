-- What is known of properties, in a word and as texts.
use Rattle.std.specs.Prelude.{◌≡◌, ℕ, ◌<◌, ◌^◌, List, [], ◌∷◌, ◌++◌, codes, decimal, map}
use Rattle.std.specs.List.{flat_map}
use Rattle.gipmc_aiger.specs.Traces.{lasso_text, witness_text}
use Rattle.gipmc_aiger.specs.declared.problem.Property.{Property}
use Rattle.gipmc_aiger.specs.declared.problem.Property.TheVariants.{Bad, Justice}
use Rattle.gipmc_circuits.specs.declared.trace.Trace.{Trace}
use Rattle.gipmc_task.specs.Outcomes.{both}
use Rattle.gipmc_task.specs.declared.answered.Answered.{Answered}
use Rattle.gipmc_task.specs.declared.outcome.Outcome.{Outcome}
use Rattle.gipmc_task.specs.declared.outcome.Outcome.TheVariants.{Fails, Safe, Open}
use Rattle.gipmc_task.specs.declared.verdict.Verdict.{Verdict}
use Rattle.gipmc_task.specs.declared.verdict.Verdict.TheVariants as verdict

-- what a verdict says of its property
abbrev pub outcome_of : Verdict → Outcome
outcome_of (verdict.Fails trace) = Fails
outcome_of (verdict.Holds by) = Safe
outcome_of (verdict.ClearTo n) = Open
outcome_of verdict.Unknown = Open

-- what answers say of their properties together
abbrev pub together : List Answered → Outcome
together [] = Safe
together (a ∷ answers) = both (outcome_of a.verdict) (together answers)

-- the place of a property among those of its kind
abbrev pub place_of : Property → ℕ
place_of (Bad place) = place
place_of (Justice place) = place

-- the places of the properties that are answered about
abbrev pub places_of : List Answered → List ℕ
places_of answers = map (λ a. place_of a.property) answers

-- the lines that name a property and end an answer
abbrev pub named : Property → List ℕ
named (Bad place) = codes "\nb" ++ decimal place ++ codes "\n.\n"
named (Justice place) = codes "\nj" ++ decimal place ++ codes "\n.\n"

-- the text of a trace by which a property fails
abbrev pub trace_text : Property → Trace → List ℕ
trace_text (Bad place) trace = witness_text place trace
trace_text (Justice place) trace = lasso_text place trace

-- the line that tells that nothing fails up to a depth
abbrev pub depth_text : ℕ → List ℕ
depth_text n = codes "u" ++ decimal n ++ codes "\n"

-- the text of a verdict: `1` and a witness, `0`, or `2`; before a `2` there may be a depth
abbrev pub text_of : Property → Verdict → List ℕ
text_of property (verdict.Fails trace) = trace_text property trace
text_of property (verdict.Holds by) = codes "0" ++ named property
text_of property (verdict.ClearTo n) = depth_text n ++ codes "2" ++ named property
text_of property verdict.Unknown = codes "2" ++ named property

-- the lines of some depths
abbrev pub depths_text : List ℕ → List ℕ
depths_text depths = flat_map depth_text depths

-- the text of an answer, behind the depths that were told before
abbrev pub answer_text : Answered → List ℕ
answer_text a = depths_text a.depths.items ++ text_of a.property a.verdict

-- the texts of answers, each behind those before it
abbrev pub texts_of : List Answered → List ℕ
texts_of answers = flat_map answer_text answers

-- the answer is one on this property, which a text may name, with these depths and this verdict
abbrev pub IsAnswerBy : Property → List ℕ → Verdict → Answered → Type 0
IsAnswerBy property depths v a =
    (a.property ≡ property) × (a.depths.items ≡ depths) × (a.verdict ≡ v) × (place_of property < 2 ^ 31)
