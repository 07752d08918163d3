-- What is answered, replayed and certified of the problem that some bytes write.
use Rattle.std.specs.Prelude.{◌≡◌, ℕ, zero, suc, ◌+◌, ◌<◌, List, [], ◌∷◌, ◌++◌, Some, Vec, length, slice_get, ⊤}
use Rattle.std.specs.declared.alloc.Global.{Global}
use Rattle.gipsat_cnf.specs.Literals.{Lit}
use Rattle.gipmc_aiger.specs.LiveCircuits.{IsProblemOf}
use Rattle.gipmc_aiger.specs.declared.problem.Problem.{Problem}
use Rattle.gipmc_aiger.specs.declared.problem.Property.{Property}
use Rattle.gipmc_aiger.specs.declared.problem.Property.TheVariants.{Bad, Justice}
use Rattle.gipmc_aiger.specs.declared.problem.Subject.{Subject}
use Rattle.gipmc_aiger.specs.declared.problem.Subject.TheVariants.{All, Any, One}
use Rattle.gipmc_circuits.specs.Circuit.{FailsAfter, IsSafe}
use Rattle.gipmc_reduce.specs.Liveness.{FailsForever, IsLive}
use Rattle.gipmc_task.specs.Certificates.{Certifies}
use Rattle.gipmc_task.specs.Witnesses.{Replays, ReplaysAll}
use Rattle.gipmc_task.specs.declared.kind.PropertyKind.TheVariants as kind
use Rattle.gipmc_task.specs.declared.outcome.Outcome.{Outcome}
use Rattle.gipmc_task.specs.declared.outcome.Outcome.TheVariants.{Fails, Safe, Open}

-- the bytes write a problem of which this holds
abbrev pub WriteOne : List ℕ → (Problem → Type 0) → Type 0
WriteOne bytes P = (p : Problem) × IsProblemOf bytes p × P p

-- the property holds: no trace ends where the bad literal is true; on no run do the fairness constraints and the
-- literals of the justice property all recur
abbrev pub Holds : Problem → Property → Type 0
Holds p (Bad place) =
    (bad : Lit) → slice_get p.netlist.circuit.bads.items place ≡ Some bad → IsSafe p.netlist.circuit bad
Holds p (Justice place) =
    (justice : Vec Lit Global) → slice_get p.liveness.justice.items place ≡ Some justice
    → IsLive p.netlist.circuit p.liveness.fairness.items justice.items

-- the problem has the property, and it fails: such a trace there is, or such a run
abbrev pub IsFailing : Problem → Property → Type 0
IsFailing p (Bad place) =
    (bad : Lit) × (slice_get p.netlist.circuit.bads.items place ≡ Some bad) × (n : ℕ)
    × FailsAfter p.netlist.circuit bad n
IsFailing p (Justice place) =
    (justice : Vec Lit Global) × (slice_get p.liveness.justice.items place ≡ Some justice)
    × FailsForever p.netlist.circuit p.liveness.fairness.items justice.items

-- the property is one of those that are asked about
abbrev pub IsAbout : Subject → Property → Type 0
IsAbout All property = ⊤
IsAbout Any (Bad place) = ⊤
IsAbout Any (Justice place) = ⊥
IsAbout (One asked) property = property ≡ asked

-- the problem has what is asked about: some bad literal, or this property
abbrev pub Has : Problem → Subject → Type 0
Has p All = ⊤
Has p Any = 0 < length p.netlist.circuit.bads.items
Has p (One (Bad place)) = place < length p.netlist.circuit.bads.items
Has p (One (Justice place)) = place < length p.liveness.justice.items

-- each property that is asked about holds, or one of them fails
abbrev pub IsRightOutcome : Problem → Subject → Outcome → Type 0
IsRightOutcome p asked Safe = Has p asked × ((property : Property) → IsAbout asked property → Holds p property)
IsRightOutcome p asked Fails = (property : Property) × IsAbout asked property × IsFailing p property
IsRightOutcome p asked Open = ⊤

-- so it is of the problem that the bytes write
abbrev pub IsAnswered : List ℕ → Subject → Outcome → Type 0
IsAnswered bytes asked outcome = WriteOne bytes (λ p. IsRightOutcome p asked outcome)

-- the text writes witnesses of bad literals, of justice properties, or of both, and all of them are right
abbrev pub ReplaysEach : Problem → List ℕ → Type 0
ReplaysEach p text =
    (m : ℕ) × (n : ℕ) × ReplaysAll p kind.Bad text m × ReplaysAll p kind.Justice text n × (0 < m + n)

-- it writes witnesses of the property that is asked about, or of each that it names
abbrev pub ReplaysAsked : Problem → List ℕ → Subject → Type 0
ReplaysAsked p text All = ReplaysEach p text
ReplaysAsked p text Any = ReplaysEach p text
ReplaysAsked p text (One (Bad place)) = Replays p kind.Bad text (Some place)
ReplaysAsked p text (One (Justice place)) = Replays p kind.Justice text (Some place)

-- some text is a certificate of all its bad literals
abbrev pub IsShownSafe : Problem → Type 0
IsShownSafe p = (text : List ℕ) × Certifies p text All

-- some properties, and behind them the first n of a kind
abbrev pub followed : List Property → (ℕ → Property) → ℕ → List Property
followed before kind zero = before
followed before kind (suc n) = followed before kind n ++ kind n ∷ []

-- the properties of a problem, in the order of their answers: bad literals, and then justice properties
abbrev pub properties : Problem → List Property
properties p =
    followed (followed [] Bad (length p.netlist.circuit.bads.items)) Justice (length p.liveness.justice.items)

-- what is asked about, if that is one property, and otherwise this
abbrev pub asked_or : Subject → Subject → Subject
asked_or All otherwise = otherwise
asked_or Any otherwise = otherwise
asked_or (One property) otherwise = One property
