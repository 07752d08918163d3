-- What the status of a run says, by what its words ask for, and by what the files have that they name.
use Rattle.std.specs.Prelude.{◌≡◌, ℕ, List, Option, Ok, IfSome, ⊤}
use Rattle.gipmc_command.specs.Options.{Request}
use Rattle.gipmc_command.specs.Words.{Answer, Certify, Join, Properties, Replay, Tell, Work, work_asked}
use Rattle.gipmc_task.specs.Certificates.{Certifies}
use Rattle.gipmc_task.specs.declared.outcome.Outcome.{Outcome}
use Rattle.gipmc.specs.Asked.{IsAnswered, IsShownSafe, ReplaysAsked, WriteOne}
use Rattle.gipmc.specs.Texts.{text_read}

-- the bytes of each file by its name, where they are known; standard input has no name
abbrev pub Contents : Type 0
Contents = Option (List ℕ) → Option (List ℕ)

-- if the bytes of a file are known, this holds of the text that is read of them
abbrev pub IfText : Contents → Option (List ℕ) → (List ℕ → Type 0) → Type 0
IfText files name P = IfSome (files name) (λ bytes. P (text_read bytes))

-- the file of the circuit writes one of which this is known, as to what is asked for
abbrev pub IsFound : Contents → Request → Outcome → Type 0
IsFound files r outcome = IfText files r.file (λ bytes. IsAnswered bytes r.subject outcome)

-- it writes one, and the file of the witnesses has right ones of what is asked for
abbrev pub IsReplayed : Contents → Request → Option (List ℕ) → Type 0
IsReplayed files r witness =
    IfText files r.file
    (λ bytes. IfText files witness (λ text. WriteOne bytes (λ p. ReplaysAsked p text r.subject)))

-- it writes one, and the file of the certificate certifies what is asked for
abbrev pub IsCertified : Contents → Request → Option (List ℕ) → Type 0
IsCertified files r certificate =
    IfText files r.file
    (λ bytes. IfText files certificate (λ text. WriteOne bytes (λ p. Certifies p text r.subject)))

-- the file of the circuit writes one that some certificate shows safe
abbrev pub IsJoined : Contents → Request → Type 0
IsJoined files r = IfText files r.file (λ bytes. WriteOne bytes IsShownSafe)

-- the work is a search, and this was found of what it asks for
abbrev pub Finds : Contents → Outcome → Work → Type 0
Finds files outcome (Tell info) = ⊥
Finds files outcome (Answer r) = IsFound files r outcome
Finds files outcome (Replay r witness) = ⊥
Finds files outcome (Certify r certificate) = ⊥
Finds files outcome (Properties r) = ⊥
Finds files outcome (Join r out) = ⊥

-- if the work is a check of an answer, that is right; if it joins certificates, the circuit is shown safe
abbrev pub Verifies : Contents → Work → Type 0
Verifies files (Tell info) = ⊤
Verifies files (Answer r) = ⊤
Verifies files (Replay r witness) = IsReplayed files r witness
Verifies files (Certify r certificate) = IsCertified files r certificate
Verifies files (Properties r) = ⊤
Verifies files (Join r out) = IsJoined files r

-- the words ask for work of which this holds
abbrev pub Ask : List (List ℕ) → (Work → Type 0) → Type 0
Ask words P = (work : Work) × (work_asked words ≡ Ok work) × P work
