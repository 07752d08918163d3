-- Worked examples of command lines.
use Rattle.std.proofs.Common.{◌≡◌, ℕ, List, [], ◌∷◌, refl, codes, Some, None, Ok, Err, true, false}
use Rattle.std.specs.Prelude.{Option}
use Rattle.gip_cli.specs.Asked.{has, number, said_by, word}
use Rattle.gip_cli.specs.Items.{NoChoice, NoNumber, NoOutput, NoValue, Said, UnknownOption}
use Rattle.gip_cli.specs.declared.items.Info.TheVariants as info
use Rattle.gipmc_command.specs.Misuses.{Words, ExtraFile, TwoTasks, NoSearch, NoLimit, NoPart, NoProperty, InputTwice}
use Rattle.gipmc_aiger.specs.declared.problem.Property.TheVariants.{Bad, Justice}
use Rattle.gipmc_aiger.specs.declared.problem.Subject.{Subject}
use Rattle.gipmc_aiger.specs.declared.problem.Subject.TheVariants.{All, Any, One}
use Rattle.gipmc_command.specs.Options.{Request, table}
use Rattle.gipmc_command.specs.Words.{work_asked, Tell, Answer, Replay, Certify, Properties, Join}

abbrev said : List (List ℕ) → List Said
said words = said_by table words

-- what some words ask for, about these properties of this file
abbrev asked : List (List ℕ) → Option (List ℕ) → Subject → Request
asked words file subject = record { said = said words; file = file; subject = subject }

nothing : work_asked [] ≡ Ok (Answer (asked [] None All))
nothing = refl

abbrev settings : List (List ℕ)
settings = codes "--bad" ∷ codes "1" ∷ codes "--depth" ∷ codes "9" ∷ codes "a" ∷ codes "--engine=bmc" ∷ codes "-q" ∷ []

settings-asked : work_asked settings ≡ Ok (Answer (asked settings (Some (codes "a")) (One (Bad 1))))
settings-asked = refl

settings-depth : number (codes "--depth") (said settings) ≡ Some 9
settings-depth = refl

settings-engine : word (codes "--engine") (said settings) ≡ Some (codes "bmc")
settings-engine = refl

settings-quiet : has (codes "--quiet") (said settings) ≡ true
settings-quiet = refl

settings-stats : has (codes "--stats") (said settings) ≡ false
settings-stats = refl

-- of `--bad` and `--justice` the last one counts
abbrev properties : List (List ℕ)
properties = codes "--bad" ∷ codes "1" ∷ codes "--justice" ∷ codes "2" ∷ []

properties-last : work_asked properties ≡ Ok (Answer (asked properties None (One (Justice 2))))
properties-last = refl

-- a switch may be the last one
abbrev any : List (List ℕ)
any = codes "--justice=2" ∷ codes "--any" ∷ []

any-asked : work_asked any ≡ Ok (Answer (asked any None Any))
any-asked = refl

any-before_another : work_asked (codes "--any" ∷ properties)
    ≡ Ok (Answer (asked (codes "--any" ∷ properties) None (One (Justice 2))))
any-before_another = refl

-- beside an answer that is checked too
abbrev any_checked : List (List ℕ)
any_checked = codes "--certify=c" ∷ codes "--bad=1" ∷ codes "--any" ∷ []

any_checked-asked : work_asked any_checked ≡ Ok (Certify (asked any_checked None Any) (Some (codes "c")))
any_checked-asked = refl

-- a limit may be 0
abbrev no_memory : List (List ℕ)
no_memory = codes "--memory=0" ∷ []

no_memory-asked : work_asked no_memory ≡ Ok (Answer (asked no_memory None All))
no_memory-asked = refl

no_memory-counted : number (codes "--memory") (said no_memory) ≡ Some 0
no_memory-counted = refl

-- a minus is standard input
abbrev minus : List (List ℕ)
minus = codes "-" ∷ []

minus-asked : work_asked minus ≡ Ok (Answer (asked minus None All))
minus-asked = refl

abbrev replay : List (List ℕ)
replay = codes "a" ∷ codes "--replay" ∷ codes "w" ∷ []

replay-asked : work_asked replay ≡ Ok (Replay (asked replay (Some (codes "a")) All) (Some (codes "w")))
replay-asked = refl

-- the answer comes from standard input
abbrev replay_stdin : List (List ℕ)
replay_stdin = codes "--replay=-" ∷ codes "a" ∷ []

replay_stdin-asked : work_asked replay_stdin ≡ Ok (Replay (asked replay_stdin (Some (codes "a")) All) None)
replay_stdin-asked = refl

-- the circuit comes from standard input; a certificate may be left open, and a witness not
abbrev certify : List (List ℕ)
certify = codes "--limit" ∷ codes "5" ∷ codes "--certify" ∷ codes "c" ∷ codes "--bad" ∷ codes "0" ∷ []

certify-asked : work_asked certify ≡ Ok (Certify (asked certify None (One (Bad 0))) (Some (codes "c")))
certify-asked = refl

refused-limit_of_a_witness : work_asked (codes "--limit" ∷ codes "5" ∷ codes "--replay" ∷ codes "w" ∷ [])
    ≡ Err (NoLimit (codes "--limit"))
refused-limit_of_a_witness = refl

-- the properties of a file
abbrev listed : List (List ℕ)
listed = codes "--list" ∷ codes "a" ∷ []

listed-asked : work_asked listed ≡ Ok (Properties (asked listed (Some (codes "a")) All))
listed-asked = refl

refused-list_of_one : work_asked (codes "--list" ∷ codes "--bad=1" ∷ []) ≡ Err (NoProperty (codes "--bad=1"))
refused-list_of_one = refl

-- certificates stand behind the circuit
abbrev joined : List (List ℕ)
joined = codes "--join" ∷ codes "o" ∷ codes "--limit=5" ∷ codes "a" ∷ codes "p" ∷ codes "q" ∷ []

joined-asked : work_asked joined ≡ Ok (Join (asked joined (Some (codes "a")) All) (codes "o"))
joined-asked = refl

refused-joined_list : work_asked (codes "--list" ∷ codes "--join=o" ∷ codes "a" ∷ []) ≡ Err TwoTasks
refused-joined_list = refl

refused-joined_of_none : work_asked (codes "--join=o" ∷ codes "a" ∷ []) ≡ Err NoPart
refused-joined_of_none = refl

refused-joined_of_one : work_asked (codes "--join=o" ∷ codes "--any" ∷ codes "a" ∷ []) ≡ Err (NoProperty (codes "--any"))
refused-joined_of_one = refl

-- the status of a search may be 0 whatever is found, and that of a check may not
abbrev zero : List (List ℕ)
zero = codes "--exit-zero" ∷ codes "a" ∷ []

zero-asked : work_asked zero ≡ Ok (Answer (asked zero (Some (codes "a")) All))
zero-asked = refl

refused-zero_of_a_witness : work_asked (codes "--replay=w" ∷ codes "--exit-zero" ∷ codes "a" ∷ [])
    ≡ Err (NoSearch (codes "--exit-zero"))
refused-zero_of_a_witness = refl

-- the help is told whatever stands behind it
help : work_asked (codes "--stats" ∷ codes "-h" ∷ codes "--other" ∷ []) ≡ Ok (Tell info.Help)
help = refl

refused-option : work_asked (codes "--deep=3" ∷ []) ≡ Err (Words (UnknownOption (codes "--deep=3")))
refused-option = refl

refused-no_value : work_asked (codes "a" ∷ codes "--replay" ∷ []) ≡ Err (Words (NoValue (codes "--replay")))
refused-no_value = refl

refused-number : work_asked (codes "--depth" ∷ codes "7x" ∷ []) ≡ Err (Words (NoNumber (codes "--depth") (codes "7x")))
refused-number = refl

refused-engine : work_asked (codes "--engine" ∷ codes "ic4" ∷ [])
    ≡ Err (Words (NoChoice (codes "--engine") (codes "ic4")))
refused-engine = refl

refused-stdout : work_asked (codes "--certificate=-" ∷ []) ≡ Err (Words NoOutput)
refused-stdout = refl

refused-two_files : work_asked (codes "a" ∷ codes "b" ∷ []) ≡ Err (ExtraFile (codes "b"))
refused-two_files = refl

refused-two_answers : work_asked (codes "--replay" ∷ codes "w" ∷ codes "--certify" ∷ codes "c" ∷ []) ≡ Err TwoTasks
refused-two_answers = refl

refused-certificate : work_asked (codes "--replay" ∷ codes "w" ∷ codes "--certificate" ∷ codes "c" ∷ [])
    ≡ Err (NoSearch (codes "--certificate"))
refused-certificate = refl

refused-depth_of_a_certificate : work_asked (codes "--depth=9" ∷ codes "--certify" ∷ codes "c" ∷ [])
    ≡ Err (NoSearch (codes "--depth=9"))
refused-depth_of_a_certificate = refl

refused-stdin_twice : work_asked (codes "--replay" ∷ codes "-" ∷ codes "-" ∷ []) ≡ Err InputTwice
refused-stdin_twice = refl
