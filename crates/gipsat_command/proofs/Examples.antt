-- Worked examples of command lines, and of the status of a check.
use Rattle.std.proofs.Common.{◌≡◌, ◌^◌, ◌-◌, ℕ, List, [], ◌∷◌, refl, codes, Some, None, Ok, Err, true, false}
use Rattle.std.proofs.lemmas.Bool.{false≢true}
use Rattle.std.specs.Prelude.{Option}
use Rattle.gip_cli.specs.Asked.{has, number, said_by, word}
use Rattle.gip_cli.specs.Items.{NoNumber, NoOutput, NoValue, Said, UnknownOption}
use Rattle.gip_cli.specs.declared.items.Info.TheVariants as info
use Rattle.gipsat_dimacs.specs.declared.rule.HeaderRule.TheVariants.{Relaxed, Strict}
use Rattle.gipsat_drat.specs.declared.error.Flaw.TheVariants.{NotShown}
use Rattle.gipsat_drat.specs.declared.error.Outcome.TheVariants.{Verified, Refused}
use Rattle.gipsat_drat.specs.declared.error.Place.TheVariants.{Line}
use Rattle.gipsat_command.specs.Misuses.{Words, CheckOfMore, CubesOfMore, ExtraFile, MissingCubes, MissingFile, MissingHints, MissingModels, MissingProof, PartOfMore, ProofOfMore, NotFor, InputTwice}
use Rattle.gipsat_command.specs.Options.{Request, table}
use Rattle.gipsat_command.specs.Statuses.{TellsVerified, checking_status}
use Rattle.gipsat_command.specs.Words.{work_asked, Tell, Solve, Check, Convert, Cubes, Part, Join}

abbrev said : List (List ℕ) → List Said
said words = said_by table words

-- what words ask for that set no limit, nor how many models there are to be, about this file
abbrev asked : List (List ℕ) → Option (List ℕ) → Request
asked words file = record {
  said = said words;
  file = file;
  conflicts = 2 ^ 64 - 1;
  witness = true;
  models = None;
  rule = Strict;
  force = false;
}

nothing : work_asked [] ≡ Ok (Solve (asked [] None))
nothing = refl

abbrev limits : List (List ℕ)
limits = codes "--conflicts" ∷ codes "7" ∷ codes "-t9" ∷ codes "--proof" ∷ codes "p" ∷ codes "a" ∷ []

limits-asked : work_asked limits ≡ Ok (Solve (record (asked limits (Some (codes "a"))) { conflicts = 7 }))
limits-asked = refl

limits-time : number (codes "--time") (said limits) ≡ Some 9
limits-time = refl

limits-proof : word (codes "--proof") (said limits) ≡ Some (codes "p")
limits-proof = refl

abbrev switches : List (List ℕ)
switches = codes "-" ∷ codes "--relaxed" ∷ codes "-q" ∷ codes "-n" ∷ []

-- a minus is standard input
switches-asked : work_asked switches ≡ Ok (Solve (record (asked switches None) { witness = false; rule = Relaxed }))
switches-asked = refl

switches-quiet : has (codes "--quiet") (said switches) ≡ true
switches-quiet = refl

switches-stats : has (codes "--stats") (said switches) ≡ false
switches-stats = refl

-- 0 stands for all models
abbrev all_models : List (List ℕ)
all_models = codes "--models" ∷ codes "0" ∷ codes "--project=1 2" ∷ []

all_models-asked : work_asked all_models ≡ Ok (Solve (record (asked all_models None) { models = Some (2 ^ 64 - 1) }))
all_models-asked = refl

abbrev some_models : List (List ℕ)
some_models = codes "--models=5" ∷ codes "--assume=3" ∷ []

some_models-asked : work_asked some_models ≡ Ok (Solve (record (asked some_models None) { models = Some 5 }))
some_models-asked = refl

refused-project : work_asked (codes "--project" ∷ codes "1" ∷ []) ≡ Err MissingModels
refused-project = refl

refused-proof_of_models : work_asked (codes "--models" ∷ codes "2" ∷ codes "--proof" ∷ codes "p" ∷ []) ≡ Err ProofOfMore
refused-proof_of_models = refl

refused-proof_of_assumptions : work_asked (codes "--proof=p" ∷ codes "--assume=1" ∷ []) ≡ Err ProofOfMore
refused-proof_of_assumptions = refl

check-two_files : work_asked (codes "a" ∷ codes "--check" ∷ codes "b" ∷ []) ≡ Ok (Check (Some (codes "a")) (Some (codes "b")))
check-two_files = refl

check-stdin : work_asked (codes "--check" ∷ codes "-" ∷ codes "b" ∷ []) ≡ Ok (Check None (Some (codes "b")))
check-stdin = refl

-- a check that writes a proof with hints, with the options of that alone
abbrev convert : List (List ℕ)
convert = codes "--check" ∷ codes "--binary" ∷ codes "a" ∷ codes "-" ∷ codes "--lrat-from-drat=o" ∷ codes "-f" ∷ []

convert-asked : work_asked convert ≡ Ok (Convert (record (asked convert (Some (codes "a"))) { force = true }) None (codes "o"))
convert-asked = refl

refused-check_in_binary : work_asked (codes "--check" ∷ codes "--binary" ∷ codes "a" ∷ codes "b" ∷ []) ≡ Err (NotFor (codes "--check") (codes "--binary"))
refused-check_in_binary = refl

refused-convert_with_option : work_asked (codes "--lrat-from-drat" ∷ codes "o" ∷ codes "--lrat" ∷ codes "a" ∷ codes "b" ∷ [])
    ≡ Err (NotFor (codes "--lrat-from-drat") (codes "--lrat"))
refused-convert_with_option = refl

-- cubes, a part, whose cubes may be standard input, and proofs to join
abbrev cubes : List (List ℕ)
cubes = codes "--cubes=4" ∷ codes "a" ∷ []

cubes-asked : work_asked cubes ≡ Ok (Cubes (asked cubes (Some (codes "a"))) 4)
cubes-asked = refl

abbrev part : List (List ℕ)
part = codes "--cube" ∷ codes "2" ∷ codes "a" ∷ codes "-" ∷ codes "--lrat" ∷ codes "--proof=p" ∷ []

part-asked : work_asked part ≡ Ok (Part (asked part (Some (codes "a"))) None 2)
part-asked = refl

abbrev join : List (List ℕ)
join = codes "-f" ∷ codes "--join=o" ∷ codes "a" ∷ codes "b" ∷ codes "c" ∷ codes "d" ∷ []

join-asked : work_asked join ≡ Ok (Join (record (asked join (Some (codes "a"))) { force = true }) (Some (codes "b")) (codes "o"))
join-asked = refl

refused-part_without_cubes : work_asked (codes "--cube=1" ∷ codes "a" ∷ []) ≡ Err MissingCubes
refused-part_without_cubes = refl

refused-part_of_stdin : work_asked (codes "--cube=1" ∷ codes "-" ∷ codes "-" ∷ []) ≡ Err InputTwice
refused-part_of_stdin = refl

refused-part_of_models : work_asked (codes "--cube=1" ∷ codes "--models=2" ∷ codes "a" ∷ codes "b" ∷ []) ≡ Err PartOfMore
refused-part_of_models = refl

refused-part_in_drat : work_asked (codes "--cube=1" ∷ codes "--proof=p" ∷ codes "a" ∷ codes "b" ∷ []) ≡ Err MissingHints
refused-part_in_drat = refl

refused-cubes_and_a_proof : work_asked (codes "--cubes=1" ∷ codes "--proof=p" ∷ codes "a" ∷ []) ≡ Err CubesOfMore
refused-cubes_and_a_proof = refl

refused-join_with_option : work_asked (codes "--join=o" ∷ codes "--lrat" ∷ codes "a" ∷ codes "b" ∷ []) ≡ Err (NotFor (codes "--join") (codes "--lrat"))
refused-join_with_option = refl

refused-join_and_check : work_asked (codes "--join=o" ∷ codes "--check" ∷ codes "a" ∷ codes "b" ∷ []) ≡ Err CheckOfMore
refused-join_and_check = refl

-- the help is told whatever stands behind it
help : work_asked (codes "--stats" ∷ codes "-h" ∷ codes "--other" ∷ []) ≡ Ok (Tell info.Help)
help = refl

refused-option : work_asked (codes "--stat" ∷ []) ≡ Err (Words (UnknownOption (codes "--stat")))
refused-option = refl

refused-stdout : work_asked (codes "--proof=-" ∷ codes "a" ∷ []) ≡ Err (Words NoOutput)
refused-stdout = refl

refused-no_value : work_asked (codes "a" ∷ codes "--proof" ∷ []) ≡ Err (Words (NoValue (codes "--proof")))
refused-no_value = refl

refused-number : work_asked (codes "--conflicts" ∷ codes "7x" ∷ []) ≡ Err (Words (NoNumber (codes "--conflicts") (codes "7x")))
refused-number = refl

refused-two_files : work_asked (codes "a" ∷ codes "b" ∷ []) ≡ Err (ExtraFile (codes "b"))
refused-two_files = refl

refused-lrat_without_a_proof : work_asked (codes "--lrat" ∷ codes "a" ∷ []) ≡ Err MissingProof
refused-lrat_without_a_proof = refl

refused-check_of_one : work_asked (codes "--check" ∷ codes "a" ∷ []) ≡ Err MissingFile
refused-check_of_one = refl

refused-check_of_three : work_asked (codes "--check" ∷ codes "a" ∷ codes "b" ∷ codes "c" ∷ []) ≡ Err (ExtraFile (codes "c"))
refused-check_of_three = refl

refused-check_with_option : work_asked (codes "--stats" ∷ codes "--check" ∷ codes "a" ∷ codes "b" ∷ [])
    ≡ Err (NotFor (codes "--check") (codes "--stats"))
refused-check_with_option = refl

refused-check_of_stdin : work_asked (codes "--check" ∷ codes "-" ∷ codes "-" ∷ []) ≡ Err InputTwice
refused-check_of_stdin = refl

status-verified : checking_status Verified ≡ 0
status-verified = refl

status-refused : checking_status (Refused (record { place = Line 3; flaw = NotShown })) ≡ 1
status-refused = refl

-- the formula has a clause without literals, or one that something satisfies
verified : TellsVerified (Some (codes "p cnf 1 1\n0\n")) (Some (codes "c\n")) (Some (codes "c\ns VERIFIED\n"))
verified = (refl, ((λ (a, sat). false≢true sat), refl))

verified-one : TellsVerified (Some (codes "p cnf 1 1\n1 0\n")) (Some []) (Some (codes "s VERIFIED\n")) → ⊥
verified-one (form, (none, appends)) = none ((λ v. true), refl)

verified-other_form : TellsVerified (Some (codes "1 0\n")) (Some []) (Some (codes "s VERIFIED\n")) → ⊥
verified-other_form (form, told) = false≢true form
