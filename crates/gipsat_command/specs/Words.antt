-- What the words of a command line ask for.
use Rattle.std.specs.Prelude.{ℕ, ◌&&◌, ◌||◌, List, if◌then◌else◌, codes, Option, Some, None, Result, Ok, Err}
use Rattle.std.specs.Option.{option_map}
use Rattle.std.specs.Result.{result_map_both}
use Rattle.std.specs.Str.{bytes_eq}
use Rattle.gip_cli.specs.Asked.{ended, file_at, has, input_of, last_in, number, said_by, word, word_said}
use Rattle.gip_cli.specs.Items as items
use Rattle.gip_cli.specs.Items.{Said}
use Rattle.gip_cli.specs.declared.items.Info.{Info}
use Rattle.gipsat_command.specs.Misuses.{Misuse, Words, CheckOfMore, ExtraFile, MissingCubes, MissingFile, NotFor, InputTwice}
use Rattle.gipsat_command.specs.Options.{Request, clash, request, request_of, table}
use Rattle.gipsat_command.specs.declared.options.Inputs.{Inputs}
use Rattle.gipsat_command.specs.declared.options.Task.{Task}
use Rattle.gipsat_command.specs.declared.options.Task.TheVariants as task

-- the help or the version is told, a formula is to be solved, a proof to be checked beside a formula, whose files have
-- these names, or a proof to be checked and written with hints; so many cubes of a formula are to be written, it is to be
-- solved under the cube of a number, or proofs of all parts are to be joined to a file; standard input has no name
pub data Work : Type 0 where
  Tell : Info → Work
  Solve : Request → Work
  Check : Option (List ℕ) → Option (List ℕ) → Work
  Convert : Request → Option (List ℕ) → List ℕ → Work
  Cubes : Request → ℕ → Work
  Part : Request → Option (List ℕ) → ℕ → Work
  Join : Request → Option (List ℕ) → List ℕ → Work

-- the file of cubes behind that of a formula, which are not both standard input
abbrev pub cubes_named : Option (List ℕ) → Option (List ℕ) → Result (Option (List ℕ)) Misuse
cubes_named (Some formula) (Some cubes) =
    if bytes_eq formula (codes "-") && bytes_eq cubes (codes "-") then Err InputTwice else Ok (input_of cubes)
cubes_named (Some formula) None = Err MissingCubes
cubes_named None cubes = Err MissingCubes

abbrev pub cubes_of : List Said → Result (Option (List ℕ)) Misuse
cubes_of said = cubes_named (file_at 0 said) (file_at 1 said)

-- a search under the cube of this number, if no two options clash
abbrev pub part_of : Option Misuse → List Said → ℕ → Result Work Misuse
part_of (Some misuse) said number = Err misuse
part_of None said number = result_map_both (λ cubes. Part (request said) cubes number) (λ e. e) (cubes_of said)

abbrev pub part : List Said → ℕ → Result Work Misuse
part said number = part_of (clash said) said number

-- a search, or cubes, of one file at most, if no two options clash
abbrev pub whole_of : Option (List ℕ) → Option Misuse → Option ℕ → List Said → Result Work Misuse
whole_of (Some name) misuse most said = Err (ExtraFile name)
whole_of None (Some misuse) most said = Err misuse
whole_of None None (Some most) said = Ok (Cubes (request said) most)
whole_of None None None said = Ok (Solve (request said))

-- a search under a cube, or of the whole formula
abbrev pub search_of : Option ℕ → List Said → Result Work Misuse
search_of (Some cube) said = part said cube
search_of None said = whole_of (file_at 1 said) (clash said) (number (codes "--cubes") said) said

abbrev pub search : List Said → Result Work Misuse
search said = search_of (number (codes "--cube") said) said

-- the names of two files, each none for standard input
abbrev pub names_of : Inputs → Option (List ℕ) × Option (List ℕ)
names_of files = (option_map (λ name. name.now) files.formula, option_map (λ name. name.now) files.proof)

-- the two files of a check, which are not both standard input
abbrev pub files_named : Option (List ℕ) → Option (List ℕ) → Result (Option (List ℕ) × Option (List ℕ)) Misuse
files_named (Some formula) (Some proof) =
    if bytes_eq formula (codes "-") && bytes_eq proof (codes "-") then Err InputTwice
    else Ok (input_of formula, input_of proof)
files_named (Some formula) None = Err MissingFile
files_named None proof = Err MissingFile

abbrev pub files_of : List Said → Result (Option (List ℕ) × Option (List ℕ)) Misuse
files_of said = files_named (file_at 0 said) (file_at 1 said)

-- a check that writes no proof, and so takes no option that says how one is written
abbrev pub plain_check_of : Option (List ℕ) → List Said → Result Work Misuse
plain_check_of None said = result_map_both (λ files. Check files.0 files.1) (λ e. e) (files_of said)
plain_check_of (Some word) said = Err (NotFor (codes "--check") word)

abbrev pub plain_check : List Said → Result Work Misuse
plain_check said = plain_check_of (word_said (last_in (codes "form") said)) said

-- a check that writes a proof with hints to this file
abbrev pub conversion : List Said → List ℕ → Result Work Misuse
conversion said out = result_map_both (λ files. Convert (request said) files.1 out) (λ e. e) (files_of said)

-- the option that asks for a check, with or without a proof to write
abbrev pub checker : Option (List ℕ) → List ℕ
checker None = codes "--check"
checker (Some out) = codes "--lrat-from-drat"

-- a check, with no option of a search
abbrev pub check_of : Option (List ℕ) → Option (List ℕ) → List Said → Result Work Misuse
check_of (Some word) out said = Err (NotFor (checker out) word)
check_of None (Some out) said = conversion said out
check_of None None said = plain_check said

abbrev pub check : List Said → Result Work Misuse
check said = check_of (word_said (last_in (codes "search") said)) (word (codes "--lrat-from-drat") said) said

-- a check or a search, of two files at most
abbrev pub work_of_files : Option (List ℕ) → List Said → Result Work Misuse
work_of_files (Some name) said = Err (ExtraFile name)
work_of_files None said =
    if has (codes "--check") said || has (codes "--lrat-from-drat") said then check said else search said

-- proofs to join to this file, with no option of a search
abbrev pub join_of : Option (List ℕ) → List Said → List ℕ → Result Work Misuse
join_of (Some word) said out = Err (NotFor (codes "--join") word)
join_of None said out =
    if has (codes "--check") said || has (codes "--lrat-from-drat") said then Err CheckOfMore
    else result_map_both (λ cubes. Join (request said) cubes out) (λ e. e) (cubes_of said)

abbrev pub join : List Said → List ℕ → Result Work Misuse
join said out = join_of (word_said (last_in (codes "search") said)) said out

-- proofs to join, or else a check or a search
abbrev pub work_of_word : Option (List ℕ) → List Said → Result Work Misuse
work_of_word (Some out) said = join said out
work_of_word None said = work_of_files (file_at 2 said) said

abbrev pub work : List Said → Result Work Misuse
work said = work_of_word (word (codes "--join") said) said

-- what is asked for, where words end so
abbrev pub work_after : Result (Option Info) items.Misuse → List Said → Result Work Misuse
work_after (Ok (Some info)) said = Ok (Tell info)
work_after (Ok None) said = work said
work_after (Err misuse) said = Err (Words misuse)

-- what is asked for
abbrev pub work_said : List Said → Result Work Misuse
work_said said = work_after (ended said) said

abbrev pub work_asked : List (List ℕ) → Result Work Misuse
work_asked words = work_said (said_by table words)

-- what a task asks for
abbrev pub work_of : Task → Work
work_of (task.Tell info) = Tell info
work_of (task.Solve options) = Solve (request_of options)
work_of (task.Convert options proof out) = Convert (request_of options) (option_map (λ name. name.now) proof) out.now
work_of (task.Cubes options most) = Cubes (request_of options) most
work_of (task.Part options cubes number) = Part (request_of options) (option_map (λ name. name.now) cubes) number
work_of (task.Join options cubes out) = Join (request_of options) (option_map (λ name. name.now) cubes) out.now
work_of (task.Check formula proof) = Check (option_map (λ name. name.now) formula) (option_map (λ name. name.now) proof)
