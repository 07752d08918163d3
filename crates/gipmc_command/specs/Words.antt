-- What the words of a command line ask for.
use Rattle.std.specs.Prelude.{ℕ, ◌&&◌, ◌||◌, Bool, true, false, List, if◌then◌else◌, codes, is_none}
use Rattle.std.specs.Prelude.{Option, Some, None, Result, Ok, Err}
use Rattle.std.specs.Option.{option_map}
use Rattle.std.specs.Result.{result_and, result_map_both}
use Rattle.gip_cli.specs.Asked.{ended, file_at, has, input_of, last_in, said_by, word, word_said}
use Rattle.gip_cli.specs.Items as items
use Rattle.gip_cli.specs.Items.{Said}
use Rattle.gip_cli.specs.declared.items.Info.{Info}
use Rattle.gipmc_command.specs.Misuses.{Misuse, Words, ExtraFile, TwoTasks, NoSearch, NoLimit, NoPart, NoProperty, InputTwice}
use Rattle.gipmc_command.specs.Options.{Request, request, request_of, table}
use Rattle.gipmc_command.specs.declared.options.Task.{Task}
use Rattle.gipmc_command.specs.declared.options.Task.TheVariants as task

-- the help or the version is told, a circuit is to be searched, the witness or the certificate in the file of this name is
-- to be replayed or checked for it, its properties are to be listed, or certificates are to be joined to one in the file
-- of this name; standard input has no name
pub data Work : Type 0 where
  Tell : Info → Work
  Answer : Request → Work
  Replay : Request → Option (List ℕ) → Work
  Certify : Request → Option (List ℕ) → Work
  Properties : Request → Work
  Join : Request → List ℕ → Work

-- no option of a search is given, and no limit where none is heeded: these are the last ones of both
abbrev pub heeded_as : Option (List ℕ) → Option (List ℕ) → Bool → Result Unit Misuse
heeded_as (Some word) limit unlimited = Err (NoSearch word)
heeded_as None (Some word) true = Err (NoLimit word)
heeded_as None limit unlimited = Ok tt

abbrev pub heeded : Bool → List Said → Result Unit Misuse
heeded unlimited said =
    heeded_as (word_said (last_in (codes "search") said)) (word_said (last_in (codes "limit") said)) unlimited

-- no property is asked about: this is the last option that does so
abbrev pub of_all_as : Option (List ℕ) → Result Unit Misuse
of_all_as (Some word) = Err (NoProperty word)
of_all_as None = Ok tt

abbrev pub of_all : List Said → Result Unit Misuse
of_all said = of_all_as (word_said (last_in (codes "property") said))

-- the file of an answer: the circuit does not come from standard input as well
abbrev pub answer_of : Request → List ℕ → Result (Option (List ℕ)) Misuse
answer_of r name =
    if is_none r.file && is_none (input_of name) then Err InputTwice
    else Ok (input_of name)

-- a search, or a check of one answer
abbrev pub task_of : Option (List ℕ) → Option (List ℕ) → List Said → Request → Result Work Misuse
task_of None None said r = Ok (Answer r)
task_of (Some witness) None said r =
    result_and (heeded true said) (result_map_both (Replay r) (λ e. e) (answer_of r witness))
task_of None (Some certificate) said r =
    result_and (heeded false said) (result_map_both (Certify r) (λ e. e) (answer_of r certificate))
task_of (Some witness) (Some certificate) said r = Err TwoTasks

abbrev pub search : List Said → Result Work Misuse
search said = task_of (word (codes "--replay") said) (word (codes "--certify") said) said (request said)

-- an answer is to be checked
abbrev pub checks : List Said → Bool
checks said = has (codes "--replay") said || has (codes "--certify") said

-- all properties are listed
abbrev pub list : List Said → Result Work Misuse
list said =
    if checks said then Err TwoTasks
    else result_and (heeded true said) (result_and (of_all said) (Ok (Properties (request said))))

-- a certificate is named behind the circuit
abbrev pub has_part : Option (List ℕ) → Result Unit Misuse
has_part (Some name) = Ok tt
has_part None = Err NoPart

abbrev pub parts : List Said → Result Unit Misuse
parts said = has_part (file_at 1 said)

-- certificates of all bad literals are joined to one in the file of this name
abbrev pub join : List Said → List ℕ → Result Work Misuse
join said out =
    if has (codes "--list") said || checks said then Err TwoTasks
    else result_and (heeded false said) (result_and (of_all said) (result_and (parts said) (Ok (Join (request said) out))))

-- of one file at most: a list, or a search or a check
abbrev pub work_of_files : Option (List ℕ) → List Said → Result Work Misuse
work_of_files (Some name) said = Err (ExtraFile name)
work_of_files None said = if has (codes "--list") said then list said else search said

-- certificates are joined, or that
abbrev pub work_by : Option (List ℕ) → List Said → Result Work Misuse
work_by (Some out) said = join said out
work_by None said = work_of_files (file_at 1 said) said

abbrev pub work : List Said → Result Work Misuse
work said = work_by (word (codes "--join") said) said

-- what is asked for, where words end so
abbrev pub work_after : Result (Option Info) items.Misuse → List Said → Result Work Misuse
work_after (Ok (Some info)) said = Ok (Tell info)
work_after (Ok None) said = work said
work_after (Err misuse) said = Err (Words misuse)

-- what is asked for
abbrev pub work_said : List Said → Result Work Misuse
work_said said = work_after (ended said) said

abbrev pub work_asked : List (List ℕ) → Result Work Misuse
work_asked words = work_said (said_by table words)

-- what a task asks for
abbrev pub work_of : Task → Work
work_of (task.Tell info) = Tell info
work_of (task.Search options) = Answer (request_of options)
work_of (task.Replay options witness) = Replay (request_of options) (option_map (λ name. name.now) witness)
work_of (task.Certify options certificate) = Certify (request_of options) (option_map (λ name. name.now) certificate)
work_of (task.List options) = Properties (request_of options)
work_of (task.Join options out) = Join (request_of options) out.now
