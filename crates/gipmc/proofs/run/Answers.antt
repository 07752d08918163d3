-- What the words ask for was done. What tells of the program, and a check, end with 0 or with 1.
use Rattle.std.proofs.Common.{◌≡◌, ℕ, List, arith, map, string_bytes, sym}
use Rattle.gip_cli.specs.Statuses.{IsEndedStatus}
use Rattle.gipmc_command.specs.Options.{request_of}
use Rattle.gipmc_command.specs.Words.{Answer, work_of}
use Rattle.gipmc_command.specs.declared.options.Task.TheVariants as task
use Rattle.gipmc.specs.Runs.{Ask, Contents, Finds}
use Rattle.gipmc_task.specs.declared.outcome.Outcome.TheVariants.{Fails, Safe}
use Rattle.gipmc.proofs.Ended.{no_other}
use Rattle.gipmc.proofs.run.Goals as goal

-- what ends with 0 or with 1 finds nothing
never-safe : (words : List (List ℕ)) (files : Contents) (status : ℕ) → IsEndedStatus status → status ≡ 20
    → Ask words (Finds files Safe)
never-safe words files status ends is = no_other (Ask words (Finds files Safe)) status 20 ends is (omega arith)

never-fails : (words : List (List ℕ)) (files : Contents) (status : ℕ) → IsEndedStatus status → status ≡ 10
    → Ask words (Finds files Fails)
never-fails words files status ends is = no_other (Ask words (Finds files Fails)) status 10 ends is (omega arith)

pub returns-in-Ok-Tell-clause-safe : goal.returns-in-Ok-Tell-clause-safe
returns-in-Ok-Tell-clause-safe g c is =
    never-safe (map string_bytes c.args.words.now) (g.T.Texts.bytes c.args.texts.now) _ c.tell.ensures is

pub returns-in-Ok-Tell-clause-fails : goal.returns-in-Ok-Tell-clause-fails
returns-in-Ok-Tell-clause-fails g c is =
    never-fails (map string_bytes c.args.words.now) (g.T.Texts.bytes c.args.texts.now) _ c.tell.ensures is

pub returns-in-Ok-Tell-clause-verified : goal.returns-in-Ok-Tell-clause-verified
returns-in-Ok-Tell-clause-verified g c is =
    (work_of (task.Tell c.in-Ok-Tell.info), sym (rw c.in-Ok-Tell.field-0-is at c.in-Ok-Tell.ensures), tt)

pub returns-in-Ok-Search-clause-safe : goal.returns-in-Ok-Search-clause-safe
returns-in-Ok-Search-clause-safe g c is = (
  Answer (request_of c.in-Ok-Search.options),
  sym (rw c.in-Ok-Search.field-0-is at c.in-Ok-Search.ensures),
  c.run.ensures.safe is,
)

pub returns-in-Ok-Search-clause-fails : goal.returns-in-Ok-Search-clause-fails
returns-in-Ok-Search-clause-fails g c is = (
  Answer (request_of c.in-Ok-Search.options),
  sym (rw c.in-Ok-Search.field-0-is at c.in-Ok-Search.ensures),
  c.run.ensures.fails is,
)

pub returns-in-Ok-Search-clause-verified : goal.returns-in-Ok-Search-clause-verified
returns-in-Ok-Search-clause-verified g c is = (
  Answer (request_of c.in-Ok-Search.options),
  sym (rw c.in-Ok-Search.field-0-is at c.in-Ok-Search.ensures),
  tt,
)

pub returns-in-Ok-Replay-clause-safe : goal.returns-in-Ok-Replay-clause-safe
returns-in-Ok-Replay-clause-safe g c is =
    never-safe (map string_bytes c.args.words.now) (g.T.Texts.bytes c.args.texts.now) _ c.run-in-Ok-Replay.ensures.ends is

pub returns-in-Ok-Replay-clause-fails : goal.returns-in-Ok-Replay-clause-fails
returns-in-Ok-Replay-clause-fails g c is =
    never-fails (map string_bytes c.args.words.now) (g.T.Texts.bytes c.args.texts.now) _ c.run-in-Ok-Replay.ensures.ends is

pub returns-in-Ok-Replay-clause-verified : goal.returns-in-Ok-Replay-clause-verified
returns-in-Ok-Replay-clause-verified g c is = (
  work_of (task.Replay c.in-Ok-Replay.options c.in-Ok-Replay.witness),
  sym (rw c.in-Ok-Replay.field-0-is at c.in-Ok-Replay.ensures),
  c.run-in-Ok-Replay.ensures.verified is,
)

pub returns-in-Ok-Certify-clause-safe : goal.returns-in-Ok-Certify-clause-safe
returns-in-Ok-Certify-clause-safe g c is =
    never-safe (map string_bytes c.args.words.now) (g.T.Texts.bytes c.args.texts.now) _ c.run-in-Ok-Certify.ensures.ends is

pub returns-in-Ok-Certify-clause-fails : goal.returns-in-Ok-Certify-clause-fails
returns-in-Ok-Certify-clause-fails g c is =
    never-fails (map string_bytes c.args.words.now) (g.T.Texts.bytes c.args.texts.now) _ c.run-in-Ok-Certify.ensures.ends is

pub returns-in-Ok-Certify-clause-verified : goal.returns-in-Ok-Certify-clause-verified
returns-in-Ok-Certify-clause-verified g c is = (
  work_of (task.Certify c.in-Ok-Certify.options c.in-Ok-Certify.name),
  sym (rw c.in-Ok-Certify.field-0-is at c.in-Ok-Certify.ensures),
  c.run-in-Ok-Certify.ensures.verified is,
)

pub returns-in-Ok-List-clause-safe : goal.returns-in-Ok-List-clause-safe
returns-in-Ok-List-clause-safe g c is =
    never-safe (map string_bytes c.args.words.now) (g.T.Texts.bytes c.args.texts.now) _ c.run-in-Ok-List.ensures is

pub returns-in-Ok-List-clause-fails : goal.returns-in-Ok-List-clause-fails
returns-in-Ok-List-clause-fails g c is =
    never-fails (map string_bytes c.args.words.now) (g.T.Texts.bytes c.args.texts.now) _ c.run-in-Ok-List.ensures is

pub returns-in-Ok-List-clause-verified : goal.returns-in-Ok-List-clause-verified
returns-in-Ok-List-clause-verified g c is =
    (work_of (task.List c.in-Ok-List.options), sym (rw c.in-Ok-List.field-0-is at c.in-Ok-List.ensures), tt)

pub returns-in-Ok-Join-clause-safe : goal.returns-in-Ok-Join-clause-safe
returns-in-Ok-Join-clause-safe g c is =
    never-safe (map string_bytes c.args.words.now) (g.T.Texts.bytes c.args.texts.now) _ c.run-in-Ok-Join.ensures.ends is

pub returns-in-Ok-Join-clause-fails : goal.returns-in-Ok-Join-clause-fails
returns-in-Ok-Join-clause-fails g c is =
    never-fails (map string_bytes c.args.words.now) (g.T.Texts.bytes c.args.texts.now) _ c.run-in-Ok-Join.ensures.ends is

pub returns-in-Ok-Join-clause-verified : goal.returns-in-Ok-Join-clause-verified
returns-in-Ok-Join-clause-verified g c is = (
  work_of (task.Join c.in-Ok-Join.options c.in-Ok-Join.out),
  sym (rw c.in-Ok-Join.field-0-is at c.in-Ok-Join.ensures),
  c.run-in-Ok-Join.ensures.verified is,
)
