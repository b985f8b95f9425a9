-- What a composed text says.
use Rattle.std.specs.Prelude.{◌≡◌, ℕ, List, [], length, Option, Some, None, if◌then◌else◌}
use Rattle.script_text.specs.declared.line.Line.{Line}
use Rattle.script_text.specs.declared.asks.NamedLine.{NamedLine}
use Rattle.script_text.specs.Lines.{lines_of}
use Rattle.script_words.specs.declared.plan.Plan.{Plan}
use Rattle.fitting_run.specs.declared.told.Told.{Told}
use Rattle.script_runner.specs.declared.ended.Status.{Status}
use Rattle.script_runner.specs.declared.ended.Status.TheVariants as status
use Rattle.script_runner.specs.declared.compose.Composed.{Composed}
use Rattle.crew_run.specs.Running.{RunTold}
use Rattle.fitting_run.specs.Yard.{Shown}
use Rattle.script_runner.specs.Ends.{Composes, text_of}
use Rattle.script_runner.specs.Made.{any_open}

-- the status that a run's text has once it is put whole
abbrev pub status_of : Told → Status
status_of told = if any_open told.rows then status.Open else status.Done

-- this was told of these lines, and it has this status and this text
pub record Tells (plan : Plan) (lines : List NamedLine) (c : Composed) (told : Told) : Type 0 where
  pub is : c.end ≡ record { status = status_of told; told = Some told; refused = None }
  pub text : c.text ≡ text_of plan.task plan lines told

-- a script was run, and what it told is composed
pub record ComposesRun (plan : Plan) (script : List Line) (yard : Shown) (c : Composed) : Type 0 where
  pub told : Told
  pub tells : Tells plan (lines_of script) c told
  pub ran : RunTold (lines_of script) [] yard told
  pub shelf : length yard.cells ≡ length plan.shelf

-- this is what the plan has to be put
abbrev pub IsComposed : Option Plan → Option (List ℕ) → Shown → Composed → Type 0
IsComposed plan left yard c = Composes plan left yard c.end.status c.end.told c.end.refused c.text
