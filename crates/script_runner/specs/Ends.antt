-- How a run ends: what stands behind each status.
use Rattle.std.specs.Prelude.{◌≡◌, ◌<◌, ℕ, true, if◌then◌else◌, List, [], length, All, Option, Some, None, IfSome, IsSomeAnd, Ok, Err, map, take}
use Rattle.fabric_core.specs.Log.{virtual_tail}
use Rattle.outside_ends.specs.Faults.{Rose}
use Rattle.outside_ends.specs.Sinks.{Gains}
use Rattle.outside_ends.specs.Whole.{GainsFront}
use Rattle.row_text.specs.Output.{output}
use Rattle.script_text.specs.declared.line.Line.{Line}
use Rattle.script_text.specs.declared.script.BadLine.{BadLine}
use Rattle.script_text.specs.Lines.{lines_of}
use Rattle.script_text.specs.Refusal.{refusal_text}
use Rattle.script_text.specs.Script.{script_of}
use Rattle.script_text.specs.declared.asks.NamedLine.{NamedLine}
use Rattle.script_words.specs.declared.plan.Plan.{Plan}
use Rattle.script_words.specs.declared.plan.Task.{Task}
use Rattle.script_words.specs.declared.plan.Task.TheVariants as task
pub use Rattle.script_words.specs.Plans.{IsPlan}
use Rattle.script_words.specs.Plans.{bad_words_text}
use Rattle.script_words.specs.Shelf.{kind_name}
use Rattle.fitting_run.specs.declared.told.Told.{Told}
use Rattle.made_script.specs.Made.{made_lines}
use Rattle.run_totals.specs.Totals.{totals_of, totals_text}
use Rattle.script_runner.specs.declared.ended.Status.{Status}
use Rattle.script_runner.specs.declared.ended.Status.TheVariants as status
use Rattle.fitting_run.specs.Yard.{Shown}
use Rattle.fitting_run.specs.Fits.{Fits}
use Rattle.fitting_run.specs.Calm.{IsCalm, all_answered}
use Rattle.crew_run.specs.Telling.{GoesByRows}
use Rattle.script_runner.specs.Made.{CountsMade, any_open}

-- how many bytes of a source are read at most: one more than a script may have
abbrev pub read_limit : ℕ
read_limit = 1048577

-- The script that a task asks for: what all bytes say that the source had left, where it tells them; or the one that is made of the
-- plan's seed.
abbrev pub ComesFrom : Task → Plan → Option (List ℕ) → List Line → Type 0
ComesFrom task.Run plan left script = (bytes : List ℕ) × IfSome left (λ all. all ≡ bytes) × (script_of plan.nodes bytes ≡ Ok script)
ComesFrom (task.Make count) plan left script = script ≡ made_lines plan.seed count plan.nodes

-- The run theorem: the script is what the source had left, or the one that was to be made; what is told fits it and the yard
-- that comes back; and where no fault was counted there, every line has its own answer, the run saw the whole log, and the chain goes
-- on no more often than rows say.
pub record Ran (plan : Plan) (left : Option (List ℕ)) (yard : Shown) (told : Told) : Type 0 where
  pub plan_is : IsPlan plan
  pub script : List Line
  pub comes : ComesFrom plan.task plan left script
  pub fits : Fits (lines_of script) [] told yard
  pub made : (count : ℕ) → plan.task ≡ task.Make count → CountsMade plan count yard told (totals_of (lines_of script) told)
  pub answered : IsCalm yard → all_answered told.rows ≡ true
  pub whole : IsCalm yard → told.end ≡ virtual_tail told.chain yard.cells
  -- the chain's last loglet lies no further behind the shelf's first than rows say that a line extended it, or found that another node
  -- had; where nothing is trimmed all from the first on stand in the chain. It lies as far as the rows of any one node say: that is a
  -- part of what fits
  pub extended : IsCalm yard → GoesByRows told.chain told.rows
  pub shelved : All (λ s. s.id < length yard.cells) told.chain.segments
  pub shelf : length yard.cells ≡ length plan.shelf

-- the text of what is told of these lines, by what was to be done: its rows and chain, over the plan's shelf, or four numbers
abbrev pub text_of : Task → Plan → List NamedLine → Told → List ℕ
text_of task.Run plan lines told = output told.rows told.end told.version told.chain told.down (map kind_name plan.shelf)
text_of (task.Make count) plan lines told = totals_text (totals_of lines told)

-- a line of the source's bytes, as far as they are read, breaks a rule: the first line and its first rule
pub record IsRefused (plan : Plan) (left : Option (List ℕ)) (bad : BadLine) : Type 0 where
  pub read : plan.task ≡ task.Run
  pub bytes : List ℕ
  pub front : IfSome left (λ all. take read_limit all ≡ bytes)
  pub refused : script_of plan.nodes bytes ≡ Err bad

-- What is to be put by the plan that the words have, and the status once it is put whole: what a script told; its first bad line, which
-- is named; or that the words have no plan.
abbrev pub Composes : Option Plan → Option (List ℕ) → Shown → Status → Option Told → Option BadLine → List ℕ → Type 0
Composes (Some plan) left yard end (Some told) None text =
    (ran : Ran plan left yard told) × (text ≡ text_of plan.task plan (lines_of ran.script) told) × (end ≡ (if any_open told.rows then status.Open else status.Done))
Composes (Some plan) left yard end None (Some bad) text = IsRefused plan left bad × (text ≡ refusal_text bad) × (end ≡ status.BadLine)
Composes None left yard end None None text = (text ≡ bad_words_text) × (end ≡ status.BadWords)
Composes plan left yard end told refused text = ⊥

-- the words ask for the script that the source has left
abbrev pub TakesSource : Option Plan → Type 0
TakesSource plan = IsSomeAnd plan (λ p. p.task ≡ task.Run)

-- there is a script to run, by the plan of the words
abbrev pub HasScript : Option Plan → Option (List ℕ) → Type 0
HasScript plan left = IsSomeAnd plan (λ p. (script : List Line) × ComesFrom p.task p left script)

-- what the source has left, and how often it failed; what the sink holds, and how often that failed
pub record EndsView : Type 0 where
  pub left : Option (List ℕ)
  pub missed : ℕ
  pub held : Option (List ℕ)
  pub lost : ℕ

-- What was put, by how the run ended: the text that was composed with this status, whole; a front of one where the sink failed, which it
-- counted. Where the source failed, which it counted, or memory ran out, nothing was told.
abbrev pub Puts : Option Plan → EndsView → EndsView → Shown → Status → Option Told → Option BadLine → Type 0
Puts plan before after yard status.SinkFault told refused =
    Rose before.lost after.lost × (refused ≡ None) × (end : Status) × (bad : Option BadLine) × (text : List ℕ) × Composes plan before.left yard end told bad text × GainsFront before.held after.held text
Puts plan before after yard status.SourceFault told refused = Rose before.missed after.missed × TakesSource plan × (told ≡ None) × (refused ≡ None)
Puts plan before after yard status.Memory told refused = (told ≡ None) × (refused ≡ None)
Puts plan before after yard end told refused = (text : List ℕ) × Composes plan before.left yard end told refused text × Gains before.held after.held text
