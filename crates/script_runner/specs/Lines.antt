-- The lines that a plan asks for.
use Rattle.std.specs.Prelude.{◌≡◌, ℕ, List, Option, IfSome}
use Rattle.script_text.specs.declared.line.Line.{Line}
use Rattle.script_text.specs.declared.asks.NamedLine.{NamedLine}
use Rattle.script_text.specs.Lines.{lines_of}
use Rattle.script_text.specs.Spelling.{IsScript}
use Rattle.script_words.specs.declared.plan.Plan.{Plan}
use Rattle.script_words.specs.declared.plan.Task.{Task}
use Rattle.script_words.specs.declared.plan.Task.TheVariants as task
use Rattle.made_script.specs.Made.{made_lines, made_text}

-- where a script's bytes come from: they are all that the source had left, where it tells that, or made of the plan's seed
abbrev pub TakenFrom : Task → Plan → Option (List ℕ) → List ℕ → List Line → Type 0
TakenFrom task.Run plan left bytes script = IfSome left (λ all. all ≡ bytes)
TakenFrom (task.Make count) plan left bytes script = (bytes ≡ made_text plan.seed count plan.nodes) × (script ≡ made_lines plan.seed count plan.nodes)

-- of the script that the source had left, or of the one that was to be made
pub record AreLinesFor (plan : Plan) (left : Option (List ℕ)) (lines : List NamedLine) : Type 0 where
  pub bytes : List ℕ
  pub script : List Line
  pub comes : TakenFrom plan.task plan left bytes script
  pub spelled : IsScript plan.nodes bytes script
  pub are : lines ≡ lines_of script
