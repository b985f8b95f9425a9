-- How the placed commands are put in order and done again.
use Rattle.std.specs.Prelude.{List, [], ◌∷◌, ◌++◌, fold, map, Option, Some, None}
use Rattle.std.specs.FinMap as finmap
use Rattle.table_core.specs.declared.command.Command.{Command}
use Rattle.table_core.specs.Table.{TableMap, act}
use Rattle.engine_api.specs.declared.act.Act.{Act}
use Rattle.script_text.specs.declared.asks.NamedLine.{NamedLine}
use Rattle.script_text.specs.declared.asks.Asks.{Asks}
use Rattle.script_text.specs.declared.asks.Asks.TheVariants as asks
use Rattle.row_text.specs.declared.row.Row.{Row}
use Rattle.row_text.specs.declared.row.Outcome.{Outcome}
use Rattle.row_text.specs.declared.row.Outcome.TheVariants as out
use Rattle.fitting_run.specs.Acts.{act_of}
use Rattle.fitting_run.specs.Turns.{turn_cmp, turn_of}
use Rattle.fitting_run.specs.declared.acting.Turn.{Turn}

-- commands by their turns, with the spelling that an act has
abbrev pub Turns : Type 0
Turns = List (Turn × Option Command)

-- what a map of commands by their turns holds
abbrev pub shown : List (Turn × Command) → Turns
shown entries = map (λ e. (e.0, Some e.1)) entries

-- the command of a placed row, with its turn
abbrev pub placed_of : Asks → Outcome → Option (Turn × Option Command)
placed_of (asks.Logged s r c) (out.Placed p reply late) = Some (record { place = p; rank = r; session = s.id }, Some c)
placed_of asked answered = None

-- the commands with one more in its turn, where there is one
abbrev pub with_placed : Turns → Option (Turn × Option Command) → Turns
with_placed turns None = turns
with_placed turns (Some p) = finmap.put turn_cmp p.0 p.1 turns

-- the commands of these acts, each put in its turn
abbrev pub with_acts : Turns → List Act → Turns
with_acts turns acts = fold (λ es a. finmap.put turn_cmp (turn_of a) a.command es) turns acts

-- what the placed rows say acted, in the order of the lines
abbrev pub acts_told : List NamedLine → List Row → List Act
acts_told [] rows = []
acts_told (l ∷ ls) [] = []
acts_told (l ∷ ls) (r ∷ rs) = act_of l.asks r.outcome ++ acts_told ls rs

-- the table after these commands, one after another
abbrev pub table_by : TableMap → List Command → TableMap
table_by m commands = fold (λ t c. (act t c).0) m commands
