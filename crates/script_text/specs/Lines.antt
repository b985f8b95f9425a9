-- The lines of a script that name a node, with their numbers, phases and ranks.
use Rattle.std.specs.Prelude.{ℕ, ◌+◌, ◌==◌, Bool, true, false, List, [], ◌∷◌, ◌++◌, Option, Some, None, length, count_by}
use Rattle.std.specs.Option.{option_to_list}
use Rattle.script_text.specs.declared.line.Line.{Line}
use Rattle.script_text.specs.declared.line.Line.TheVariants as line
use Rattle.script_text.specs.declared.line.Session.{Session}
use Rattle.script_text.specs.declared.line.Ask.{Ask}
use Rattle.script_text.specs.declared.line.Ask.TheVariants as ask
use Rattle.script_text.specs.declared.asks.NamedLine.{NamedLine}
use Rattle.script_text.specs.declared.asks.Asks.{Asks}
use Rattle.script_text.specs.declared.asks.Asks.TheVariants as asks

abbrev pub is_barrier : Line → Bool
is_barrier line.Barrier = true
is_barrier _ = false

-- a logged line of the session
abbrev pub is_logged_by : ℕ → Line → Bool
is_logged_by id (line.Session node s (ask.Log command)) = s.id == id
is_logged_by id _ = false

-- what a session asks after these lines; the rank of a command is its number among its session's logged lines
abbrev pub asks_after : List Line → Session → Ask → Asks
asks_after before s (ask.Log command) = asks.Logged s (count_by (is_logged_by s.id) before + 1) command
asks_after before s (ask.Look query) = asks.Look s query

-- what the line after these lines asks of its node, where it names one: its number counts lines from 1, and its phase
-- the barriers before it
abbrev pub named_after : List Line → Line → Option NamedLine
named_after before (line.Session node s a) =
    Some (record { number = length before + 1; phase = count_by is_barrier before; node = node; asks = asks_after before s a })
named_after before (line.Admin node a) =
    Some (record { number = length before + 1; phase = count_by is_barrier before; node = node; asks = asks.Admin a })
named_after before _ = None

abbrev pub lines_after : List Line → List Line → List NamedLine
lines_after before [] = []
lines_after before (l ∷ ls) = option_to_list (named_after before l) ++ lines_after (before ++ l ∷ []) ls

-- of a whole script
abbrev pub lines_of : List Line → List NamedLine
lines_of ls = lines_after [] ls
