-- The script that is made of a seed: each command adds an amount to a key, and the nodes take turns.
use Rattle.std.specs.Prelude.{ℕ, pos, ◌+◌, ◌-◌, ◌%◌, ◌==◌, List, [], ◌∷◌, ◌++◌, if◌then◌else◌}
use Rattle.std.specs.List.{flat_map, range_with_len, sum_by}
use Rattle.std.specs.Fmt.{decimal}
use Rattle.table_core.specs.declared.command.Command.TheVariants.{Add}
use Rattle.script_text.specs.declared.line.Line.{Line}
use Rattle.script_text.specs.declared.line.Line.TheVariants as line
use Rattle.script_text.specs.declared.line.Admin.TheVariants.{Extend}
use Rattle.script_text.specs.declared.line.Session.{Session}
use Rattle.script_text.specs.declared.line.Ask.TheVariants.{Log}
use Rattle.script_text.specs.Words.{Word}
use Rattle.script_text.specs.Seen.{session}
use Rattle.script_text.specs.Spelling.{spell}
use Rattle.made_script.specs.Generator.{node_at, key_at, amount_at}

-- a node's only session: `s` and the node's digit. The sessions come in the order of their nodes, so its number is one less
abbrev pub session_of : ℕ → Session
session_of node = session (node - 1) (115 ∷ (48 + node) ∷ [])

-- `k` and the key's number
abbrev pub key_name : ℕ → Word
key_name key = 107 ∷ decimal key

-- the session of this node adds an amount to a key
abbrev pub add_line : ℕ → ℕ → ℕ → Line
add_line node key amount = line.Session node (session_of node) (Log (Add (key_name key) (pos amount)))

-- before command 51, 151, 251 and so on the chain is extended
abbrev pub lines_before : ℕ → List Line
lines_before i = if i % 100 == 51 then line.Admin 1 Extend ∷ [] else []

-- after command 100, 200, 300 and so on the phase ends
abbrev pub lines_behind : ℕ → List Line
lines_behind i = if i % 100 == 0 then line.Barrier ∷ [] else []

-- a command with the lines around it
abbrev pub lines_around : ℕ → Line → List Line
lines_around i command = lines_before i ++ command ∷ lines_behind i

-- the lines of the i-th command
abbrev pub lines_at : ℕ → ℕ → ℕ → List Line
lines_at seed nodes i = lines_around i (add_line (node_at nodes i) (key_at seed i) (amount_at seed i))

-- the lines of commands 1 to `count`
unfoldable pub made_lines : ℕ → ℕ → ℕ → List Line
made_lines seed count nodes = flat_map (lines_at seed nodes) (range_with_len 1 count)

-- a line's text, and LF
abbrev pub line_text : Line → List ℕ
line_text l = spell l ++ 10 ∷ []

abbrev pub text_of : List Line → List ℕ
text_of ls = flat_map line_text ls

-- the script's bytes
unfoldable pub made_text : ℕ → ℕ → ℕ → List ℕ
made_text seed count nodes = text_of (made_lines seed count nodes)

-- the sum of the amounts of commands 1 to `count`
unfoldable pub amounts : ℕ → ℕ → ℕ
amounts seed count = sum_by (amount_at seed) (range_with_len 1 count)
