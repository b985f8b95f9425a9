-- The forms of lines: the table of the grammar.
use Rattle.std.specs.Prelude.{◌==◌, ◌||◌, ℕ, Bool, List, [], Result, Ok, Err, length, nat_lt, codes, slice_index_or, if◌then◌else◌}
use Rattle.std.specs.Str.{bytes_eq}
use Rattle.table_core.specs.declared.command.Command.TheVariants.{Put, Del, Cas, Add}
use Rattle.table_core.specs.declared.command.Query.TheVariants.{Get, Scan}
use Rattle.script_text.specs.declared.line.Rule.{Rule}
use Rattle.script_text.specs.declared.line.Rule.TheVariants as rule
use Rattle.script_text.specs.declared.line.Line.{Line}
use Rattle.script_text.specs.declared.line.Line.TheVariants as line
use Rattle.script_text.specs.declared.line.Admin.{Admin}
use Rattle.script_text.specs.declared.line.Admin.TheVariants as admin
use Rattle.script_text.specs.declared.line.Ask.{Ask}
use Rattle.script_text.specs.declared.line.Ask.TheVariants as ask
use Rattle.script_text.specs.declared.forms.Verb.{Verb}
use Rattle.script_text.specs.declared.forms.Verb.TheVariants as verb
use Rattle.script_text.specs.declared.forms.Form.{Form}
use Rattle.script_text.specs.declared.forms.Form.TheVariants as form
use Rattle.script_text.specs.Gives.{◌>>=◌}
use Rattle.script_text.specs.Words.{Word, words_of}
use Rattle.script_text.specs.Fields.{node_of, name_of, number_of, key_of, value_of}
use Rattle.script_text.specs.Seen.{Before, is_retired, with_asked, admit}

-- the word at an index, which begins at 0
abbrev pub word : List Word → ℕ → Word
word ws i = slice_index_or ws i []

-- the words of admin lines, which name no session
abbrev pub is_admin_word : Word → Bool
is_admin_word w = bytes_eq w (codes "extend") || (bytes_eq w (codes "alive") || (bytes_eq w (codes "trim") || bytes_eq w (codes "retire")))

-- what the word of an admin line asks
abbrev pub admin_of : Word → Result Admin Rule
admin_of w = if bytes_eq w (codes "extend") then Ok admin.Extend
    else (if bytes_eq w (codes "alive") then Ok admin.Alive
    else (if bytes_eq w (codes "trim") then Ok admin.Trim
    else (if bytes_eq w (codes "retire") then Ok admin.Retire else Err rule.Word)))

-- `on N` and a word of admin lines
abbrev pub admin_form : List Word → Result Form Rule
admin_form ws = do
  a ← admin_of (word ws 2)
  Ok (form.Admin a)

-- what the fourth word of a session's line says
abbrev pub verb_of : Word → Result Verb Rule
verb_of w = if bytes_eq w (codes "put") then Ok verb.Put
    else (if bytes_eq w (codes "del") then Ok verb.Del
    else (if bytes_eq w (codes "cas") then Ok verb.Cas
    else (if bytes_eq w (codes "add") then Ok verb.Add
    else (if bytes_eq w (codes "get") then Ok verb.Get
    else (if bytes_eq w (codes "scan") then Ok verb.Scan else Err rule.Word)))))

-- `on N S` and a verb
abbrev pub session_form : List Word → Result Form Rule
session_form ws = if nat_lt (length ws) 4 then Err rule.Word else (do
  v ← verb_of (word ws 3)
  Ok (form.Session v))

-- `on N` and who asks
abbrev pub on_form : List Word → Result Form Rule
on_form ws = if nat_lt (length ws) 3 then Err rule.Word
    else (if is_admin_word (word ws 2) then admin_form ws else session_form ws)

-- the form that the words begin, which the rule `word` asks for
abbrev pub form_of : List Word → Result Form Rule
form_of ws = if length ws == 0 then Ok form.Blank
    else (if bytes_eq (word ws 0) (codes "barrier") then Ok form.Barrier
    else (if bytes_eq (word ws 0) (codes "on") then on_form ws else Err rule.Word))

-- so many words, or the rule `count` is broken
abbrev pub having : {A : Type 0} → ℕ → List Word → Result A Rule → Result A Rule
having n ws read = if length ws == n then read else Err rule.Count

-- how many words `on N S` with this verb has
abbrev pub verb_count : Verb → ℕ
verb_count verb.Put = 6
verb_count verb.Del = 5
verb_count verb.Cas = 7
verb_count verb.Add = 6
verb_count verb.Get = 5
verb_count verb.Scan = 6

-- what a session asks: `put K V`, `del K`, `cas K OLD NEW`, `add K I`, `get K` or `scan LO HI`; the number is tried
-- before the key
abbrev pub ask_of : Verb → List Word → Result Ask Rule
ask_of verb.Put ws = do
  key ← key_of (word ws 4)
  value ← value_of (word ws 5)
  Ok (ask.Log (Put key value))
ask_of verb.Del ws = do
  key ← key_of (word ws 4)
  Ok (ask.Log (Del key))
ask_of verb.Cas ws = do
  key ← key_of (word ws 4)
  old ← value_of (word ws 5)
  new ← value_of (word ws 6)
  Ok (ask.Log (Cas key old new))
ask_of verb.Add ws = do
  amount ← number_of (word ws 5)
  key ← key_of (word ws 4)
  Ok (ask.Log (Add key amount))
ask_of verb.Get ws = do
  key ← key_of (word ws 4)
  Ok (ask.Look (Get key))
ask_of verb.Scan ws = do
  low ← key_of (word ws 4)
  high ← key_of (word ws 5)
  Ok (ask.Look (Scan low high))

-- `on N S`, and what the session asks
unfoldable pub session_line : ℕ → Before → List Word → Verb → Result (Line × Before) Rule
session_line nodes seen ws v = having (verb_count v) ws (do
  node ← node_of nodes (word ws 1)
  name ← name_of (word ws 2)
  asked ← ask_of v ws
  s ← admit seen node name
  Ok (line.Session node s.0 asked, s.1))

-- a line that asks a node itself, which no earlier line makes leave
abbrev pub admin_line : Before → ℕ → Admin → Result (Line × Before) Rule
admin_line seen node a = if is_retired seen node then Err rule.Retired else Ok (line.Admin node a, with_asked seen node a)

-- a line of a form
abbrev pub line_in : ℕ → Before → List Word → Form → Result (Line × Before) Rule
line_in nodes seen ws form.Blank = Ok (line.Blank, seen)
line_in nodes seen ws form.Barrier = having 1 ws (Ok (line.Barrier, seen))
line_in nodes seen ws (form.Session v) = session_line nodes seen ws v
line_in nodes seen ws (form.Admin a) = having 3 ws (do
  node ← node_of nodes (word ws 1)
  admin_line seen node a)

-- a line, after the lines so far, or the first rule that it breaks
unfoldable pub line_at : ℕ → Before → List ℕ → Result (Line × Before) Rule
line_at nodes seen text = do
  ws ← words_of text
  f ← form_of ws
  line_in nodes seen ws f
