-- How a line is spelled, and which lists of lines have a spelling. This is written apart from reading.
use Rattle.std.specs.Prelude.{◌≡◌, ◌<◌, ◌≤◌, ◌+◌, ◌⊎◌, ◌&&◌, ℕ, Bool, true, false, List, [], ◌∷◌, Some, None, length, codes, nat_le, FitsSigned}
use Rattle.std.specs.List.{join_with_byte, list_all}
use Rattle.std.specs.Fmt.{signed_decimal}
use Rattle.std.specs.Int.{w64}
use Rattle.table_core.specs.declared.command.Command.{Command}
use Rattle.table_core.specs.declared.command.Command.TheVariants.{Put, Del, Cas, Add}
use Rattle.table_core.specs.declared.command.Query.{Query}
use Rattle.table_core.specs.declared.command.Query.TheVariants.{Get, Scan}
use Rattle.script_text.specs.declared.line.Session.{Session}
use Rattle.script_text.specs.declared.line.Line.{Line}
use Rattle.script_text.specs.declared.line.Line.TheVariants as line
use Rattle.script_text.specs.declared.line.Admin.{Admin}
use Rattle.script_text.specs.declared.line.Admin.TheVariants.{Extend, Alive, Trim, Retire}
use Rattle.script_text.specs.declared.line.Ask.{Ask}
use Rattle.script_text.specs.declared.line.Ask.TheVariants.{Log, Look}
use Rattle.script_text.specs.Words.{Word}
use Rattle.script_text.specs.Fields.{is_name}
use Rattle.script_text.specs.Forms.{is_admin_word}
use Rattle.script_text.specs.Seen.{Before, nothing_yet, home, is_retired, with_asked, home_of, with_session}
use Rattle.script_text.specs.Script.{RawLine, lines_in}

-- `n` and the node's digit
abbrev pub node_name : ℕ → Word
node_name n = 110 ∷ (48 + n) ∷ []

abbrev pub command_words : Command → List Word
command_words (Put k v) = codes "put" ∷ k ∷ v ∷ []
command_words (Del k) = codes "del" ∷ k ∷ []
command_words (Cas k old new) = codes "cas" ∷ k ∷ old ∷ new ∷ []
command_words (Add k z) = codes "add" ∷ k ∷ signed_decimal z ∷ []

abbrev pub query_words : Query → List Word
query_words (Get k) = codes "get" ∷ k ∷ []
query_words (Scan low high) = codes "scan" ∷ low ∷ high ∷ []

abbrev pub ask_words : Ask → List Word
ask_words (Log c) = command_words c
ask_words (Look q) = query_words q

abbrev pub admin_name : Admin → Word
admin_name Extend = codes "extend"
admin_name Alive = codes "alive"
admin_name Trim = codes "trim"
admin_name Retire = codes "retire"

-- the words of a line
abbrev pub line_words : Line → List Word
line_words line.Blank = []
line_words (line.Session n s a) = codes "on" ∷ node_name n ∷ s.name ∷ ask_words a
line_words (line.Admin n a) = codes "on" ∷ node_name n ∷ admin_name a ∷ []
line_words line.Barrier = codes "barrier" ∷ []

-- a line is its words with one space between
abbrev pub spell : Line → List ℕ
spell l = join_with_byte 32 (line_words l)

-- ---- which lines have a spelling

-- printed characters, and no space
abbrev pub is_print : ℕ → Bool
is_print b = nat_le 33 b && nat_le b 126

-- 1 to `most` printed characters
pub record IsWord (most : ℕ) (w : Word) : Type 0 where
  pub some : 0 < length w
  pub most_bytes : length w ≤ most
  pub printed : list_all is_print w ≡ true

pub record IsNode (nodes n : ℕ) : Type 0 where
  pub least : 1 ≤ n
  pub most : n ≤ nodes

-- a session's name, which is no word of an admin line
pub record IsSessionName (name : Word) : Type 0 where
  pub letters : is_name name ≡ true
  pub not_admin : is_admin_word name ≡ false

-- commands, with keys, values and numbers of 64 bits
abbrev pub CommandFits : Command → Type 0
CommandFits (Put k v) = IsWord 64 k × IsWord 256 v
CommandFits (Del k) = IsWord 64 k
CommandFits (Cas k old new) = IsWord 64 k × IsWord 256 old × IsWord 256 new
CommandFits (Add k z) = IsWord 64 k × FitsSigned w64 z

abbrev pub QueryFits : Query → Type 0
QueryFits (Get k) = IsWord 64 k
QueryFits (Scan low high) = IsWord 64 low × IsWord 64 high

abbrev pub AskFits : Ask → Type 0
AskFits (Log c) = CommandFits c
AskFits (Look q) = QueryFits q

-- lines, with such fields
abbrev pub LineFits : ℕ → Line → Type 0
LineFits nodes line.Blank = Unit {0}
LineFits nodes (line.Session n s a) = IsNode nodes n × IsSessionName s.name × AskFits a
LineFits nodes (line.Admin n a) = IsNode nodes n
LineFits nodes line.Barrier = Unit {0}

-- ---- what a line may say after the lines before it

-- the session is at home at the node; or it is new, and gets the next number
abbrev pub Belongs : Before → ℕ → Session → Before → Type 0
Belongs b n s after = ((home_of b.homes s.name ≡ Some (home s n)) × (after ≡ b))
    ⊎ ((home_of b.homes s.name ≡ None) × (s.id ≡ length b.homes) × (s.id < 64) × (after ≡ with_session b n s.name))

-- no earlier line makes the node leave that it names
abbrev pub Follows : Before → Line → Before → Type 0
Follows b (line.Session n s a) after = (is_retired b n ≡ false) × Belongs b n s after
Follows b (line.Admin n a) after = (is_retired b n ≡ false) × (after ≡ with_asked b n a)
Follows b _ after = after ≡ b

-- a line's text spells it
pub record Spells (nodes : ℕ) (b : Before) (text : List ℕ) (l : Line) (after : Before) : Type 0 where
  pub spelled : text ≡ spell l
  pub short : length text ≤ 512
  pub fits : LineFits nodes l
  pub follows : Follows b l after

-- the lines, the first of which is the n-th and stands after `at` bytes, spell the script
abbrev pub SpellsFrom : ℕ → Before → ℕ → ℕ → List RawLine → List Line → Type 0
SpellsFrom nodes b n at [] [] = Unit {0}
SpellsFrom nodes b n at (r ∷ rs) (l ∷ ls) = (at + r.size ≤ 1048576) × (n ≤ 20000)
    × (after : Before) × Spells nodes b r.text l after × SpellsFrom nodes after (n + 1) (at + r.size) rs ls
SpellsFrom nodes b n at rs ls = ⊥

-- the bytes spell the script, for so many nodes
abbrev pub IsScript : ℕ → List ℕ → List Line → Type 0
IsScript nodes bytes ls = SpellsFrom nodes nothing_yet 1 0 (lines_in bytes) ls
