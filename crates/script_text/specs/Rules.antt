-- The table of the grammar's rules: where a line breaks each of them. This is written apart from reading.
use Rattle.std.specs.Prelude.{◌≡◌, ◌⊎◌, ◌==◌, ◌&&◌, ◌+◌, not, ℕ, Bool, false, List, [], ◌∷◌, Option, Some, None, length, codes, nat_lt, find, if◌then◌else◌, is_some}
use Rattle.std.specs.List.{slice_split, list_all, list_any}
use Rattle.std.specs.Str.{bytes_eq}
use Rattle.table_core.specs.Table.{amount_of}
use Rattle.script_text.specs.declared.line.Rule.{Rule}
use Rattle.script_text.specs.declared.line.Rule.TheVariants as rule
use Rattle.script_text.specs.declared.line.Line.{Line}
use Rattle.script_text.specs.declared.line.Admin.TheVariants as admin
use Rattle.script_text.specs.declared.forms.Verb.{Verb}
use Rattle.script_text.specs.declared.forms.Verb.TheVariants as verb
use Rattle.script_text.specs.declared.forms.Form.{Form}
use Rattle.script_text.specs.declared.forms.Form.TheVariants as form
use Rattle.script_text.specs.declared.seen.Home.{Home}
use Rattle.script_text.specs.declared.script.BadLine.{BadLine}
use Rattle.script_text.specs.Words.{Word, is_empty, is_text_byte}
use Rattle.script_text.specs.Fields.{is_node, node_number, is_name}
use Rattle.script_text.specs.Seen.{Before, nothing_yet, is_retired, home_of}
use Rattle.script_text.specs.Forms.{word, is_admin_word}
use Rattle.script_text.specs.Script.{RawLine, lines_in}
use Rattle.script_text.specs.Spelling.{Spells, admin_name}

-- ---- forms of lines

abbrev pub verb_name : Verb → Word
verb_name verb.Put = codes "put"
verb_name verb.Del = codes "del"
verb_name verb.Cas = codes "cas"
verb_name verb.Add = codes "add"
verb_name verb.Get = codes "get"
verb_name verb.Scan = codes "scan"

-- the words begin a line of this form: nothing, `barrier`, `on N` and what is asked of the node, or `on N S` and a verb,
-- where S is no word of an admin line
abbrev pub begins : List Word → Form → Bool
begins ws form.Blank = length ws == 0
begins ws form.Barrier = bytes_eq (word ws 0) (codes "barrier")
begins ws (form.Session v) = bytes_eq (word ws 0) (codes "on")
    && (not (nat_lt (length ws) 4) && (not (is_admin_word (word ws 2)) && bytes_eq (word ws 3) (verb_name v)))
begins ws (form.Admin a) = bytes_eq (word ws 0) (codes "on") && (not (nat_lt (length ws) 3) && bytes_eq (word ws 2) (admin_name a))

abbrev pub forms : List Form
forms = form.Blank ∷ form.Barrier ∷ form.Admin admin.Extend ∷ form.Admin admin.Alive ∷ form.Admin admin.Trim ∷ form.Admin admin.Retire ∷ form.Session verb.Put
    ∷ form.Session verb.Del ∷ form.Session verb.Cas ∷ form.Session verb.Add ∷ form.Session verb.Get ∷ form.Session verb.Scan ∷ []

-- the form that the words begin
abbrev pub form_begun : List Word → Option Form
form_begun ws = find (begins ws) forms

-- how many words a line of the form has
abbrev pub word_count : Form → ℕ
word_count form.Blank = 0
word_count form.Barrier = 1
word_count (form.Session verb.Put) = 6
word_count (form.Session verb.Del) = 5
word_count (form.Session verb.Cas) = 7
word_count (form.Session verb.Add) = 6
word_count (form.Session verb.Get) = 5
word_count (form.Session verb.Scan) = 6
word_count (form.Admin a) = 3

-- which of its words, counted from 0, are a node, a session, a number, keys and values
abbrev pub nodes_at : Form → List ℕ
nodes_at (form.Session v) = 1 ∷ []
nodes_at (form.Admin a) = 1 ∷ []
nodes_at other = []

abbrev pub sessions_at : Form → List ℕ
sessions_at (form.Session v) = 2 ∷ []
sessions_at other = []

abbrev pub numbers_at : Form → List ℕ
numbers_at (form.Session verb.Add) = 5 ∷ []
numbers_at other = []

abbrev pub keys_at : Form → List ℕ
keys_at (form.Session verb.Scan) = 4 ∷ 5 ∷ []
keys_at (form.Session v) = 4 ∷ []
keys_at other = []

abbrev pub values_at : Form → List ℕ
values_at (form.Session verb.Put) = 5 ∷ []
values_at (form.Session verb.Cas) = 5 ∷ 6 ∷ []
values_at other = []

-- ---- what breaks a rule

-- the words of a text: those between its spaces, and none where it is empty
abbrev pub words_in : List ℕ → List Word
words_in text = if is_empty text then [] else slice_split (λ b. b == 32) text

-- the words begin a form, and one of the words that it has there is so
abbrev pub some_word : (Form → List ℕ) → (Word → Bool) → List Word → Option Form → Bool
some_word places is ws None = false
some_word places is ws (Some f) = list_any (λ i. is (word ws i)) (places f)

abbrev pub has_other_count : List Word → Option Form → Bool
has_other_count ws None = false
has_other_count ws (Some f) = not (length ws == word_count f)

-- the session is at home at another node
abbrev pub is_elsewhere : Option Home → ℕ → Bool
is_elsewhere None node = false
is_elsewhere (Some h) node = not (h.node == node)

-- the session is new, and so many came before it
abbrev pub is_too_many : Option Home → ℕ → Bool
is_too_many None count = not (nat_lt count 64)
is_too_many (Some h) count = false

-- The n-th line, which stands after `at` bytes and after what was said so far, breaks the rule.
abbrev pub breaks : ℕ → Before → ℕ → ℕ → RawLine → Rule → Bool
breaks nodes seen n at r rule.ScriptTooLong = nat_lt 1048576 (at + r.size)
breaks nodes seen n at r rule.TooManyLines = nat_lt 20000 n
breaks nodes seen n at r rule.TooLong = nat_lt 512 (length r.text)
breaks nodes seen n at r rule.Byte = not (list_all is_text_byte r.text)
breaks nodes seen n at r rule.Spaces = list_any is_empty (words_in r.text)
breaks nodes seen n at r rule.Word = not (is_some (form_begun (words_in r.text)))
breaks nodes seen n at r rule.Count = has_other_count (words_in r.text) (form_begun (words_in r.text))
breaks nodes seen n at r rule.Node = some_word nodes_at (λ w. not (is_node nodes w)) (words_in r.text) (form_begun (words_in r.text))
breaks nodes seen n at r rule.Session = some_word sessions_at (λ w. not (is_name w)) (words_in r.text) (form_begun (words_in r.text))
breaks nodes seen n at r rule.Number = some_word numbers_at (λ w. not (is_some (amount_of w))) (words_in r.text) (form_begun (words_in r.text))
breaks nodes seen n at r rule.Key = some_word keys_at (λ w. nat_lt 64 (length w)) (words_in r.text) (form_begun (words_in r.text))
breaks nodes seen n at r rule.Value = some_word values_at (λ w. nat_lt 256 (length w)) (words_in r.text) (form_begun (words_in r.text))
breaks nodes seen n at r rule.Retired = some_word nodes_at (λ w. is_retired seen (node_number w)) (words_in r.text) (form_begun (words_in r.text))
breaks nodes seen n at r rule.Moved =
    some_word sessions_at (λ w. is_elsewhere (home_of seen.homes w) (node_number (word (words_in r.text) 1))) (words_in r.text) (form_begun (words_in r.text))
breaks nodes seen n at r rule.Sessions =
    some_word sessions_at (λ w. is_too_many (home_of seen.homes w) (length seen.homes)) (words_in r.text) (form_begun (words_in r.text))

-- the rules in their order
abbrev pub rules : List Rule
rules = rule.ScriptTooLong ∷ rule.TooManyLines ∷ rule.TooLong ∷ rule.Byte ∷ rule.Spaces ∷ rule.Word ∷ rule.Count ∷ rule.Node ∷ rule.Session
    ∷ rule.Number ∷ rule.Key ∷ rule.Value ∷ rule.Retired ∷ rule.Moved ∷ rule.Sessions ∷ []

-- the first rule that the line breaks, if it breaks one
unfoldable pub first_broken : ℕ → Before → ℕ → ℕ → RawLine → Option Rule
first_broken nodes seen n at r = find (breaks nodes seen n at r) rules

-- ---- scripts

-- from the n-th line on, this is the first line that breaks a rule, and the first rule that it breaks
abbrev pub IsRefusedFrom : ℕ → Before → ℕ → ℕ → List RawLine → BadLine → Type 0
IsRefusedFrom nodes seen n at [] bad = ⊥
IsRefusedFrom nodes seen n at (r ∷ rs) bad = ((bad.n ≡ n) × (first_broken nodes seen n at r ≡ Some bad.rule))
    ⊎ ((first_broken nodes seen n at r ≡ None)
    × (l : Line) × (after : Before) × Spells nodes seen r.text l after × IsRefusedFrom nodes after (n + 1) (at + r.size) rs bad)

-- this is the first line of the script that breaks a rule, and the first rule of the table that it breaks
abbrev pub IsRefused : ℕ → List ℕ → BadLine → Type 0
IsRefused nodes bytes bad = IsRefusedFrom nodes nothing_yet 1 0 (lines_in bytes) bad
