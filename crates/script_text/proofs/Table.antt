-- The rule that reading names is the first of the table that the line breaks.
use Rattle.std.proofs.Common.{◌≡◌, ◌==◌, ◌≤◌, ◌+◌, ◌&&◌, ◌||◌, inl, inr, ℕ, ℤ, Bool, true, false, not, cond, List, [], ◌∷◌, length, Option, Some, None, Result, Ok, Err, refl, sym, ap, subst, ◌∙◌, arith}
use Rattle.std.specs.Prelude.{codes, nat_lt, is_some}
use Rattle.std.specs.List.{slice_split, list_all, list_any}
use Rattle.std.specs.Str.{bytes_eq}
use Rattle.std.proofs.lemmas.Bool.Decides.{nat_tests}
use Rattle.table_core.specs.declared.command.Command.TheVariants.{Put, Del, Cas, Add}
use Rattle.table_core.specs.declared.command.Query.TheVariants.{Get, Scan}
use Rattle.table_core.specs.Table.{amount_of}
use Rattle.script_text.specs.declared.line.Rule.{Rule}
use Rattle.script_text.specs.declared.line.Rule.TheVariants as rule
use Rattle.script_text.specs.declared.line.Line.{Line}
use Rattle.script_text.specs.declared.line.Line.TheVariants as line
use Rattle.script_text.specs.declared.line.Session.{Session}
use Rattle.script_text.specs.declared.line.Admin.{Admin}
use Rattle.script_text.specs.declared.line.Admin.TheVariants as admin
use Rattle.script_text.specs.declared.line.Ask.{Ask}
use Rattle.script_text.specs.declared.line.Ask.TheVariants as ask
use Rattle.script_text.specs.declared.forms.Verb.{Verb}
use Rattle.script_text.specs.declared.forms.Verb.TheVariants as verb
use Rattle.script_text.specs.declared.forms.Form.{Form}
use Rattle.script_text.specs.declared.forms.Form.TheVariants as form
use Rattle.script_text.specs.declared.seen.Home.{Home}
use Rattle.script_text.specs.declared.script.BadLine.{BadLine}
use Rattle.script_text.specs.declared.script.ParseError.{ParseError}
use Rattle.script_text.specs.declared.script.ParseError.TheVariants as error
use Rattle.script_text.specs.Gives.{◌>>=◌}
use Rattle.script_text.specs.Words.{Word, is_empty, is_text_byte, split_words}
use Rattle.script_text.specs.Fields.{is_node, node_number, node_of, is_name, name_of, number_from, number_of}
use Rattle.script_text.specs.Seen.{Before, nothing_yet, session, is_retired, with_asked, home_of, with_session, admit, admit_at}
use Rattle.script_text.specs.Forms.{word, form_of, verb_count, ask_of, session_line, admin_line, line_in, line_at}
use Rattle.script_text.specs.Script.{RawLine, line_numbered, in_line, lines_in, lines_from, script_of, ReadsScript}
use Rattle.script_text.specs.Rules.{form_begun, word_count, nodes_at, sessions_at, numbers_at, keys_at, values_at, words_in, some_word, has_other_count, is_elsewhere, is_too_many, first_broken, IsRefusedFrom, IsRefused}
use Rattle.script_text.proofs.Takes.{taken_else, line_takes}
use Rattle.script_text.proofs.Again.{line_again}

-- the rule that is told, if one is
abbrev told : {A : Type 0} → Result A Rule → Option Rule
told (Ok x) = None
told (Err r) = Some r

-- ---- one test after the other

unless : {A : Type 0} (t : Bool) (r : Rule) (read : Result A Rule) (found : Option Rule) → (t ≡ false → told read ≡ found) → told (cond t (Err r) read) ≡ cond t (Some r) found
unless true r read found h = refl
unless false r read found h = h refl

then_unless : {A B : Type 0} (t : Bool) (r : Rule) (read : Result A Rule) (f : A → Result B Rule) (found : Option Rule) → (t ≡ false → told (read >>= f) ≡ found) → told (cond t (Err r) read >>= f) ≡ cond t (Some r) found
then_unless true r read f found h = refl
then_unless false r read f found h = h refl

then_where : {A B : Type 0} (t : Bool) (r : Rule) (read : Result A Rule) (f : A → Result B Rule) (found : Option Rule) → (t ≡ true → told (read >>= f) ≡ found) → told (cond t read (Err r) >>= f) ≡ cond (not t) (Some r) found
then_where true r read f found h = h refl
then_where false r read f found h = refl

where_so : {A : Type 0} (t : Bool) (r : Rule) (read : Result A Rule) (found : Option Rule) → (t ≡ true → told read ≡ found) → told (cond t read (Err r)) ≡ cond (not t) (Some r) found
where_so true r read found h = h refl
where_so false r read found h = refl

-- a word that has to be so
has_to_be : {A B : Type 0} (t : Bool) (x : A) (r : Rule) (f : A → Result B Rule) (found : Option Rule) → told (f x) ≡ found → told (cond t (Ok x) (Err r) >>= f) ≡ cond (not t || false) (Some r) found
has_to_be true x r f found h = h
has_to_be false x r f found h = refl

-- a word that may not be so
is_not_to_be : {A B : Type 0} (t : Bool) (r : Rule) (read : Result A Rule) (f : A → Result B Rule) (found : Option Rule) → told (read >>= f) ≡ found
    → told (cond t (Err r) read >>= f) ≡ cond (t || false) (Some r) found
is_not_to_be true r read f found h = refl
is_not_to_be false r read f found h = h

may_not_be : {A : Type 0} (t : Bool) (r : Rule) (read : Result A Rule) (found : Option Rule) → told read ≡ found → told (cond t (Err r) read) ≡ cond (t || false) (Some r) found
may_not_be true r read found h = refl
may_not_be false r read found h = h

-- ---- what is asked

-- the first rule that a number, a key or a value breaks
abbrev fields_broken : Verb → List Word → Option Rule → Option Rule
fields_broken v ws found =
    cond (some_word numbers_at (λ w. not (is_some (amount_of w))) ws (Some (form.Session v))) (Some rule.Number)
    (cond (some_word keys_at (λ w. nat_lt 64 (length w)) ws (Some (form.Session v))) (Some rule.Key)
    (cond (some_word values_at (λ w. nat_lt 256 (length w)) ws (Some (form.Session v))) (Some rule.Value) found))

one_field : {B : Type 0} (k : Bool) (r : Rule) (x : Word) (mk : Word → Ask) (g : Ask → Result B Rule) (found : Option Rule) → told (g (mk x)) ≡ found
    → told ((cond k (Err r) (Ok x) >>= λ a. Ok (mk a)) >>= g) ≡ cond (k || false) (Some r) found
one_field true r x mk g found h = refl
one_field false r x mk g found h = h

key_value : {B : Type 0} (k v : Bool) (x y : Word) (mk : Word → Word → Ask) (g : Ask → Result B Rule) (found : Option Rule) → told (g (mk x y)) ≡ found
    → told ((cond k (Err rule.Key) (Ok x) >>= λ a. cond v (Err rule.Value) (Ok y) >>= λ b. Ok (mk a b)) >>= g)
    ≡ cond (k || false) (Some rule.Key) (cond (v || false) (Some rule.Value) found)
key_value true v x y mk g found h = refl
key_value false true x y mk g found h = refl
key_value false false x y mk g found h = h

key_two_values : {B : Type 0} (k v w : Bool) (x y z : Word) (mk : Word → Word → Word → Ask) (g : Ask → Result B Rule) (found : Option Rule) → told (g (mk x y z)) ≡ found
    → told ((cond k (Err rule.Key) (Ok x) >>= λ a. cond v (Err rule.Value) (Ok y) >>= λ b. cond w (Err rule.Value) (Ok z) >>= λ c. Ok (mk a b c)) >>= g)
    ≡ cond (k || false) (Some rule.Key) (cond (v || (w || false)) (Some rule.Value) found)
key_two_values true v w x y z mk g found h = refl
key_two_values false true w x y z mk g found h = refl
key_two_values false false true x y z mk g found h = refl
key_two_values false false false x y z mk g found h = h

two_keys : {B : Type 0} (k l : Bool) (x y : Word) (mk : Word → Word → Ask) (g : Ask → Result B Rule) (found : Option Rule) → told (g (mk x y)) ≡ found
    → told ((cond k (Err rule.Key) (Ok x) >>= λ a. cond l (Err rule.Key) (Ok y) >>= λ b. Ok (mk a b)) >>= g)
    ≡ cond (k || (l || false)) (Some rule.Key) found
two_keys true l x y mk g found h = refl
two_keys false true x y mk g found h = refl
two_keys false false x y mk g found h = h

number_key : {B : Type 0} (o : Option ℤ) (k : Bool) (x : Word) (mk : ℤ → Word → Ask) (g : Ask → Result B Rule) (found : Option Rule) → ((z : ℤ) → told (g (mk z x)) ≡ found)
    → told ((number_from o >>= λ z. cond k (Err rule.Key) (Ok x) >>= λ a. Ok (mk z a)) >>= g)
    ≡ cond (not (is_some o) || false) (Some rule.Number) (cond (k || false) (Some rule.Key) found)
number_key None k x mk g found h = refl
number_key (Some z) true x mk g found h = refl
number_key (Some z) false x mk g found h = h z

ask_told : {B : Type 0} (v : Verb) (ws : List Word) (g : Ask → Result B Rule) (found : Option Rule) → ((a : Ask) → told (g a) ≡ found) → told (ask_of v ws >>= g) ≡ fields_broken v ws found
unfolding number_of
ask_told verb.Put ws g found h = key_value (nat_lt 64 (length (word ws 4))) (nat_lt 256 (length (word ws 5))) (word ws 4) (word ws 5) (λ a b. ask.Log (Put a b)) g found (h _)
ask_told verb.Del ws g found h = one_field (nat_lt 64 (length (word ws 4))) rule.Key (word ws 4) (λ a. ask.Log (Del a)) g found (h _)
ask_told verb.Cas ws g found h =
    key_two_values (nat_lt 64 (length (word ws 4))) (nat_lt 256 (length (word ws 5))) (nat_lt 256 (length (word ws 6))) (word ws 4) (word ws 5) (word ws 6) (λ a b c. ask.Log (Cas a b c)) g found (h _)
ask_told verb.Add ws g found h = number_key (amount_of (word ws 5)) (nat_lt 64 (length (word ws 4))) (word ws 4) (λ z a. ask.Log (Add a z)) g found (λ z. h _)
ask_told verb.Get ws g found h = one_field (nat_lt 64 (length (word ws 4))) rule.Key (word ws 4) (λ a. ask.Look (Get a)) g found (h _)
ask_told verb.Scan ws g found h = two_keys (nat_lt 64 (length (word ws 4))) (nat_lt 64 (length (word ws 5))) (word ws 4) (word ws 5) (λ a b. ask.Look (Scan a b)) g found (h _)

-- ---- sessions

-- the first rule that a line of the session at the node breaks
abbrev sessions_broken : Before → ℕ → Word → Option Rule
sessions_broken b node name =
    cond (is_retired b node || false) (Some rule.Retired)
    (cond (is_elsewhere (home_of b.homes name) node || false) (Some rule.Moved) (cond (is_too_many (home_of b.homes name) (length b.homes) || false) (Some rule.Sessions) None))

abbrev placed : ℕ → Ask → Session × Before → Result (Line × Before) Rule
placed node a s = Ok (line.Session node s.0 a, s.1)

admit_told : (b : Before) (node : ℕ) (name : Word) (a : Ask) → told (admit b node name >>= placed node a) ≡ sessions_broken b node name
admit_told b node name a = is_not_to_be (is_retired b node) rule.Retired (admit_at b node name (home_of b.homes name)) (placed node a) _ (go (home_of b.homes name))
  where
    go : (o : Option Home) → told (admit_at b node name o >>= placed node a)
        ≡ cond (is_elsewhere o node || false) (Some rule.Moved) (cond (is_too_many o (length b.homes) || false) (Some rule.Sessions) None)
    go None = has_to_be (nat_lt (length b.homes) 64) (session (length b.homes) name, with_session b node name) rule.Sessions (placed node a) None refl
    go (Some h) = has_to_be (h.node == node) (h.session, b) rule.Moved (placed node a) None refl

-- the first rule that a line breaks which asks the node itself
admin_told : (b : Before) (node : ℕ) (a : Admin) → told (admin_line b node a) ≡ cond (is_retired b node || false) (Some rule.Retired) None
admin_told b node a = let asked : Line × Before = (line.Admin node a, with_asked b node a) in may_not_be (is_retired b node) rule.Retired (Ok asked) None refl

-- ---- lines of a form

-- the first rule after `word` that words of this form break
abbrev form_broken : ℕ → Before → List Word → Form → Option Rule
form_broken nodes b ws f =
    cond (has_other_count ws (Some f)) (Some rule.Count)
    (cond (some_word nodes_at (λ w. not (is_node nodes w)) ws (Some f)) (Some rule.Node)
    (cond (some_word sessions_at (λ w. not (is_name w)) ws (Some f)) (Some rule.Session)
    (cond (some_word numbers_at (λ w. not (is_some (amount_of w))) ws (Some f)) (Some rule.Number)
    (cond (some_word keys_at (λ w. nat_lt 64 (length w)) ws (Some f)) (Some rule.Key)
    (cond (some_word values_at (λ w. nat_lt 256 (length w)) ws (Some f)) (Some rule.Value)
    (cond (some_word nodes_at (λ w. is_retired b (node_number w)) ws (Some f)) (Some rule.Retired)
    (cond (some_word sessions_at (λ w. is_elsewhere (home_of b.homes w) (node_number (word ws 1))) ws (Some f)) (Some rule.Moved)
    (cond (some_word sessions_at (λ w. is_too_many (home_of b.homes w) (length b.homes)) ws (Some f)) (Some rule.Sessions) None))))))))

same_count : (v : Verb) → word_count (form.Session v) ≡ verb_count v
same_count verb.Put = refl
same_count verb.Del = refl
same_count verb.Cas = refl
same_count verb.Add = refl
same_count verb.Get = refl
same_count verb.Scan = refl

named_told : (nodes : ℕ) (b : Before) (ws : List Word) (v : Verb)
    → told (node_of nodes (word ws 1) >>= λ node. name_of (word ws 2) >>= λ name. ask_of v ws >>= λ a. admit b node name >>= placed node a)
    ≡ cond (not (is_node nodes (word ws 1)) || false) (Some rule.Node) (cond (not (is_name (word ws 2)) || false) (Some rule.Session)
    (fields_broken v ws (sessions_broken b (node_number (word ws 1)) (word ws 2))))
named_told nodes b ws v =
    has_to_be (is_node nodes (word ws 1)) (node_number (word ws 1)) rule.Node (λ node. name_of (word ws 2) >>= λ name. ask_of v ws >>= λ a. admit b node name >>= placed node a) _
    (has_to_be (is_name (word ws 2)) (word ws 2) rule.Session (λ name. ask_of v ws >>= λ a. admit b (node_number (word ws 1)) name >>= placed (node_number (word ws 1)) a) _
    (ask_told v ws (λ a. admit b (node_number (word ws 1)) (word ws 2) >>= placed (node_number (word ws 1)) a) (sessions_broken b (node_number (word ws 1)) (word ws 2))
    (λ a. admit_told b (node_number (word ws 1)) (word ws 2) a)))

session_told : (nodes : ℕ) (b : Before) (ws : List Word) (v : Verb) → told (session_line nodes b ws v) ≡ form_broken nodes b ws (form.Session v)
unfolding session_line
session_told nodes b ws v =
    rw (same_count v)
    (where_so (length ws == verb_count v) rule.Count (node_of nodes (word ws 1) >>= λ node. name_of (word ws 2) >>= λ name. ask_of v ws >>= λ a. admit b node name >>= placed node a) _ (λ e. named_told nodes b ws v))

-- a line of no words has none
abbrev HasNone : List Word → Form → Type 0
HasNone ws form.Blank = (length ws == 0) ≡ true
HasNone ws other = Unit {0}

in_told : (nodes : ℕ) (b : Before) (ws : List Word) (f : Form) → HasNone ws f → told (line_in nodes b ws f) ≡ form_broken nodes b ws f
in_told nodes b ws form.Blank none = rw none refl
in_told nodes b ws form.Barrier none = where_so (length ws == 1) rule.Count (Ok (line.Barrier, b)) None (λ e. refl)
in_told nodes b ws (form.Session v) none = session_told nodes b ws v
in_told nodes b ws (form.Admin a) none =
    where_so (length ws == 3) rule.Count (node_of nodes (word ws 1) >>= λ node. admin_line b node a) _
    (λ e. has_to_be (is_node nodes (word ws 1)) (node_number (word ws 1)) rule.Node (λ node. admin_line b node a) _ (admin_told b (node_number (word ws 1)) a))

-- ---- forms

-- reading and the table find the same form
abbrev FindsForm : List Word → Result Form Rule → Option Form → Type 0
FindsForm ws (Ok f) found = (found ≡ Some f) × HasNone ws f
FindsForm ws (Err r) found = (found ≡ None) × (r ≡ rule.Word)

few_words : (ws : List Word) → nat_lt (length ws) 3 ≡ true → nat_lt (length ws) 4 ≡ false → ⊥
few_words ws a b = grind (arith, nat_tests)

-- by the tests of the words: none, `barrier`, `on`, fewer than three, `extend`, `alive`, `trim`, `retire`, fewer than four, and
-- the verbs
forms_found : (ws : List Word) (none bar on two ext alive trim leave three p d c a g s : Bool) → (none ≡ true → (length ws == 0) ≡ true)
    → (two ≡ true → three ≡ false → ⊥) →
    FindsForm ws
    (cond none (Ok form.Blank) (cond bar (Ok form.Barrier) (cond on (cond two (Err rule.Word)
    (cond (ext || (alive || (trim || leave))) (cond ext (Ok admin.Extend) (cond alive (Ok admin.Alive) (cond trim (Ok admin.Trim) (cond leave (Ok admin.Retire) (Err rule.Word)))) >>= λ x. Ok (form.Admin x))
    (cond three (Err rule.Word)
    (cond p (Ok verb.Put) (cond d (Ok verb.Del) (cond c (Ok verb.Cas) (cond a (Ok verb.Add) (cond g (Ok verb.Get) (cond s (Ok verb.Scan) (Err rule.Word))))))
    >>= λ v. Ok (form.Session v))))) (Err rule.Word))))
    (cond none (Some form.Blank) (cond bar (Some form.Barrier)
    (cond (on && (not two && ext)) (Some (form.Admin admin.Extend))
    (cond (on && (not two && alive)) (Some (form.Admin admin.Alive))
    (cond (on && (not two && trim)) (Some (form.Admin admin.Trim))
    (cond (on && (not two && leave)) (Some (form.Admin admin.Retire))
    (cond (on && (not three && (not (ext || (alive || (trim || leave))) && p))) (Some (form.Session verb.Put))
    (cond (on && (not three && (not (ext || (alive || (trim || leave))) && d))) (Some (form.Session verb.Del))
    (cond (on && (not three && (not (ext || (alive || (trim || leave))) && c))) (Some (form.Session verb.Cas))
    (cond (on && (not three && (not (ext || (alive || (trim || leave))) && a))) (Some (form.Session verb.Add))
    (cond (on && (not three && (not (ext || (alive || (trim || leave))) && g))) (Some (form.Session verb.Get))
    (cond (on && (not three && (not (ext || (alive || (trim || leave))) && s))) (Some (form.Session verb.Scan)) None))))))))))))
forms_found ws true bar on two ext alive trim leave three p d c a g s empty few = (refl, empty refl)
forms_found ws false true on two ext alive trim leave three p d c a g s empty few = (refl, tt)
forms_found ws false false false two ext alive trim leave three p d c a g s empty few = (refl, refl)
forms_found ws false false true true ext alive trim leave true p d c a g s empty few = (refl, refl)
forms_found ws false false true true ext alive trim leave false p d c a g s empty few = absurd (few refl refl)
forms_found ws false false true false true alive trim leave three p d c a g s empty few = (refl, tt)
forms_found ws false false true false false true trim leave three p d c a g s empty few = (refl, tt)
forms_found ws false false true false false false true leave three p d c a g s empty few = (refl, tt)
forms_found ws false false true false false false false true three p d c a g s empty few = (refl, tt)
forms_found ws false false true false false false false false true p d c a g s empty few = (refl, refl)
forms_found ws false false true false false false false false false true d c a g s empty few = (refl, tt)
forms_found ws false false true false false false false false false false true c a g s empty few = (refl, tt)
forms_found ws false false true false false false false false false false false true a g s empty few = (refl, tt)
forms_found ws false false true false false false false false false false false false true g s empty few = (refl, tt)
forms_found ws false false true false false false false false false false false false false true s empty few = (refl, tt)
forms_found ws false false true false false false false false false false false false false false true empty few = (refl, tt)
forms_found ws false false true false false false false false false false false false false false false empty few = (refl, refl)

form_found : (ws : List Word) → FindsForm ws (form_of ws) (form_begun ws)
form_found ws =
    forms_found ws (length ws == 0) (bytes_eq (word ws 0) (codes "barrier")) (bytes_eq (word ws 0) (codes "on")) (nat_lt (length ws) 3)
    (bytes_eq (word ws 2) (codes "extend")) (bytes_eq (word ws 2) (codes "alive")) (bytes_eq (word ws 2) (codes "trim"))
    (bytes_eq (word ws 2) (codes "retire")) (nat_lt (length ws) 4)
    (bytes_eq (word ws 3) (codes "put")) (bytes_eq (word ws 3) (codes "del")) (bytes_eq (word ws 3) (codes "cas"))
    (bytes_eq (word ws 3) (codes "add")) (bytes_eq (word ws 3) (codes "get")) (bytes_eq (word ws 3) (codes "scan"))
    (λ e. e) (few_words ws)

-- the first rule on its words that a line breaks
abbrev words_broken : ℕ → Before → List Word → Option Form → Option Rule
words_broken nodes b ws None = Some rule.Word
words_broken nodes b ws (Some f) = form_broken nodes b ws f

formed_told : (nodes : ℕ) (b : Before) (ws : List Word) (read : Result Form Rule) (found : Option Form) → FindsForm ws read found
    → told (read >>= λ f. line_in nodes b ws f) ≡ words_broken nodes b ws found
formed_told nodes b ws (Ok f) found h = in_told nodes b ws f h.1 ∙ ap (words_broken nodes b ws) (sym h.0)
formed_told nodes b ws (Err r) found h = rw (h.0, h.1) refl

-- ---- lines

spaces_told : {A : Type 0} (text : List ℕ) (pieces : List Word) (empty : Bool) (read : List Word → Result A Rule) (found : List Word → Option Rule) → ((ws : List Word) → told (read ws) ≡ found ws)
    → told (cond empty (Ok []) (cond (list_any is_empty pieces) (Err rule.Spaces) (Ok pieces)) >>= read)
    ≡ cond (list_any is_empty (cond empty [] pieces)) (Some rule.Spaces) (found (cond empty [] pieces))
spaces_told text pieces true read found h = h []
spaces_told text pieces false read found h = then_unless (list_any is_empty pieces) rule.Spaces (Ok pieces) read (found pieces) (λ e. h pieces)

-- the first rule that a text breaks
abbrev text_broken : ℕ → Before → List ℕ → Option Rule
text_broken nodes b text =
    cond (nat_lt 512 (length text)) (Some rule.TooLong) (cond (not (list_all is_text_byte text)) (Some rule.Byte)
    (cond (list_any is_empty (words_in text)) (Some rule.Spaces) (words_broken nodes b (words_in text) (form_begun (words_in text)))))

text_told : (nodes : ℕ) (b : Before) (text : List ℕ) → told (line_at nodes b text) ≡ text_broken nodes b text
unfolding line_at
text_told nodes b text =
    then_unless (nat_lt 512 (length text)) rule.TooLong (cond (list_all is_text_byte text) (split_words text) (Err rule.Byte)) (λ ws. form_of ws >>= λ f. line_in nodes b ws f) _ (λ e.
    then_where (list_all is_text_byte text) rule.Byte (split_words text) (λ ws. form_of ws >>= λ f. line_in nodes b ws f) _ (λ e1.
    spaces_told text (slice_split (λ c. c == 32) text) (is_empty text) (λ ws. form_of ws >>= λ f. line_in nodes b ws f) (λ ws. words_broken nodes b ws (form_begun ws))
    (λ ws. formed_told nodes b ws (form_of ws) (form_begun ws) (form_found ws))))

-- the table's rules, the last ten of which are about a form
by_form : (nodes n at : ℕ) (b : Before) (r : RawLine) (o : Option Form) → words_broken nodes b (words_in r.text) o
    ≡ cond (not (is_some o)) (Some rule.Word) (cond (has_other_count (words_in r.text) o) (Some rule.Count)
    (cond (some_word nodes_at (λ w. not (is_node nodes w)) (words_in r.text) o) (Some rule.Node)
    (cond (some_word sessions_at (λ w. not (is_name w)) (words_in r.text) o) (Some rule.Session)
    (cond (some_word numbers_at (λ w. not (is_some (amount_of w))) (words_in r.text) o) (Some rule.Number)
    (cond (some_word keys_at (λ w. nat_lt 64 (length w)) (words_in r.text) o) (Some rule.Key)
    (cond (some_word values_at (λ w. nat_lt 256 (length w)) (words_in r.text) o) (Some rule.Value)
    (cond (some_word nodes_at (λ w. is_retired b (node_number w)) (words_in r.text) o) (Some rule.Retired)
    (cond (some_word sessions_at (λ w. is_elsewhere (home_of b.homes w) (node_number (word (words_in r.text) 1))) (words_in r.text) o) (Some rule.Moved)
    (cond (some_word sessions_at (λ w. is_too_many (home_of b.homes w) (length b.homes)) (words_in r.text) o) (Some rule.Sessions) None)))))))))
by_form nodes n at b r None = refl
by_form nodes n at b r (Some f) = refl

-- reading a line tells the first rule of the table that it breaks, and reads it where it breaks none
line_told : (nodes : ℕ) (b : Before) (n at : ℕ) (r : RawLine) → told (line_numbered nodes b n at r) ≡ first_broken nodes b n at r
unfolding first_broken
line_told nodes b n at r =
    unless (nat_lt 1048576 (at + r.size)) rule.ScriptTooLong (cond (nat_lt 20000 n) (Err rule.TooManyLines) (line_at nodes b r.text)) _ (λ e.
    unless (nat_lt 20000 n) rule.TooManyLines (line_at nodes b r.text) _ (λ e1.
    text_told nodes b r.text ∙ ap (λ (rest : Option Rule). cond (nat_lt 512 (length r.text)) (Some rule.TooLong) (cond (not (list_all is_text_byte r.text)) (Some rule.Byte)
    (cond (list_any is_empty (words_in r.text)) (Some rule.Spaces) rest))) (by_form nodes n at b r (form_begun (words_in r.text)))))

-- ---- scripts

abbrev bad_lines : BadLine → Result (List Line) BadLine
bad_lines bad = Err bad

same_bad : (a bad : BadLine) → bad_lines a ≡ bad_lines bad → a ≡ bad
same_bad a bad e = cc

rest_refused : (l : Line) (read : Result (List Line) BadLine) (bad : BadLine) → (read >>= λ others. Ok (l ∷ others)) ≡ Err bad → read ≡ Err bad
rest_refused l (Ok ls) bad e = absurd cc
rest_refused l (Err b) bad e = e

-- the first line is refused, or a later one is
step_refused : (nodes : ℕ) (b : Before) (n at : ℕ) (r : RawLine) (rs : List RawLine) (bad : BadLine) (x : Result (Line × Before) Rule)
    → ((first : Line × Before) → lines_from nodes first.1 (n + 1) (at + r.size) rs ≡ Err bad → IsRefusedFrom nodes first.1 (n + 1) (at + r.size) rs bad)
    → line_numbered nodes b n at r ≡ x
    → (in_line n x >>= λ first. lines_from nodes first.1 (n + 1) (at + r.size) rs >>= λ others. Ok (first.0 ∷ others)) ≡ Err bad
    → IsRefusedFrom nodes b n at (r ∷ rs) bad
step_refused nodes b n at r rs bad (Err rule) later is e =
    let same = same_bad (record { n = n; rule = rule }) bad e in
    inl (subst (λ (k : BadLine). (k.n ≡ n) × (first_broken nodes b n at r ≡ Some k.rule)) same (refl, sym (line_told nodes b n at r) ∙ ap told is))
step_refused nodes b n at r rs bad (Ok first) later is e =
    let place = taken_else (nat_lt 1048576 (at + r.size)) rule.ScriptTooLong (cond (nat_lt 20000 n) (Err rule.TooManyLines) (line_at nodes b r.text)) first is in
    let number = taken_else (nat_lt 20000 n) rule.TooManyLines (line_at nodes b r.text) first place.1 in
    inr (
      sym (line_told nodes b n at r) ∙ ap told is,
      first.0,
      first.1,
      line_takes nodes b r.text first number.1,
      later first (rest_refused first.0 (lines_from nodes first.1 (n + 1) (at + r.size) rs) bad e),
    )

lines_refused : (nodes : ℕ) (b : Before) (n at : ℕ) (rows : List RawLine) (bad : BadLine) → lines_from nodes b n at rows ≡ Err bad → IsRefusedFrom nodes b n at rows bad
unfolding lines_from
lines_refused nodes b n at [] bad e = absurd cc
lines_refused nodes b n at (r ∷ rs) bad e =
    step_refused nodes b n at r rs bad (line_numbered nodes b n at r) (λ first k. lines_refused nodes first.1 (n + 1) (at + r.size) rs bad k) refl e

broken_is : (x : Result (Line × Before) Rule) (r : Rule) → told x ≡ Some r → x ≡ Err r
broken_is (Ok y) r e = absurd cc
broken_is (Err d) r e = cc

-- a line that breaks no rule is read as what it spells
unbroken_is : (nodes : ℕ) (b after : Before) (n at : ℕ) (r : RawLine) (l : Line) (x : Result (Line × Before) Rule) → line_numbered nodes b n at r ≡ x → told x ≡ None
    → line_at nodes b r.text ≡ Ok (l, after) → x ≡ Ok (l, after)
unbroken_is nodes b after n at r l (Ok y) is none line =
    let place = taken_else (nat_lt 1048576 (at + r.size)) rule.ScriptTooLong (cond (nat_lt 20000 n) (Err rule.TooManyLines) (line_at nodes b r.text)) y is in
    let number = taken_else (nat_lt 20000 n) rule.TooManyLines (line_at nodes b r.text) y place.1 in
    sym number.1 ∙ line
unbroken_is nodes b after n at r l (Err d) is none line = absurd cc

refused_lines : (nodes : ℕ) (b : Before) (n at : ℕ) (rows : List RawLine) (bad : BadLine) → nodes ≤ 8 → IsRefusedFrom nodes b n at rows bad → lines_from nodes b n at rows ≡ Err bad
unfolding lines_from
refused_lines nodes b n at [] bad few h = absurd h
refused_lines nodes b n at (r ∷ rs) bad few (inl h) =
    let is = broken_is (line_numbered nodes b n at r) bad.rule (line_told nodes b n at r ∙ h.1) in
    rw is (ap (λ (k : ℕ). Err (record { n = k; rule = bad.rule })) (sym h.0))
refused_lines nodes b n at (r ∷ rs) bad few (inr h) =
    let is = unbroken_is nodes b h.2 n at r h.1 (line_numbered nodes b n at r) refl (line_told nodes b n at r ∙ h.0) (line_again nodes b h.2 r.text h.1 few h.3) in
    rw (is, refused_lines nodes h.2 (n + 1) (at + r.size) rs bad few h.4) refl

-- a script is refused for the first line that breaks a rule, with the first rule of the table that it breaks
pub is_refused : (nodes : ℕ) (bytes : List ℕ) (x : Result (List Line) ParseError) (bad : BadLine) → ReadsScript x (script_of nodes bytes) → x ≡ Err (error.Bad bad) → IsRefused nodes bytes bad
unfolding script_of
is_refused nodes bytes x bad reads is = lines_refused nodes nothing_yet 1 0 (lines_in bytes) bad (subst (λ y. ReadsScript y (script_of nodes bytes)) is reads)

pub refused_again : (nodes : ℕ) (bytes : List ℕ) (bad : BadLine) → nodes ≤ 8 → IsRefused nodes bytes bad → script_of nodes bytes ≡ Err bad
unfolding script_of
refused_again nodes bytes bad few h = refused_lines nodes nothing_yet 1 0 (lines_in bytes) bad few h
