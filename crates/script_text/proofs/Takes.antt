-- What is read of a line is how the line is spelled.
use Rattle.std.proofs.Common.{◌≡◌, ◌==◌, ◌<◌, ◌≤◌, ◌+◌, ◌-◌, ◌&&◌, ◌||◌, inl, inr, ℕ, zero, suc, Bool, true, false, cond, List, [], ◌∷◌, length, Option, Some, None, Result, Ok, Err, refl, sym, ap, subst, ◌∙◌, arith}
use Rattle.std.specs.Prelude.{codes, nat_lt, nat_le, slice_index}
use Rattle.std.specs.List.{slice_split, onto_first, join_with_byte, list_all, list_any}
use Rattle.std.specs.Str.{bytes_eq}
use Rattle.std.specs.Fmt.{signed_decimal}
use Rattle.std.proofs.lemmas.Bool.{ltb-true, ltb-false, leb-true, eqb-true}
use Rattle.std.proofs.lemmas.Slice.Eq.{bytes_eq-Decides, text_from_reads}
use Rattle.std.proofs.lemmas.Bool.Decides.{nat_tests}
use Rattle.std.proofs.lemmas.List.Splits.{join_with_byte-slice_split}
use Rattle.table_core.specs.declared.command.Command.TheVariants.{Put, Del, Cas, Add}
use Rattle.table_core.specs.declared.command.Query.TheVariants.{Get, Scan}
use Rattle.script_text.specs.declared.line.Rule.{Rule}
use Rattle.script_text.specs.declared.line.Rule.TheVariants as rule
use Rattle.script_text.specs.declared.line.Session.{Session}
use Rattle.script_text.specs.declared.line.Line.{Line}
use Rattle.script_text.specs.declared.line.Line.TheVariants as line
use Rattle.script_text.specs.declared.line.Admin.{Admin}
use Rattle.script_text.specs.declared.line.Admin.TheVariants as admin
use Rattle.script_text.specs.declared.line.Ask.{Ask}
use Rattle.script_text.specs.declared.line.Ask.TheVariants as ask
use Rattle.script_text.specs.declared.forms.Verb.{Verb}
use Rattle.script_text.specs.declared.forms.Verb.TheVariants as verb
use Rattle.script_text.specs.declared.forms.Form.{Form}
use Rattle.script_text.specs.declared.forms.Form.TheVariants as form
use Rattle.script_text.specs.declared.seen.Home.{Home}
use Rattle.script_text.specs.Gives.{◌>>=◌}
use Rattle.script_text.specs.Words.{Word, is_empty, is_text_byte, split_words, words_of}
use Rattle.script_text.specs.Fields.{is_node, node_of, is_name, name_of, number_of, key_of, value_of}
use Rattle.script_text.specs.Seen.{Before, session, home, is_named, is_retired, with_asked, home_of, with_session, admit, admit_at, admit_new}
use Rattle.script_text.specs.Forms.{word, is_admin_word, admin_of, admin_form, verb_of, session_form, on_form, form_of, having, verb_count, ask_of, session_line, admin_line, line_in, line_at}
use Rattle.script_text.specs.Rules.{verb_name}
use Rattle.script_text.proofs.Numbers.{number_takes}
use Rattle.script_text.specs.Spelling.{node_name, ask_words, admin_name, line_words, is_print, IsWord, IsNode, IsSessionName, AskFits, LineFits, Belongs, Follows, Spells}

-- ---- steps that did not fail

pub bind_ok : {A B E : Type 0} (r : Result A E) (f : A → Result B E) (y : B) → (r >>= f) ≡ Ok y → (x : A) × (r ≡ Ok x) × (f x ≡ Ok y)
bind_ok (Ok x) f y e = (x, refl, e)
bind_ok (Err d) f y e = absurd cc

pub taken_else : {A E : Type 0} (b : Bool) (d : E) (r : Result A E) (y : A) → cond b (Err d) r ≡ Ok y → (b ≡ false) × (r ≡ Ok y)
taken_else true d r y e = absurd cc
taken_else false d r y e = (refl, e)

pub taken_then : {A E : Type 0} (b : Bool) (d : E) (r : Result A E) (y : A) → cond b r (Err d) ≡ Ok y → (b ≡ true) × (r ≡ Ok y)
taken_then true d r y e = (refl, e)
taken_then false d r y e = absurd cc

abbrev done : {A : Type 0} → A → Result A Rule
done x = Ok x

pub ok_is : {A : Type 0} (x y : A) → done x ≡ done y → x ≡ y
ok_is x y e = cc

pub both : (a b : Bool) → (a && b) ≡ true → (a ≡ true) × (b ≡ true)
both true b e = (refl, e)
both false b e = absurd cc

pub neither : (a b : Bool) → (a || b) ≡ false → (a ≡ false) × (b ≡ false)
neither true b e = absurd cc
neither false b e = (refl, e)

pub same_bytes : (a b : List ℕ) → bytes_eq a b ≡ true → a ≡ b
same_bytes a b e = (bytes_eq-Decides a b).0 e

-- ---- words

-- the words of a text
pub record Cut (text : List ℕ) (ws : List Word) : Type 0 where
  pub joined : text ≡ join_with_byte 32 ws
  pub short : length text ≤ 512
  pub printed : list_all (list_all is_print) ws ≡ true
  pub some : list_any is_empty ws ≡ false

print_or_space : (b : ℕ) → is_text_byte b ≡ true → (b == 32) ≡ false → is_print b ≡ true
print_or_space b t s = grind (arith, nat_tests)

onto_printed : (b : ℕ) (ps : List Word) → is_print b ≡ true → list_all (list_all is_print) ps ≡ true → list_all (list_all is_print) (onto_first b ps) ≡ true
onto_printed b [] p h = rw p refl
onto_printed b (q ∷ qs) p h = rw p h

split_more : (b : ℕ) (ps : List Word) (t : Bool) → (b == 32) ≡ t → is_text_byte b ≡ true → list_all (list_all is_print) ps ≡ true
    → list_all (list_all is_print) (cond t ([] ∷ ps) (onto_first b ps)) ≡ true
split_more b ps true e plain h = h
split_more b ps false e plain h = onto_printed b ps (print_or_space b plain e) h

split_printed : (bs : List ℕ) → list_all is_text_byte bs ≡ true → list_all (list_all is_print) (slice_split (λ b. b == 32) bs) ≡ true
split_printed [] h = refl
split_printed (b ∷ bs) h =
    let parts = both (is_text_byte b) (list_all is_text_byte bs) h in
    split_more b (slice_split (λ c. c == 32) bs) (b == 32) refl parts.0 (split_printed bs parts.1)

not_empty : (b : ℕ) (bs : List ℕ) → is_empty (b ∷ bs) ≡ false
not_empty b bs = grind (arith, nat_tests)

split_cut : (text : List ℕ) (ws : List Word) → length text ≤ 512 → list_all is_text_byte text ≡ true → split_words text ≡ Ok ws → Cut text ws
split_cut [] ws short plain e = subst (Cut []) (ok_is [] ws e) (record { joined = refl; short = short; printed = refl; some = refl })
split_cut (b ∷ bs) ws short plain e =
    let a = taken_else (list_any is_empty (slice_split (λ c. c == 32) (b ∷ bs))) rule.Spaces (Ok (slice_split (λ c. c == 32) (b ∷ bs))) ws (rw (not_empty b bs) at e) in
    subst (Cut (b ∷ bs)) (ok_is (slice_split (λ c. c == 32) (b ∷ bs)) ws a.1)
    (record { joined = sym (join_with_byte-slice_split 32 (b ∷ bs)); short = short; printed = split_printed (b ∷ bs) plain; some = a.0 })

pub words_cut : (text : List ℕ) (ws : List Word) → words_of text ≡ Ok ws → Cut text ws
words_cut text ws e =
    let a = taken_else (nat_lt 512 (length text)) rule.TooLong (cond (list_all is_text_byte text) (split_words text) (Err rule.Byte)) ws e in
    let b = taken_then (list_all is_text_byte text) rule.Byte (split_words text) ws a.1 in
    split_cut text ws (ltb-false _ _ a.0) b.0 b.1

-- a word of them
pub word_printed : (ws : List Word) (i : ℕ) → i < length ws → list_all (list_all is_print) ws ≡ true → list_all is_print (word ws i) ≡ true
word_printed [] i lt h = absurd (omega arith)
word_printed (w ∷ ws) zero lt h = (both (list_all is_print w) (list_all (list_all is_print) ws) h).0
word_printed (w ∷ ws) (suc i) lt h = word_printed ws i (omega arith) (both (list_all is_print w) (list_all (list_all is_print) ws) h).1

some_bytes : (w : Word) → is_empty w ≡ false → 0 < length w
some_bytes [] e = absurd cc
some_bytes (b ∷ bs) e = omega arith

pub word_some : (ws : List Word) (i : ℕ) → i < length ws → list_any is_empty ws ≡ false → 0 < length (word ws i)
word_some [] i lt h = absurd (omega arith)
word_some (w ∷ ws) zero lt h = some_bytes w (neither (is_empty w) (list_any is_empty ws) h).0
word_some (w ∷ ws) (suc i) lt h = word_some ws i (omega arith) (neither (is_empty w) (list_any is_empty ws) h).1

pub word_is : (text : List ℕ) (ws : List Word) (i most : ℕ) → Cut text ws → i < length ws → length (word ws i) ≤ most → IsWord most (word ws i)
word_is text ws i most cut lt len = record { some = word_some ws i lt cut.some; most_bytes = len; printed = word_printed ws i lt cut.printed }

-- ---- a list of so many words

abbrev pub tabulate : (ℕ → Word) → ℕ → ℕ → List Word
tabulate f i zero = []
tabulate f i (suc n) = f i ∷ tabulate f (i + 1) n

shifted : (w : Word) (ws : List Word) (i n : ℕ) → tabulate (word (w ∷ ws)) (i + 1) n ≡ tabulate (word ws) i n
shifted w ws i zero = refl
shifted w ws i (suc n) = let k : i + 1 ≡ suc i = omega arith in let here : word (w ∷ ws) (i + 1) ≡ word ws i = rw k refl in rw here (ap (λ (t : List Word). word ws i ∷ t) (shifted w ws (i + 1) n))

pub words_are : (ws : List Word) → ws ≡ tabulate (word ws) 0 (length ws)
words_are [] = refl
words_are (w ∷ ws) = ap (λ (t : List Word). w ∷ t) (words_are ws ∙ sym (shifted w ws 0 (length ws)))

pub so_many : (ws : List Word) (n : ℕ) → length ws ≡ n → ws ≡ tabulate (word ws) 0 n
so_many ws n e = words_are ws ∙ ap (tabulate (word ws) 0) e

-- ---- fields

pub having_ok : {A : Type 0} (n : ℕ) (ws : List Word) (read : Result A Rule) (y : A) → having n ws read ≡ Ok y → (length ws ≡ n) × (read ≡ Ok y)
having_ok n ws read y e = let a = taken_then (length ws == n) rule.Count read y e in (eqb-true _ _ a.0, a.1)

node_is : (w : Word) (nodes : ℕ) → is_node nodes w ≡ true → (w ≡ node_name (slice_index w 1 - 48)) × IsNode nodes (slice_index w 1 - 48)
node_is w nodes e =
    let a = both (length w == 2) (slice_index w 0 == 110 && (nat_le 49 (slice_index w 1) && nat_le (slice_index w 1) (48 + nodes))) e in
    let b = both (slice_index w 0 == 110) (nat_le 49 (slice_index w 1) && nat_le (slice_index w 1) (48 + nodes)) a.1 in
    let c = both (nat_le 49 (slice_index w 1)) (nat_le (slice_index w 1) (48 + nodes)) b.1 in
    let low = leb-true _ _ c.0 in
    let high = leb-true _ _ c.1 in
    let first : slice_index w 0 ≡ 110 = eqb-true _ _ b.0 in
    let second : slice_index w 1 ≡ 48 + (slice_index w 1 - 48) = omega arith in
    (text_from_reads w (node_name (slice_index w 1 - 48)) (eqb-true _ _ a.0) (first, (second, tt)), record { least = omega arith; most = omega arith })

pub node_takes : (nodes n : ℕ) (w : Word) → node_of nodes w ≡ Ok n → (w ≡ node_name n) × IsNode nodes n
node_takes nodes n w e =
    let a = taken_then (is_node nodes w) rule.Node (Ok (slice_index w 1 - 48)) n e in
    subst (λ (m : ℕ). (w ≡ node_name m) × IsNode nodes m) (ok_is (slice_index w 1 - 48) n a.1) (node_is w nodes a.0)

pub name_takes : (w name : Word) → name_of w ≡ Ok name → (w ≡ name) × (is_name name ≡ true)
name_takes w name e =
    let a = taken_then (is_name w) rule.Session (Ok w) name e in
    let same : w ≡ name = ok_is w name a.1 in (same, subst (λ (x : Word). is_name x ≡ true) same a.0)

pub key_takes : (w k : Word) → key_of w ≡ Ok k → (w ≡ k) × (length w ≤ 64)
key_takes w k e = let a = taken_else (nat_lt 64 (length w)) rule.Key (Ok w) k e in (ok_is w k a.1, ltb-false _ _ a.0)

pub value_takes : (w v : Word) → value_of w ≡ Ok v → (w ≡ v) × (length w ≤ 256)
value_takes w v e = let a = taken_else (nat_lt 256 (length w)) rule.Value (Ok w) v e in (ok_is w v a.1, ltb-false _ _ a.0)

-- ---- sessions

abbrev some : Home → Option Home
some h = Some h

same_home : (x h : Home) → some x ≡ some h → x ≡ h
same_home x h e = cc

-- the home that is found has the name that was looked for
pub found_named : (hs : List Home) (name : Word) (h : Home) → home_of hs name ≡ Some h → h.session.name ≡ name
found_named [] name h e = absurd cc
found_named (x ∷ xs) name h e = go (is_named name x) refl (found_named xs name h) e
  where
    go : (t : Bool) → is_named name x ≡ t → (home_of xs name ≡ Some h → h.session.name ≡ name) → cond t (Some x) (home_of xs name) ≡ Some h → h.session.name ≡ name
    go true is later here = subst (λ (k : Home). k.session.name ≡ name) (same_home x h here) (same_bytes x.session.name name is)
    go false is later here = later here

-- what admitting gives
pub record Admits (b : Before) (n : ℕ) (name : Word) (s : Session) (after : Before) : Type 0 where
  pub name_is : s.name ≡ name
  pub belongs : Belongs b n s after

admit_new_takes : (b : Before) (n : ℕ) (name : Word) (x : Session × Before) → home_of b.homes name ≡ None → admit_new b n name ≡ Ok x → Admits b n name x.0 x.1
admit_new_takes b n name x none e =
    let a = taken_then (nat_lt (length b.homes) 64) rule.Sessions (Ok (session (length b.homes) name, with_session b n name)) x e in
    subst (λ (y : Session × Before). Admits b n name y.0 y.1)
    (ok_is (session (length b.homes) name, with_session b n name) x a.1)
    (record { name_is = refl; belongs = inr (none, refl, ltb-true _ _ a.0, refl) })

admit_at_takes : (b : Before) (n : ℕ) (name : Word) (o : Option Home) (x : Session × Before) → home_of b.homes name ≡ o → admit_at b n name o ≡ Ok x → Admits b n name x.0 x.1
admit_at_takes b n name None x is e = admit_new_takes b n name x is e
admit_at_takes b n name (Some h) x is e =
    let a = taken_then (h.node == n) rule.Moved (Ok (h.session, b)) x e in
    let here : h.node ≡ n = eqb-true _ _ a.0 in
    let named : h.session.name ≡ name = found_named b.homes name h is in
    let found : home_of b.homes h.session.name ≡ Some (home h.session n) = ap (λ (w : Word). home_of b.homes w) named ∙ is ∙ ap (λ (k : ℕ). Some (home h.session k)) here in
    subst (λ (y : Session × Before). Admits b n name y.0 y.1) (ok_is (h.session, b) x a.1)
    (record { name_is = named; belongs = inl (found, refl) })

pub admit_takes : (b : Before) (n : ℕ) (name : Word) (x : Session × Before) → admit b n name ≡ Ok x → (is_retired b n ≡ false) × Admits b n name x.0 x.1
admit_takes b n name x e =
    let a = taken_else (is_retired b n) rule.Retired (admit_at b n name (home_of b.homes name)) x e in
    (a.0, admit_at_takes b n name (home_of b.homes name) x refl a.1)

-- ---- lines

-- the words of the text are those of the line
pub by_words : (nodes : ℕ) (b after : Before) (text : List ℕ) (ws : List Word) (l : Line) → Cut text ws → ws ≡ line_words l → LineFits nodes l → Follows b l after → Spells nodes b text l after
by_words nodes b after text ws l cut words fits follows = record { spelled = cut.joined ∙ ap (join_with_byte 32) words; short = cut.short; fits = fits; follows = follows }

-- what the form of a session's line says of the words
pub record IsOn (ws : List Word) (v : Verb) : Type 0 where
  pub on : word ws 0 ≡ codes "on"
  pub not_admin : is_admin_word (word ws 2) ≡ false
  pub verb_is : word ws 3 ≡ verb_name v

two : (a b p q : Word) → a ≡ p → b ≡ q → a ∷ b ∷ [] ≡ p ∷ q ∷ []
two a b p q h1 h2 = cc

three : (a b c p q r : Word) → a ≡ p → b ≡ q → c ≡ r → a ∷ b ∷ c ∷ [] ≡ p ∷ q ∷ r ∷ []
three a b c p q r h1 h2 h3 = cc

four : (a b c d p q r s : Word) → a ≡ p → b ≡ q → c ≡ r → d ≡ s → a ∷ b ∷ c ∷ d ∷ [] ≡ p ∷ q ∷ r ∷ s ∷ []
four a b c d p q r s h1 h2 h3 h4 = cc

-- the words from the verb on are those of what is asked, which may be asked
pub record TakesAsk (ws : List Word) (v : Verb) (a : Ask) : Type 0 where
  pub words : tabulate (word ws) 3 (verb_count v - 3) ≡ ask_words a
  pub fits : AskFits a

ask_takes : (text : List ℕ) (ws : List Word) (v : Verb) (a : Ask) → Cut text ws → length ws ≡ verb_count v → word ws 3 ≡ verb_name v → ask_of v ws ≡ Ok a → TakesAsk ws v a
ask_takes text ws verb.Put a cut len is e =
    let many : length ws ≡ 6 = len in
    let k = bind_ok (key_of (word ws 4)) (λ key. value_of (word ws 5) >>= λ value. Ok (ask.Log (Put key value))) a e in
    let v = bind_ok (value_of (word ws 5)) (λ value. Ok (ask.Log (Put k.0 value))) a k.2 in
    let tk = key_takes (word ws 4) k.0 k.1 in
    let tv = value_takes (word ws 5) v.0 v.1 in
    let key : IsWord 64 k.0 = subst (IsWord 64) tk.0 (word_is text ws 4 64 cut (omega (arith, many)) tk.1) in
    let value : IsWord 256 v.0 = subst (IsWord 256) tv.0 (word_is text ws 5 256 cut (omega (arith, many)) tv.1) in
    let y : Ask = ask.Log (Put k.0 v.0) in
    subst (TakesAsk ws verb.Put) (ok_is y a v.2)
    (record { words = three (word ws 3) (word ws 4) (word ws 5) (codes "put") k.0 v.0 is tk.0 tv.0; fits = (key, value) })
ask_takes text ws verb.Del a cut len is e =
    let many : length ws ≡ 5 = len in
    let k = bind_ok (key_of (word ws 4)) (λ key. Ok (ask.Log (Del key))) a e in
    let tk = key_takes (word ws 4) k.0 k.1 in
    let key : IsWord 64 k.0 = subst (IsWord 64) tk.0 (word_is text ws 4 64 cut (omega (arith, many)) tk.1) in
    let y : Ask = ask.Log (Del k.0) in
    subst (TakesAsk ws verb.Del) (ok_is y a k.2)
    (record { words = two (word ws 3) (word ws 4) (codes "del") k.0 is tk.0; fits = key })
ask_takes text ws verb.Cas a cut len is e =
    let many : length ws ≡ 7 = len in
    let k = bind_ok (key_of (word ws 4)) (λ key. value_of (word ws 5) >>= λ old. value_of (word ws 6) >>= λ new. Ok (ask.Log (Cas key old new))) a e in
    let o = bind_ok (value_of (word ws 5)) (λ old. value_of (word ws 6) >>= λ new. Ok (ask.Log (Cas k.0 old new))) a k.2 in
    let v = bind_ok (value_of (word ws 6)) (λ new. Ok (ask.Log (Cas k.0 o.0 new))) a o.2 in
    let tk = key_takes (word ws 4) k.0 k.1 in
    let to = value_takes (word ws 5) o.0 o.1 in
    let tv = value_takes (word ws 6) v.0 v.1 in
    let key : IsWord 64 k.0 = subst (IsWord 64) tk.0 (word_is text ws 4 64 cut (omega (arith, many)) tk.1) in
    let old : IsWord 256 o.0 = subst (IsWord 256) to.0 (word_is text ws 5 256 cut (omega (arith, many)) to.1) in
    let new : IsWord 256 v.0 = subst (IsWord 256) tv.0 (word_is text ws 6 256 cut (omega (arith, many)) tv.1) in
    let y : Ask = ask.Log (Cas k.0 o.0 v.0) in
    subst (TakesAsk ws verb.Cas) (ok_is y a v.2)
    (record { words = four (word ws 3) (word ws 4) (word ws 5) (word ws 6) (codes "cas") k.0 o.0 v.0 is tk.0 to.0 tv.0; fits = (key, old, new) })
ask_takes text ws verb.Add a cut len is e =
    let many : length ws ≡ 6 = len in
    let z = bind_ok (number_of (word ws 5)) (λ amount. key_of (word ws 4) >>= λ key. Ok (ask.Log (Add key amount))) a e in
    let k = bind_ok (key_of (word ws 4)) (λ key. Ok (ask.Log (Add key z.0))) a z.2 in
    let tz = number_takes (word ws 5) z.0 z.1 in
    let tk = key_takes (word ws 4) k.0 k.1 in
    let key : IsWord 64 k.0 = subst (IsWord 64) tk.0 (word_is text ws 4 64 cut (omega (arith, many)) tk.1) in
    let y : Ask = ask.Log (Add k.0 z.0) in
    subst (TakesAsk ws verb.Add) (ok_is y a k.2)
    (record { words = three (word ws 3) (word ws 4) (word ws 5) (codes "add") k.0 (signed_decimal z.0) is tk.0 tz.0; fits = (key, tz.1) })
ask_takes text ws verb.Get a cut len is e =
    let many : length ws ≡ 5 = len in
    let k = bind_ok (key_of (word ws 4)) (λ key. Ok (ask.Look (Get key))) a e in
    let tk = key_takes (word ws 4) k.0 k.1 in
    let key : IsWord 64 k.0 = subst (IsWord 64) tk.0 (word_is text ws 4 64 cut (omega (arith, many)) tk.1) in
    let y : Ask = ask.Look (Get k.0) in
    subst (TakesAsk ws verb.Get) (ok_is y a k.2)
    (record { words = two (word ws 3) (word ws 4) (codes "get") k.0 is tk.0; fits = key })
ask_takes text ws verb.Scan a cut len is e =
    let many : length ws ≡ 6 = len in
    let l = bind_ok (key_of (word ws 4)) (λ low. key_of (word ws 5) >>= λ high. Ok (ask.Look (Scan low high))) a e in
    let h = bind_ok (key_of (word ws 5)) (λ high. Ok (ask.Look (Scan l.0 high))) a l.2 in
    let tl = key_takes (word ws 4) l.0 l.1 in
    let th = key_takes (word ws 5) h.0 h.1 in
    let low : IsWord 64 l.0 = subst (IsWord 64) tl.0 (word_is text ws 4 64 cut (omega (arith, many)) tl.1) in
    let high : IsWord 64 h.0 = subst (IsWord 64) th.0 (word_is text ws 5 64 cut (omega (arith, many)) th.1) in
    let y : Ask = ask.Look (Scan l.0 h.0) in
    subst (TakesAsk ws verb.Scan) (ok_is y a h.2)
    (record { words = three (word ws 3) (word ws 4) (word ws 5) (codes "scan") l.0 h.0 is tl.0 th.0; fits = (low, high) })

-- the words of a session's line, from its first three and the rest
begun : (v : Verb) (f : ℕ → Word) (p q r : Word) (rest : List Word) → f 0 ≡ p → f 1 ≡ q → f 2 ≡ r → tabulate f 3 (verb_count v - 3) ≡ rest → tabulate f 0 (verb_count v) ≡ p ∷ q ∷ r ∷ rest
begun verb.Put f p q r rest h0 h1 h2 h3 = cc
begun verb.Del f p q r rest h0 h1 h2 h3 = cc
begun verb.Cas f p q r rest h0 h1 h2 h3 = cc
begun verb.Add f p q r rest h0 h1 h2 h3 = cc
begun verb.Get f p q r rest h0 h1 h2 h3 = cc
begun verb.Scan f p q r rest h0 h1 h2 h3 = cc

name_is_session : (w name : Word) → w ≡ name → is_name name ≡ true → is_admin_word w ≡ false → IsSessionName name
name_is_session w name same letters not_admin = record { letters = letters; not_admin = subst (λ (x : Word). is_admin_word x ≡ false) same not_admin }

-- words that are those of a session's line spell it
by_session : (nodes n : ℕ) (b after : Before) (text : List ℕ) (ws : List Word) (v : Verb) (s : Session) (a : Ask) → Cut text ws → length ws ≡ verb_count v → word ws 0 ≡ codes "on"
    → word ws 1 ≡ node_name n → word ws 2 ≡ s.name → tabulate (word ws) 3 (verb_count v - 3) ≡ ask_words a → LineFits nodes (line.Session n s a) → Follows b (line.Session n s a) after
    → Spells nodes b text (line.Session n s a) after
by_session nodes n b after text ws v s a cut len on node name words fits follows =
    by_words nodes b after text ws (line.Session n s a) cut (so_many ws (verb_count v) len ∙ begun v (word ws) (codes "on") (node_name n) s.name (ask_words a) on node name words) fits follows

pub session_takes : (nodes : ℕ) (b : Before) (text : List ℕ) (ws : List Word) (v : Verb) (x : Line × Before) → Cut text ws → IsOn ws v → session_line nodes b ws v ≡ Ok x → Spells nodes b text x.0 x.1
unfolding session_line
session_takes nodes b text ws v x cut on e =
    let h = having_ok (verb_count v) ws (node_of nodes (word ws 1) >>= λ node. name_of (word ws 2) >>= λ name. ask_of v ws >>= λ asked. admit b node name >>= λ s. Ok (line.Session node s.0 asked, s.1)) x e in
    let n = bind_ok (node_of nodes (word ws 1)) (λ node. name_of (word ws 2) >>= λ name. ask_of v ws >>= λ asked. admit b node name >>= λ s. Ok (line.Session node s.0 asked, s.1)) x h.1 in
    let m = bind_ok (name_of (word ws 2)) (λ name. ask_of v ws >>= λ asked. admit b n.0 name >>= λ s. Ok (line.Session n.0 s.0 asked, s.1)) x n.2 in
    let a = bind_ok (ask_of v ws) (λ asked. admit b n.0 m.0 >>= λ s. Ok (line.Session n.0 s.0 asked, s.1)) x m.2 in
    let s = bind_ok (admit b n.0 m.0) (λ s. Ok (line.Session n.0 s.0 a.0, s.1)) x a.2 in
    let tn = node_takes nodes n.0 (word ws 1) n.1 in
    let tm = name_takes (word ws 2) m.0 m.1 in
    let ta = ask_takes text ws v a.0 cut h.0 on.verb_is a.1 in
    let ts = admit_takes b n.0 m.0 s.0 s.1 in
    let name : IsSessionName s.0.0.name = subst IsSessionName (sym ts.1.name_is) (name_is_session (word ws 2) m.0 tm.0 tm.1 on.not_admin) in
    subst (λ (z : Line × Before). Spells nodes b text z.0 z.1) (ok_is (line.Session n.0 s.0.0 a.0, s.0.1) x s.2)
    (by_session nodes n.0 b s.0.1 text ws v s.0.0 a.0 cut h.0 on.on tn.0 (tm.0 ∙ sym ts.1.name_is) ta.words (tn.1, name, ta.fits) (ts.0, ts.1.belongs))

pub blank_takes : (nodes : ℕ) (b : Before) (text : List ℕ) (ws : List Word) (x : Line × Before) → Cut text ws → length ws ≡ 0 → Ok (line.Blank, b) ≡ done x → Spells nodes b text x.0 x.1
blank_takes nodes b text ws x cut none e =
    let y : Line × Before = (line.Blank, b) in
    let words : ws ≡ line_words y.0 = so_many ws 0 none in
    subst (λ (z : Line × Before). Spells nodes b text z.0 z.1) (ok_is y x e) (by_words nodes b y.1 text ws y.0 cut words tt refl)

one : (a p : Word) → a ≡ p → a ∷ [] ≡ p ∷ []
one a p h = cc

pub barrier_takes : (nodes : ℕ) (b : Before) (text : List ℕ) (ws : List Word) (x : Line × Before) → Cut text ws → word ws 0 ≡ codes "barrier" → having 1 ws (Ok (line.Barrier, b)) ≡ Ok x
    → Spells nodes b text x.0 x.1
barrier_takes nodes b text ws x cut is e =
    let y : Line × Before = (line.Barrier, b) in
    let h = having_ok 1 ws (Ok y) x e in
    let words : ws ≡ line_words y.0 = so_many ws 1 h.0 ∙ one (word ws 0) (codes "barrier") is in
    subst (λ (z : Line × Before). Spells nodes b text z.0 z.1) (ok_is y x h.1) (by_words nodes b y.1 text ws y.0 cut words tt refl)

-- what the form of an admin line says of the words
pub record IsAdmin (ws : List Word) (a : Admin) : Type 0 where
  pub on : word ws 0 ≡ codes "on"
  pub admin_is : word ws 2 ≡ admin_name a

pub admin_takes : (nodes : ℕ) (b : Before) (text : List ℕ) (ws : List Word) (a : Admin) (x : Line × Before) → Cut text ws → IsAdmin ws a
    → having 3 ws (node_of nodes (word ws 1) >>= λ node. admin_line b node a) ≡ Ok x → Spells nodes b text x.0 x.1
admin_takes nodes b text ws a x cut on e =
    let h = having_ok 3 ws (node_of nodes (word ws 1) >>= λ node. admin_line b node a) x e in
    let n = bind_ok (node_of nodes (word ws 1)) (λ node. admin_line b node a) x h.1 in
    let tn = node_takes nodes n.0 (word ws 1) n.1 in
    let y : Line × Before = (line.Admin n.0 a, with_asked b n.0 a) in
    let there = taken_else (is_retired b n.0) rule.Retired (Ok y) x n.2 in
    let words : ws ≡ line_words y.0 =
    so_many ws 3 h.0 ∙ three (word ws 0) (word ws 1) (word ws 2) (codes "on") (node_name n.0) (admin_name a) on.on tn.0 on.admin_is in
    subst (λ (z : Line × Before). Spells nodes b text z.0 z.1) (ok_is y x there.1) (by_words nodes b y.1 text ws y.0 cut words tn.1 (there.0, refl))

-- ---- forms

-- what a form says of the words
abbrev pub Means : List Word → Form → Type 0
Means ws form.Blank = length ws ≡ 0
Means ws form.Barrier = word ws 0 ≡ codes "barrier"
Means ws (form.Session v) = IsOn ws v
Means ws (form.Admin a) = IsAdmin ws a

leaf : (ws : List Word) (g f : Form) → Means ws g → done g ≡ Ok f → Means ws f
leaf ws g f h e = subst (Means ws) (ok_is g f e) h

verb_leaf : (w : Word) (u v : Verb) → w ≡ verb_name u → done u ≡ Ok v → w ≡ verb_name v
verb_leaf w u v h e = subst (λ (x : Verb). w ≡ verb_name x) (ok_is u v e) h

cased : {A : Type 0} (t : Bool) (x y : Result A Rule) (f : A) (P : Type 0) → (t ≡ true → x ≡ Ok f → P) → (t ≡ false → y ≡ Ok f → P) → cond t x y ≡ Ok f → P
cased true x y f P at_true at_false e = at_true refl e
cased false x y f P at_true at_false e = at_false refl e

refused : {A : Type 0} (r : Rule) (f : A) (P : Type 0) → Err r ≡ done f → P
refused r f P e = absurd cc

verb_means : (w : Word) (v : Verb) → verb_of w ≡ Ok v → w ≡ verb_name v
verb_means w v = cased (bytes_eq w (codes "put")) _ _ v (w ≡ verb_name v) (λ y. verb_leaf w verb.Put v (same_bytes _ _ y))
    (λ t. cased (bytes_eq w (codes "del")) _ _ v (w ≡ verb_name v) (λ y. verb_leaf w verb.Del v (same_bytes _ _ y))
    (λ t1. cased (bytes_eq w (codes "cas")) _ _ v (w ≡ verb_name v) (λ y. verb_leaf w verb.Cas v (same_bytes _ _ y))
    (λ t2. cased (bytes_eq w (codes "add")) _ _ v (w ≡ verb_name v) (λ y. verb_leaf w verb.Add v (same_bytes _ _ y))
    (λ t3. cased (bytes_eq w (codes "get")) _ _ v (w ≡ verb_name v) (λ y. verb_leaf w verb.Get v (same_bytes _ _ y))
    (λ t4. cased (bytes_eq w (codes "scan")) _ _ v (w ≡ verb_name v) (λ y. verb_leaf w verb.Scan v (same_bytes _ _ y))
    (λ t5. refused rule.Word v (w ≡ verb_name v)))))))

session_means : (ws : List Word) (f : Form) → word ws 0 ≡ codes "on" → is_admin_word (word ws 2) ≡ false → session_form ws ≡ Ok f → Means ws f
session_means ws f on not_admin e =
    let t = taken_else (nat_lt (length ws) 4) rule.Word (verb_of (word ws 3) >>= λ v. Ok (form.Session v)) f e in
    let v = bind_ok (verb_of (word ws 3)) (λ v. Ok (form.Session v)) f t.1 in
    leaf ws (form.Session v.0) f (record { on = on; not_admin = not_admin; verb_is = verb_means (word ws 3) v.0 v.1 }) v.2

admin_leaf : (w : Word) (a b : Admin) → w ≡ admin_name a → done a ≡ Ok b → w ≡ admin_name b
admin_leaf w a b h e = subst (λ (x : Admin). w ≡ admin_name x) (ok_is a b e) h

admin_named : (w : Word) (a : Admin) → admin_of w ≡ Ok a → w ≡ admin_name a
admin_named w a = cased (bytes_eq w (codes "extend")) _ _ a (w ≡ admin_name a) (λ y. admin_leaf w admin.Extend a (same_bytes _ _ y))
    (λ t. cased (bytes_eq w (codes "alive")) _ _ a (w ≡ admin_name a) (λ y. admin_leaf w admin.Alive a (same_bytes _ _ y))
    (λ t1. cased (bytes_eq w (codes "trim")) _ _ a (w ≡ admin_name a) (λ y. admin_leaf w admin.Trim a (same_bytes _ _ y))
    (λ t2. cased (bytes_eq w (codes "retire")) _ _ a (w ≡ admin_name a) (λ y. admin_leaf w admin.Retire a (same_bytes _ _ y))
    (λ t3. refused rule.Word a (w ≡ admin_name a)))))

admin_means : (ws : List Word) (f : Form) → word ws 0 ≡ codes "on" → admin_form ws ≡ Ok f → Means ws f
admin_means ws f on e =
    let a = bind_ok (admin_of (word ws 2)) (λ a. Ok (form.Admin a)) f e in
    leaf ws (form.Admin a.0) f (record { on = on; admin_is = admin_named (word ws 2) a.0 a.1 }) a.2

on_means : (ws : List Word) (f : Form) → word ws 0 ≡ codes "on" → on_form ws ≡ Ok f → Means ws f
on_means ws f on e =
    let t = taken_else (nat_lt (length ws) 3) rule.Word (cond (is_admin_word (word ws 2)) (admin_form ws) (session_form ws)) f e in
    cased (is_admin_word (word ws 2)) (admin_form ws) (session_form ws) f (Means ws f) (λ y. admin_means ws f on) (λ not_admin. session_means ws f on not_admin) t.1

pub form_means : (ws : List Word) (f : Form) → form_of ws ≡ Ok f → Means ws f
form_means ws f = cased (length ws == 0) _ _ f (Means ws f) (λ y. leaf ws form.Blank f (eqb-true _ _ y))
    (λ t. cased (bytes_eq (word ws 0) (codes "barrier")) _ _ f (Means ws f) (λ y. leaf ws form.Barrier f (same_bytes _ _ y))
    (λ t1. cased (bytes_eq (word ws 0) (codes "on")) _ _ f (Means ws f) (λ y. on_means ws f (same_bytes _ _ y))
    (λ t2. refused rule.Word f (Means ws f))))

in_takes : (nodes : ℕ) (b : Before) (text : List ℕ) (ws : List Word) (f : Form) (x : Line × Before) → Cut text ws → Means ws f → line_in nodes b ws f ≡ Ok x → Spells nodes b text x.0 x.1
in_takes nodes b text ws form.Blank x cut on e = blank_takes nodes b text ws x cut on e
in_takes nodes b text ws form.Barrier x cut is e = barrier_takes nodes b text ws x cut is e
in_takes nodes b text ws (form.Session v) x cut on e = session_takes nodes b text ws v x cut on e
in_takes nodes b text ws (form.Admin a) x cut on e = admin_takes nodes b text ws a x cut on e

-- a line that is read is spelled so
pub line_takes : (nodes : ℕ) (b : Before) (text : List ℕ) (x : Line × Before) → line_at nodes b text ≡ Ok x → Spells nodes b text x.0 x.1
unfolding line_at
line_takes nodes b text x e =
    let w = bind_ok (words_of text) (λ ws. form_of ws >>= λ f. line_in nodes b ws f) x e in
    let f = bind_ok (form_of w.0) (λ f. line_in nodes b w.0 f) x w.2 in
    in_takes nodes b text w.0 f.0 x (words_cut text w.0 w.1) (form_means w.0 f.0 f.1) f.2
