-- What is spelled is read.
use Rattle.std.proofs.Common.{◌≡◌, ◌==◌, ◌<◌, ◌≤◌, ◌+◌, ◌-◌, ◌&&◌, inl, inr, ℕ, ℤ, Bool, true, false, not, List, [], ◌∷◌, ◌++◌, length, All, Ok, refl, sym, ap, subst, ◌∙◌, arith}
use Rattle.std.specs.Prelude.{codes, nat_lt, nat_le, FitsSigned}
use Rattle.std.specs.Int.{w64}
use Rattle.std.specs.Fmt.{signed_decimal}
use Rattle.std.specs.List.{slice_split, join_with_byte, list_all, list_any, AllByRecursion}
use Rattle.std.proofs.lemmas.List.Elements.{All-from_recursion}
use Rattle.std.proofs.lemmas.Bool.{le-ltb, le-leb, lt-ltb}
use Rattle.std.proofs.lemmas.Bool.Decides.{nat_tests}
use Rattle.std.proofs.lemmas.List.Splits.{slice_split_none, slice_split_at}
use Rattle.table_core.specs.declared.command.Command.TheVariants.{Put, Del, Cas, Add}
use Rattle.table_core.specs.declared.command.Query.TheVariants.{Get, Scan}
use Rattle.script_text.specs.declared.line.Session.{Session}
use Rattle.script_text.specs.declared.line.Line.{Line}
use Rattle.script_text.specs.declared.line.Line.TheVariants as line
use Rattle.script_text.specs.declared.line.Admin.{Admin}
use Rattle.script_text.specs.declared.line.Admin.TheVariants.{Extend, Alive, Trim, Retire}
use Rattle.script_text.specs.declared.line.Ask.{Ask}
use Rattle.script_text.specs.declared.line.Ask.TheVariants.{Log, Look}
use Rattle.script_text.specs.Gives.{◌>>=◌}
use Rattle.script_text.specs.Words.{Word, is_empty, is_text_byte, words_of}
use Rattle.script_text.specs.Fields.{node_of, is_name_byte, is_name, name_of, key_of, value_of}
use Rattle.script_text.specs.Seen.{Before, nothing_yet, session, is_retired, with_asked, with_session, admit}
use Rattle.script_text.specs.Forms.{form_of, session_line, line_in, line_at}
use Rattle.script_text.specs.Spelling.{node_name, ask_words, admin_name, line_words, spell, is_print, IsWord, IsNode, AskFits, LineFits, Belongs, Follows, Spells, SpellsFrom, IsScript}
use Rattle.script_text.specs.Script.{RawLine, lines_in, lines_from, script_of}
use Rattle.script_text.proofs.Takes.{both}
use Rattle.script_text.proofs.Numbers.{number_again, number_prints}

-- ---- words

-- a word that may stand in a line
pub record Plain (w : Word) : Type 0 where
  pub some : is_empty w ≡ false
  pub printed : list_all is_print w ≡ true

abbrev pub AllPlain : List Word → Type 0
AllPlain [] = Unit {0}
AllPlain (w ∷ ws) = Plain w × AllPlain ws

print_is_text : (b : ℕ) → is_print b ≡ true → is_text_byte b ≡ true
print_is_text b h = grind (arith, nat_tests)

print_no_space : (b : ℕ) → is_print b ≡ true → (b == 32) ≡ false
print_no_space b h = grind (arith, nat_tests)

printed_text : (w rest : List ℕ) → list_all is_print w ≡ true → list_all is_text_byte rest ≡ true → list_all is_text_byte (w ++ rest) ≡ true
printed_text [] rest p r = r
printed_text (b ∷ w) rest p r = let h = both (is_print b) (list_all is_print w) p in rw (print_is_text b h.0) (printed_text w rest h.1 r)

printed_one : (w : List ℕ) → list_all is_print w ≡ true → list_all is_text_byte w ≡ true
printed_one [] p = refl
printed_one (b ∷ w) p = let h = both (is_print b) (list_all is_print w) p in rw (print_is_text b h.0) (printed_one w h.1)

joined_text : (ws : List Word) → AllPlain ws → list_all is_text_byte (join_with_byte 32 ws) ≡ true
joined_text [] h = refl
joined_text (w ∷ []) h = printed_one w h.0.printed
joined_text (w ∷ y ∷ more) h = printed_text w (32 ∷ join_with_byte 32 (y ∷ more)) h.0.printed (joined_text (y ∷ more) h.1)

no_space_rec : (w : Word) → list_all is_print w ≡ true → AllByRecursion (λ b. (b == 32) ≡ false) w
no_space_rec [] p = tt
no_space_rec (b ∷ w) p = let h = both (is_print b) (list_all is_print w) p in (print_no_space b h.0, no_space_rec w h.1)

no_space : (w : Word) → list_all is_print w ≡ true → All (λ b. (b == 32) ≡ false) w
no_space w p = All-from_recursion (λ b. (b == 32) ≡ false) w (no_space_rec w p)

joined_split : (w : Word) (ws : List Word) → AllPlain (w ∷ ws) → slice_split (λ b. b == 32) (join_with_byte 32 (w ∷ ws)) ≡ w ∷ ws
joined_split w [] h = slice_split_none (λ b. b == 32) w (no_space w h.0.printed)
joined_split w (y ∷ more) h =
    slice_split_at (λ b. b == 32) w 32 (join_with_byte 32 (y ∷ more)) (no_space w h.0.printed) refl ∙ ap (λ (t : List Word). w ∷ t) (joined_split y more h.1)

none_empty : (ws : List Word) → AllPlain ws → list_any is_empty ws ≡ false
none_empty [] h = refl
none_empty (w ∷ ws) h = rw h.0.some (none_empty ws h.1)

some_joined : (w : Word) (ws : List Word) → is_empty w ≡ false → is_empty (join_with_byte 32 (w ∷ ws)) ≡ false
some_joined [] ws h = absurd cc
some_joined (b ∷ w) [] h = h
some_joined (b ∷ w) (y ∷ more) h = grind (arith, nat_tests)

pub words_again : (w : Word) (ws : List Word) → AllPlain (w ∷ ws) → length (join_with_byte 32 (w ∷ ws)) ≤ 512 → words_of (join_with_byte 32 (w ∷ ws)) ≡ Ok (w ∷ ws)
words_again w ws h short =
    let a : nat_lt 512 (length (join_with_byte 32 (w ∷ ws))) ≡ false = le-ltb _ _ short in
    let e = some_joined w ws h.0.some in
    rw (a, joined_text (w ∷ ws) h, e, joined_split w ws h, none_empty (w ∷ ws) h) refl

-- ---- the words of a line may stand in a line

plain_word : (most : ℕ) (w : Word) → IsWord most w → Plain w
plain_word most [] h = absurd (omega (arith, h.some))
plain_word most (b ∷ bs) h = record { some = grind (arith, nat_tests); printed = h.printed }

name_byte_prints : (b : ℕ) → is_name_byte b ≡ true → is_print b ≡ true
name_byte_prints b h = grind (arith, nat_tests)

name_prints : (w : Word) → list_all is_name_byte w ≡ true → list_all is_print w ≡ true
name_prints [] h = refl
name_prints (b ∷ w) h = let k = both (is_name_byte b) (list_all is_name_byte w) h in rw (name_byte_prints b k.0) (name_prints w k.1)

plain_name : (name : Word) → is_name name ≡ true → Plain name
plain_name [] h = absurd cc
plain_name (b ∷ bs) h =
    let a = both (nat_lt 0 (length (b ∷ bs))) (nat_le (length (b ∷ bs)) 16 && list_all is_name_byte (b ∷ bs)) h in
    let c = both (nat_le (length (b ∷ bs)) 16) (list_all is_name_byte (b ∷ bs)) a.1 in
    record { some = grind (arith, nat_tests); printed = name_prints (b ∷ bs) c.1 }

plain_node : (nodes n : ℕ) → nodes ≤ 8 → IsNode nodes n → Plain (node_name n)
plain_node nodes n few is =
    let low : nat_le 33 (48 + n) ≡ true = le-leb _ _ (omega arith) in
    let high : nat_le (48 + n) 126 ≡ true = le-leb _ _ (omega (arith, is.most)) in
    record { some = refl; printed = rw (low, high) refl }

-- a word that is written out
literal : (w : Word) → (not (is_empty w) && list_all is_print w) ≡ true → Plain w
literal w h = let k = both (not (is_empty w)) (list_all is_print w) h in record { some = not_true (is_empty w) k.0; printed = k.1 }
  where
    not_true : (b : Bool) → not b ≡ true → b ≡ false
    not_true true e = absurd cc
    not_true false e = refl

plain_on : Plain (codes "on")
plain_on = literal (codes "on") refl

-- the text of a number
plain_number : (z : ℤ) → FitsSigned w64 z → Plain (signed_decimal z)
plain_number z fits = let h = number_prints z fits in record { some = not_empty (signed_decimal z) h.0; printed = h.1 }
  where
    not_empty : (w : Word) → 0 < length w → is_empty w ≡ false
    not_empty w some = grind (arith, nat_tests)

plain_barrier : Plain (codes "barrier")
plain_barrier = literal (codes "barrier") refl

plain_ask : (a : Ask) → AskFits a → AllPlain (ask_words a)
plain_ask (Log (Put k v)) f = (literal (codes "put") refl, (plain_word 64 k f.0, (plain_word 256 v f.1, tt)))
plain_ask (Log (Del k)) f = (literal (codes "del") refl, (plain_word 64 k f, tt))
plain_ask (Log (Cas k old new)) f = (literal (codes "cas") refl, (plain_word 64 k f.0, (plain_word 256 old f.1, (plain_word 256 new f.2, tt))))
plain_ask (Log (Add k z)) f = (literal (codes "add") refl, (plain_word 64 k f.0, (plain_number z f.1, tt)))
plain_ask (Look (Get k)) f = (literal (codes "get") refl, (plain_word 64 k f, tt))
plain_ask (Look (Scan low high)) f = (literal (codes "scan") refl, (plain_word 64 low f.0, (plain_word 64 high f.1, tt)))

plain_session : (nodes n : ℕ) (s : Session) (a : Ask) → nodes ≤ 8 → LineFits nodes (line.Session n s a) → AllPlain (line_words (line.Session n s a))
plain_session nodes n s a few f = (plain_on, (plain_node nodes n few f.0, (plain_name s.name f.1.letters, plain_ask a f.2)))

plain_admin : (a : Admin) → Plain (admin_name a)
plain_admin Extend = literal (codes "extend") refl
plain_admin Alive = literal (codes "alive") refl
plain_admin Trim = literal (codes "trim") refl
plain_admin Retire = literal (codes "retire") refl

-- ---- fields

node_again : (nodes n : ℕ) → nodes ≤ 8 → IsNode nodes n → node_of nodes (node_name n) ≡ Ok n
node_again nodes n few is =
    let low : nat_le 49 (48 + n) ≡ true = le-leb _ _ (omega (arith, is.least)) in
    let high : nat_le (48 + n) (48 + nodes) ≡ true = le-leb _ _ (omega (arith, is.most)) in
    let back : (48 + n) - 48 ≡ n = omega arith in
    rw (low, high, back) refl

name_again : (name : Word) → is_name name ≡ true → name_of name ≡ Ok name
name_again name h = rw h refl

key_again : (k : Word) → length k ≤ 64 → key_of k ≡ Ok k
key_again k h = let e : nat_lt 64 (length k) ≡ false = le-ltb _ _ h in rw e refl

value_again : (v : Word) → length v ≤ 256 → value_of v ≡ Ok v
value_again v h = let e : nat_lt 256 (length v) ≡ false = le-ltb _ _ h in rw e refl

same_number : (n : ℕ) → (n == n) ≡ true
same_number n = grind (arith, nat_tests)

admit_again : (b after : Before) (n : ℕ) (s : Session) → is_retired b n ≡ false → Belongs b n s after → admit b n s.name ≡ Ok (s, after)
admit_again b after n s there (inl h) = rw (there, h.0, same_number n) (ap (λ (x : Before). Ok (s, x)) (sym h.1))
admit_again b after n s there (inr h) =
    let room : nat_lt (length b.homes) 64 ≡ true = lt-ltb _ _ (omega (arith, h.1, h.2)) in
    rw (there, h.0, room) (ap (λ (k : ℕ). Ok (session k s.name, with_session b n s.name)) (sym h.1) ∙ ap (λ (x : Before). Ok (s, x)) (sym h.3))

-- ---- lines, by their words

session_again : (nodes : ℕ) (b after : Before) (n : ℕ) (s : Session) (a : Ask) → nodes ≤ 8 → LineFits nodes (line.Session n s a) → Follows b (line.Session n s a) after
    → (form_of (line_words (line.Session n s a)) >>= λ f. line_in nodes b (line_words (line.Session n s a)) f) ≡ Ok (line.Session n s a, after)
unfolding session_line
session_again nodes b after n s (Log (Put k v)) few f at =
    rw (f.1.not_admin, node_again nodes n few f.0, name_again s.name f.1.letters, key_again k f.2.0.most_bytes, value_again v f.2.1.most_bytes, admit_again b after n s at.0 at.1) refl
session_again nodes b after n s (Log (Del k)) few f at =
    rw (f.1.not_admin, node_again nodes n few f.0, name_again s.name f.1.letters, key_again k f.2.most_bytes, admit_again b after n s at.0 at.1) refl
session_again nodes b after n s (Log (Cas k old new)) few f at =
    rw (f.1.not_admin, node_again nodes n few f.0, name_again s.name f.1.letters, key_again k f.2.0.most_bytes, value_again old f.2.1.most_bytes, value_again new f.2.2.most_bytes, admit_again b after n s at.0 at.1) refl
session_again nodes b after n s (Log (Add k z)) few f at =
    rw (f.1.not_admin, node_again nodes n few f.0, name_again s.name f.1.letters, number_again z f.2.1, key_again k f.2.0.most_bytes, admit_again b after n s at.0 at.1) refl
session_again nodes b after n s (Look (Get k)) few f at =
    rw (f.1.not_admin, node_again nodes n few f.0, name_again s.name f.1.letters, key_again k f.2.most_bytes, admit_again b after n s at.0 at.1) refl
session_again nodes b after n s (Look (Scan low high)) few f at =
    rw (f.1.not_admin, node_again nodes n few f.0, name_again s.name f.1.letters, key_again low f.2.0.most_bytes, key_again high f.2.1.most_bytes, admit_again b after n s at.0 at.1) refl

admin_again : (nodes : ℕ) (b : Before) (n : ℕ) (a : Admin) → nodes ≤ 8 → IsNode nodes n → is_retired b n ≡ false
    → (form_of (line_words (line.Admin n a)) >>= λ f. line_in nodes b (line_words (line.Admin n a)) f) ≡ Ok (line.Admin n a, with_asked b n a)
admin_again nodes b n Extend few is there = rw (node_again nodes n few is, there) refl
admin_again nodes b n Alive few is there = rw (node_again nodes n few is, there) refl
admin_again nodes b n Trim few is there = rw (node_again nodes n few is, there) refl
admin_again nodes b n Retire few is there = rw (node_again nodes n few is, there) refl

by_words_again : (nodes : ℕ) (b after : Before) (l : Line) → nodes ≤ 8 → LineFits nodes l → Follows b l after
    → (form_of (line_words l) >>= λ f. line_in nodes b (line_words l) f) ≡ Ok (l, after)
by_words_again nodes b after line.Blank few f follows = ap (λ (x : Before). Ok (line.Blank, x)) (sym follows)
by_words_again nodes b after (line.Session n s a) few f follows = session_again nodes b after n s a few f follows
by_words_again nodes b after (line.Admin n a) few f follows = admin_again nodes b n a few f follows.0 ∙ ap (λ (x : Before). Ok (line.Admin n a, x)) (sym follows.1)
by_words_again nodes b after line.Barrier few f follows = ap (λ (x : Before). Ok (line.Barrier, x)) (sym follows)

words_of_line : (nodes : ℕ) (l : Line) → nodes ≤ 8 → LineFits nodes l → length (spell l) ≤ 512 → words_of (spell l) ≡ Ok (line_words l)
words_of_line nodes line.Blank few f short = refl
words_of_line nodes (line.Session n s a) few f short = words_again _ _ (plain_session nodes n s a few f) short
words_of_line nodes (line.Admin n a) few f short = words_again _ _ (plain_on, (plain_node nodes n few f, (plain_admin a, tt))) short
words_of_line nodes line.Barrier few f short = words_again _ _ (plain_barrier, tt) short

-- a line that is spelled is read
pub line_again : (nodes : ℕ) (b after : Before) (text : List ℕ) (l : Line) → nodes ≤ 8 → Spells nodes b text l after → line_at nodes b text ≡ Ok (l, after)
unfolding line_at
line_again nodes b after text l few h =
    let short : length (spell l) ≤ 512 = subst (λ (t : List ℕ). length t ≤ 512) h.spelled h.short in
    rw (h.spelled, words_of_line nodes l few h.fits short) (by_words_again nodes b after l few h.fits h.follows)

-- ---- scripts

pub lines_again : (nodes : ℕ) (b : Before) (n at : ℕ) (rows : List RawLine) (ls : List Line) → nodes ≤ 8 → SpellsFrom nodes b n at rows ls → lines_from nodes b n at rows ≡ Ok ls
unfolding lines_from
lines_again nodes b n at [] [] few h = refl
lines_again nodes b n at [] (l ∷ ls) few h = absurd h
lines_again nodes b n at (r ∷ rs) [] few h = absurd h
lines_again nodes b n at (r ∷ rs) (l ∷ ls) few h =
    let place : nat_lt 1048576 (at + r.size) ≡ false = le-ltb _ _ h.0 in
    let number : nat_lt 20000 n ≡ false = le-ltb _ _ h.1 in
    rw (place, number, line_again nodes b h.2 r.text l few h.3, lines_again nodes h.2 (n + 1) (at + r.size) rs ls few h.4) refl

pub script_again : (nodes : ℕ) (bytes : List ℕ) (ls : List Line) → nodes ≤ 8 → IsScript nodes bytes ls → script_of nodes bytes ≡ Ok ls
unfolding script_of
script_again nodes bytes ls few h = lines_again nodes nothing_yet 1 0 (lines_in bytes) ls few h
