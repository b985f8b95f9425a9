-- No line of a script names a node that an earlier line asks to leave.
use Rattle.std.proofs.Common.{◌≡◌, refl, sym, ap, ◌∙◌, subst, inl, inr, ℕ, ◌+◌, ◌==◌, Bool, true, false, not, List, [], ◌∷◌, ◌++◌, length}
use Rattle.std.specs.Prelude.{count_by}
use Rattle.std.specs.List.{AllByRecursion, list_all, list_any}
use Rattle.std.proofs.lemmas.Bool.{and_from, or_right}
use Rattle.std.proofs.lemmas.List.Folds.{list_any-append}
use Rattle.script_text.specs.declared.line.Line.{Line}
use Rattle.script_text.specs.declared.line.Line.TheVariants as line
use Rattle.script_text.specs.declared.line.Session.{Session}
use Rattle.script_text.specs.declared.line.Admin.TheVariants.{Extend, Alive, Trim, Retire}
use Rattle.script_text.specs.declared.line.Ask.TheVariants as ask
use Rattle.script_text.specs.declared.asks.NamedLine.{NamedLine}
use Rattle.script_text.specs.declared.asks.Asks.TheVariants as asks
use Rattle.script_text.specs.Seen.{Before, nothing_yet, is_retired}
use Rattle.script_text.specs.Script.{RawLine, lines_in}
use Rattle.script_text.specs.Spelling.{IsScript, SpellsFrom, Belongs, Follows}
use Rattle.script_text.specs.Lines.{is_barrier, lines_of, lines_after}
use Rattle.script_text.proofs.Takes.{neither}
use Rattle.fitting_run.specs.Lines.{asks_to_leave, names_another, are_not_retired}

-- ---- who has left stays away

same-retired : (b after : Before) (n : ℕ) (s : Session) → Belongs b n s after → after.retired ≡ b.retired
same-retired b after n s (inl h) = ap (λ (x : Before). x.retired) h.1
same-retired b after n s (inr h) = ap (λ (x : Before). x.retired) h.3

-- a node that is there once this one left is another, and was there before
still-there : (retired : List ℕ) (n node : ℕ) → list_any (λ m. m == node) (retired ++ n ∷ []) ≡ false → (list_any (λ m. m == node) retired ≡ false) × ((n == node) ≡ false)
still-there retired n node e =
    let parts = neither (list_any (λ m. m == node) retired) (list_any (λ m. m == node) (n ∷ [])) (sym (list_any-append (λ m. m == node) retired (n ∷ [])) ∙ e) in
    (parts.0, (neither (n == node) false parts.1).0)

was-there : (b after : Before) (l : Line) → Follows b l after → (node : ℕ) → is_retired after node ≡ false → is_retired b node ≡ false
was-there b after (line.Session n s a) h node e = subst (λ retired. list_any (λ m. m == node) retired ≡ false) (same-retired b after n s h.1) e
was-there b after (line.Admin n Extend) h node e = subst (λ (x : Before). is_retired x node ≡ false) h.1 e
was-there b after (line.Admin n Alive) h node e = subst (λ (x : Before). is_retired x node ≡ false) h.1 e
was-there b after (line.Admin n Trim) h node e = subst (λ (x : Before). is_retired x node ≡ false) h.1 e
was-there b after (line.Admin n Retire) h node e = (still-there b.retired n node (subst (λ (x : Before). is_retired x node ≡ false) h.1 e)).0
was-there b after line.Blank h node e = subst (λ (x : Before). is_retired x node ≡ false) h e
was-there b after line.Barrier h node e = subst (λ (x : Before). is_retired x node ≡ false) h e

-- the lines name nodes that are there
abbrev AreThere : Before → List NamedLine → Type 0
AreThere b lines = AllByRecursion (λ l. is_retired b l.node ≡ false) lines

all-were : (b after : Before) (lines : List NamedLine) → ((node : ℕ) → is_retired after node ≡ false → is_retired b node ≡ false) → AreThere after lines → AreThere b lines
all-were b after [] was h = tt
all-were b after (l ∷ ls) was h = (was l.node h.0, all-were b after ls was h.1)

all-there : (nodes : ℕ) (b : Before) (n at : ℕ) (rs : List RawLine) (before ls : List Line) → SpellsFrom nodes b n at rs ls → AreThere b (lines_after before ls)
all-there nodes b n at [] before [] h = tt
all-there nodes b n at (r ∷ rs) before (line.Session node s a ∷ ls) h =
    let l : Line = line.Session node s a in
    (h.3.follows.0, all-were b h.2 (lines_after (before ++ l ∷ []) ls) (was-there b h.2 l h.3.follows) (all-there nodes h.2 (n + 1) (at + r.size) rs (before ++ l ∷ []) ls h.4))
all-there nodes b n at (r ∷ rs) before (line.Admin node a ∷ ls) h =
    let l : Line = line.Admin node a in
    (h.3.follows.0, all-were b h.2 (lines_after (before ++ l ∷ []) ls) (was-there b h.2 l h.3.follows) (all-there nodes h.2 (n + 1) (at + r.size) rs (before ++ l ∷ []) ls h.4))
all-there nodes b n at (r ∷ rs) before (line.Blank ∷ ls) h =
    let l : Line = line.Blank in
    all-were b h.2 (lines_after (before ++ l ∷ []) ls) (was-there b h.2 l h.3.follows) (all-there nodes h.2 (n + 1) (at + r.size) rs (before ++ l ∷ []) ls h.4)
all-there nodes b n at (r ∷ rs) before (line.Barrier ∷ ls) h =
    let l : Line = line.Barrier in
    all-were b h.2 (lines_after (before ++ l ∷ []) ls) (was-there b h.2 l h.3.follows) (all-there nodes h.2 (n + 1) (at + r.size) rs (before ++ l ∷ []) ls h.4)
all-there nodes b n at [] before (l ∷ ls) h = absurd h
all-there nodes b n at (r ∷ rs) before [] h = absurd h

-- ---- so no later line names it

each-passes : {A : Type 0} (p : A → Bool) (xs : List A) → ((x : A) → p x ≡ true) → list_all p xs ≡ true
each-passes p [] f = refl
each-passes p (x ∷ xs) f = and_from (p x) (list_all p xs) (f x) (each-passes p xs f)

name-others : (l : NamedLine) (after : Before) (lines : List NamedLine) → ((node : ℕ) → is_retired after node ≡ false → (l.node == node) ≡ false) → AreThere after lines
    → list_all (names_another l) lines ≡ true
name-others l after [] away h = refl
name-others l after (m ∷ ms) away h =
    and_from (names_another l m) (list_all (names_another l) ms) (or_right (not (asks_to_leave l.asks)) (not (l.node == m.node)) (ap (λ t. not t) (away m.node h.0)))
    (name-others l after ms away h.1)

none-after : (nodes : ℕ) (b : Before) (n at : ℕ) (rs : List RawLine) (before ls : List Line) → SpellsFrom nodes b n at rs ls → are_not_retired (lines_after before ls) ≡ true
none-after nodes b n at [] before [] h = refl
none-after nodes b n at (r ∷ rs) before (line.Session node s (ask.Log c) ∷ ls) h =
    let l : Line = line.Session node s (ask.Log c) in
    and_from _ (are_not_retired (lines_after (before ++ l ∷ []) ls)) (each-passes _ (lines_after (before ++ l ∷ []) ls) (λ m. refl)) (none-after nodes h.2 (n + 1) (at + r.size) rs (before ++ l ∷ []) ls h.4)
none-after nodes b n at (r ∷ rs) before (line.Session node s (ask.Look q) ∷ ls) h =
    let l : Line = line.Session node s (ask.Look q) in
    and_from _ (are_not_retired (lines_after (before ++ l ∷ []) ls)) (each-passes _ (lines_after (before ++ l ∷ []) ls) (λ m. refl)) (none-after nodes h.2 (n + 1) (at + r.size) rs (before ++ l ∷ []) ls h.4)
none-after nodes b n at (r ∷ rs) before (line.Admin node Extend ∷ ls) h =
    let l : Line = line.Admin node Extend in
    and_from _ (are_not_retired (lines_after (before ++ l ∷ []) ls)) (each-passes _ (lines_after (before ++ l ∷ []) ls) (λ m. refl)) (none-after nodes h.2 (n + 1) (at + r.size) rs (before ++ l ∷ []) ls h.4)
none-after nodes b n at (r ∷ rs) before (line.Admin node Alive ∷ ls) h =
    let l : Line = line.Admin node Alive in
    and_from _ (are_not_retired (lines_after (before ++ l ∷ []) ls)) (each-passes _ (lines_after (before ++ l ∷ []) ls) (λ m. refl)) (none-after nodes h.2 (n + 1) (at + r.size) rs (before ++ l ∷ []) ls h.4)
none-after nodes b n at (r ∷ rs) before (line.Admin node Trim ∷ ls) h =
    let l : Line = line.Admin node Trim in
    and_from _ (are_not_retired (lines_after (before ++ l ∷ []) ls)) (each-passes _ (lines_after (before ++ l ∷ []) ls) (λ m. refl)) (none-after nodes h.2 (n + 1) (at + r.size) rs (before ++ l ∷ []) ls h.4)
none-after nodes b n at (r ∷ rs) before (line.Admin node Retire ∷ ls) h =
    let l : Line = line.Admin node Retire in
    let left : NamedLine = record { number = length before + 1; phase = count_by is_barrier before; node = node; asks = asks.Admin Retire } in
    and_from (list_all (names_another left) (lines_after (before ++ l ∷ []) ls)) (are_not_retired (lines_after (before ++ l ∷ []) ls))
    (name-others left h.2 (lines_after (before ++ l ∷ []) ls) (λ m e. (still-there b.retired node m (subst (λ (x : Before). is_retired x m ≡ false) h.3.follows.1 e)).1)
    (all-there nodes h.2 (n + 1) (at + r.size) rs (before ++ l ∷ []) ls h.4))
    (none-after nodes h.2 (n + 1) (at + r.size) rs (before ++ l ∷ []) ls h.4)
none-after nodes b n at (r ∷ rs) before (line.Blank ∷ ls) h = none-after nodes h.2 (n + 1) (at + r.size) rs (before ++ line.Blank ∷ []) ls h.4
none-after nodes b n at (r ∷ rs) before (line.Barrier ∷ ls) h = none-after nodes h.2 (n + 1) (at + r.size) rs (before ++ line.Barrier ∷ []) ls h.4
none-after nodes b n at [] before (l ∷ ls) h = absurd h
none-after nodes b n at (r ∷ rs) before [] h = absurd h

pub none-retired : (nodes : ℕ) (bytes : List ℕ) (ls : List Line) → IsScript nodes bytes ls → are_not_retired (lines_of ls) ≡ true
none-retired nodes bytes ls h = none-after nodes nothing_yet 1 0 (lines_in bytes) [] ls h
