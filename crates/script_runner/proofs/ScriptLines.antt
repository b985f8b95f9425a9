-- The lines of a script that is spelled can be played.
use Rattle.std.proofs.Common.{◌≡◌, refl, sym, ap, ◌∙◌, subst, ℕ, ◌+◌, ◌≤◌, ◌==◌, Bool, true, false, nat_le, List, [], ◌∷◌, ◌++◌, length, arith, append_assoc, append-nil, zero-add, length-append}
use Rattle.std.specs.Prelude.{count_by, cond, option_to_list}
use Rattle.std.specs.List.{list_all, AllByRecursion}
use Rattle.std.proofs.lemmas.Bool.{and_from, and_parts}
use Rattle.std.proofs.lemmas.Bool.Decides.{nat_tests}
use Rattle.std.proofs.lemmas.List.Sums.{sum_by-append}
use Rattle.script_text.specs.declared.line.Line.{Line}
use Rattle.script_text.specs.declared.line.Line.TheVariants as line
use Rattle.script_text.specs.declared.line.Session.{Session}
use Rattle.script_text.specs.declared.line.Ask.TheVariants as ask
use Rattle.script_text.specs.declared.asks.NamedLine.{NamedLine}
use Rattle.table_core.specs.declared.command.Command.{Command}
use Rattle.table_core.specs.declared.command.Command.TheVariants.{Put, Del, Cas, Add}
use Rattle.table_core.specs.Spelling.{IsSpellable, command_length}
use Rattle.script_text.specs.Seen.{Before, nothing_yet}
use Rattle.script_text.specs.Script.{RawLine, lines_in}
use Rattle.script_text.specs.Spelling.{IsScript, SpellsFrom, CommandFits, is_print}
use Rattle.script_text.specs.Lines.{lines_of, lines_after, named_after, is_logged_by, is_barrier}
use Rattle.fitting_run.specs.Lines.{logs_for, are_ranked, are_in_phase, CanLog}
use Rattle.fitting_run.proofs.Leaving.{none-retired}
use Rattle.node_course.specs.Script.{AreLines}
use Rattle.script_runner.specs.Playing.{CanPlay}
use Rattle.script_runner.proofs.Homes.{script_homes, home_at, home_low, all_home, all_within, all_known}

-- the line, where it names a node
abbrev named : List Line → Line → List NamedLine
named before l = option_to_list (named_after before l)

-- Counts

pub count_by-append : {A : Type 0} (p : A → Bool) (xs ys : List A) → count_by p (xs ++ ys) ≡ count_by p xs + count_by p ys
count_by-append p xs ys = sum_by-append (λ x. cond (p x) 1 0) xs ys

lines_after-append : (before xs ys : List Line) → lines_after before (xs ++ ys) ≡ lines_after before xs ++ lines_after (before ++ xs) ys
lines_after-append before [] ys = ap (λ b. lines_after b ys) (sym (append-nil before))
lines_after-append before (x ∷ xs) ys =
    ap (λ more. named before x ++ more) (lines_after-append (before ++ x ∷ []) xs ys)
    ∙ sym (append_assoc (named before x) (lines_after (before ++ x ∷ []) xs) _)
    ∙ ap (λ b. (named before x ++ lines_after (before ++ x ∷ []) xs) ++ lines_after b ys) (append_assoc before (x ∷ []) xs)

count_by-cons : {A : Type 0} (p : A → Bool) (x : A) (xs : List A) → count_by p (x ∷ xs) ≡ cond (p x) 1 0 + count_by p xs
count_by-cons p x xs = count_by-append p (x ∷ []) xs ∙ ap (λ k. k + count_by p xs) (zero-add (cond (p x) 1 0))

-- a session has as many logged lines among the lines that name a node as in the script
named_count : (s : ℕ) (before : List Line) (l : Line) → count_by (logs_for s) (named before l) ≡ cond (is_logged_by s l) 1 0
named_count s before (line.Session node t (ask.Log c)) = zero-add (cond (t.id == s) 1 0)
named_count s before (line.Session node t (ask.Look q)) = refl
named_count s before (line.Admin node a) = refl
named_count s before line.Blank = refl
named_count s before line.Barrier = refl

counted : (s : ℕ) (before ls : List Line) → count_by (logs_for s) (lines_after before ls) ≡ count_by (is_logged_by s) ls
counted s before [] = refl
counted s before (l ∷ ls) =
    count_by-append (logs_for s) (named before l) (lines_after (before ++ l ∷ []) ls)
    ∙ ap (λ k. k + count_by (logs_for s) (lines_after (before ++ l ∷ []) ls)) (named_count s before l)
    ∙ ap (λ k. cond (is_logged_by s l) 1 0 + k) (counted s (before ++ l ∷ []) ls)
    ∙ sym (count_by-cons (is_logged_by s) l ls)

-- Ranks

one_more : (before : List Line) (l : Line) → lines_of (before ++ l ∷ []) ≡ lines_of before ++ named before l
one_more before l = lines_after-append [] before (l ∷ []) ∙ ap (λ xs. lines_of before ++ xs) (append-nil (named before l))

same_rank : (k m : ℕ) → m ≡ k → ((k + 1) == (m + 1)) ≡ true
same_rank k m e = grind (arith, nat_tests)

ranked : (before ls : List Line) → are_ranked (lines_of before) (lines_after before ls) ≡ true
ranked before [] = refl
ranked before (line.Session node t (ask.Log c) ∷ ls) =
    let l : Line = line.Session node t (ask.Log c) in
    and_from _ _ (same_rank (count_by (is_logged_by t.id) before) _ (counted t.id [] before))
    (subst (λ b. are_ranked b (lines_after (before ++ l ∷ []) ls) ≡ true) (one_more before l) (ranked (before ++ l ∷ []) ls))
ranked before (line.Session node t (ask.Look q) ∷ ls) =
    let l : Line = line.Session node t (ask.Look q) in
    subst (λ b. are_ranked b (lines_after (before ++ l ∷ []) ls) ≡ true) (one_more before l) (ranked (before ++ l ∷ []) ls)
ranked before (line.Admin node a ∷ ls) =
    let l : Line = line.Admin node a in
    subst (λ b. are_ranked b (lines_after (before ++ l ∷ []) ls) ≡ true) (one_more before l) (ranked (before ++ l ∷ []) ls)
ranked before (line.Blank ∷ ls) =
    let l : Line = line.Blank in
    subst (λ b. are_ranked b (lines_after (before ++ l ∷ []) ls) ≡ true) (one_more before l ∙ append-nil (lines_of before)) (ranked (before ++ l ∷ []) ls)
ranked before (line.Barrier ∷ ls) =
    let l : Line = line.Barrier in
    subst (λ b. are_ranked b (lines_after (before ++ l ∷ []) ls) ≡ true) (one_more before l ∙ append-nil (lines_of before)) (ranked (before ++ l ∷ []) ls)

pub all_ranked : (ls : List Line) → are_ranked [] (lines_of ls) ≡ true
all_ranked ls = ranked [] ls

-- Phases

earlier : (m n : ℕ) (ls : List NamedLine) → m ≤ n → are_in_phase n ls ≡ true → are_in_phase m ls ≡ true
earlier m n [] low h = refl
earlier m n (l ∷ ls) low h = let k = and_parts (nat_le n l.phase) (are_in_phase l.phase ls) h in and_from (nat_le m l.phase) (are_in_phase l.phase ls) (below m n l.phase low k.0) k.1
  where
    below : (m n p : ℕ) → m ≤ n → nat_le n p ≡ true → nat_le m p ≡ true
    below m n p low e = grind (arith, nat_tests)

one_phase : (before : List Line) (l : Line) → count_by is_barrier (before ++ l ∷ []) ≡ count_by is_barrier before + cond (is_barrier l) 1 0
one_phase before l = count_by-append is_barrier before (l ∷ []) ∙ ap (λ k. count_by is_barrier before + k) (zero-add (cond (is_barrier l) 1 0))

no_barrier : (before : List Line) (l : Line) → is_barrier l ≡ false → count_by is_barrier (before ++ l ∷ []) ≡ count_by is_barrier before
no_barrier before l e = omega (arith, one_phase before l, ap (λ b. 0 + cond b 1 0) e)

same_phase : (n : ℕ) → nat_le n n ≡ true
same_phase n = grind (arith, nat_tests)

phases : (before ls : List Line) → are_in_phase (count_by is_barrier before) (lines_after before ls) ≡ true
phases before [] = refl
phases before (line.Session node t a ∷ ls) =
    let l : Line = line.Session node t a in
    and_from (nat_le (count_by is_barrier before) (count_by is_barrier before)) _ (same_phase (count_by is_barrier before))
    (subst (λ n. are_in_phase n (lines_after (before ++ l ∷ []) ls) ≡ true) (no_barrier before l refl) (phases (before ++ l ∷ []) ls))
phases before (line.Admin node a ∷ ls) =
    let l : Line = line.Admin node a in
    and_from (nat_le (count_by is_barrier before) (count_by is_barrier before)) _ (same_phase (count_by is_barrier before))
    (subst (λ n. are_in_phase n (lines_after (before ++ l ∷ []) ls) ≡ true) (no_barrier before l refl) (phases (before ++ l ∷ []) ls))
phases before (line.Blank ∷ ls) = subst (λ n. are_in_phase n (lines_after (before ++ line.Blank ∷ []) ls) ≡ true) (no_barrier before line.Blank refl) (phases (before ++ line.Blank ∷ []) ls)
phases before (line.Barrier ∷ ls) = earlier (count_by is_barrier before) _ (lines_after (before ++ line.Barrier ∷ []) ls) (omega (arith, one_phase before line.Barrier)) (phases (before ++ line.Barrier ∷ []) ls)

-- How many, and how they are spelled

named_one : (before : List Line) (l : Line) → length (named before l) ≤ 1
named_one before (line.Session node t a) = omega arith
named_one before (line.Admin node a) = omega arith
named_one before line.Blank = omega arith
named_one before line.Barrier = omega arith

no_more : (before ls : List Line) → length (lines_after before ls) ≤ length ls
no_more before [] = omega arith
no_more before (l ∷ ls) =
    let e : length (lines_after before (l ∷ ls)) ≡ length (named before l) + length (lines_after (before ++ l ∷ []) ls) = length-append (named before l) _ in
    omega (arith, e, named_one before l, no_more (before ++ l ∷ []) ls)

few : (nodes : ℕ) (b : Before) (n at : ℕ) (rs : List RawLine) (ls : List Line) → SpellsFrom nodes b n at rs ls → n ≤ 20001 → n + length ls ≤ 20001
few nodes b n at [] [] h low = omega arith
few nodes b n at (r ∷ rs) (l ∷ ls) h low = let more = few nodes h.2 (n + 1) (at + r.size) rs ls h.4 (omega (arith, h.1)) in omega (arith, more)
few nodes b n at [] (l ∷ ls) h low = absurd h
few nodes b n at (r ∷ rs) [] h low = absurd h

printed : (w : List ℕ) → list_all is_print w ≡ true → AllByRecursion (λ b. (33 ≤ b) × (b ≤ 126)) w
printed [] e = tt
printed (b ∷ w) e =
    let k = and_parts (is_print b) (list_all is_print w) e in
    let j = and_parts (nat_le 33 b) (nat_le b 126) k.0 in
    ((low b j.0, high b j.1), printed w k.1)
  where
    low : (b : ℕ) → nat_le 33 b ≡ true → 33 ≤ b
    low b e = grind (arith, nat_tests)

    high : (b : ℕ) → nat_le b 126 ≡ true → b ≤ 126
    high b e = grind (arith, nat_tests)

can_log : (c : Command) → CommandFits c → IsSpellable c × (command_length c ≤ 984)
can_log (Put k v) h = ((((omega (arith, h.0.most_bytes), printed k h.0.printed), omega (arith, h.1.most_bytes))), omega (arith, h.0.most_bytes, h.1.most_bytes))
can_log (Del k) h = ((omega (arith, h.most_bytes), printed k h.printed), omega (arith, h.most_bytes))
can_log (Cas k old new) h =
    (((omega (arith, h.0.most_bytes), printed k h.0.printed), omega (arith, h.1.most_bytes), omega (arith, h.2.most_bytes)), omega (arith, h.0.most_bytes, h.1.most_bytes, h.2.most_bytes))
can_log (Add k z) h = (((omega (arith, h.0.most_bytes), printed k h.0.printed), h.1), omega (arith, h.0.most_bytes))

spelled : (nodes : ℕ) (b : Before) (n at : ℕ) (rs : List RawLine) (before ls : List Line) → SpellsFrom nodes b n at rs ls → AllByRecursion (λ l. CanLog l.asks) (lines_after before ls)
spelled nodes b n at [] before [] h = tt
spelled nodes b n at (r ∷ rs) before (line.Session node t (ask.Log c) ∷ ls) h = (can_log c h.3.fits.2, spelled nodes h.2 (n + 1) (at + r.size) rs (before ++ line.Session node t (ask.Log c) ∷ []) ls h.4)
spelled nodes b n at (r ∷ rs) before (line.Session node t (ask.Look q) ∷ ls) h = (tt, spelled nodes h.2 (n + 1) (at + r.size) rs (before ++ line.Session node t (ask.Look q) ∷ []) ls h.4)
spelled nodes b n at (r ∷ rs) before (line.Admin node a ∷ ls) h = (tt, spelled nodes h.2 (n + 1) (at + r.size) rs (before ++ line.Admin node a ∷ []) ls h.4)
spelled nodes b n at (r ∷ rs) before (line.Blank ∷ ls) h = spelled nodes h.2 (n + 1) (at + r.size) rs (before ++ line.Blank ∷ []) ls h.4
spelled nodes b n at (r ∷ rs) before (line.Barrier ∷ ls) h = spelled nodes h.2 (n + 1) (at + r.size) rs (before ++ line.Barrier ∷ []) ls h.4
spelled nodes b n at [] before (l ∷ ls) h = absurd h
spelled nodes b n at (r ∷ rs) before [] h = absurd h

are_lines : (nodes : ℕ) (bytes : List ℕ) (ls : List Line) → 1 ≤ nodes → IsScript nodes bytes ls → (home : ℕ → ℕ) × AreLines (lines_of ls) home nodes
are_lines nodes bytes ls least h =
    let some = few nodes nothing_yet 1 0 (lines_in bytes) ls h (omega arith) in
    let at = script_homes nodes bytes ls h in (
      home_at at.homes,
      record {
        few = omega (arith, no_more [] ls, some);
        ranked = ranked [] ls;
        phases = phases [] ls;
        stay = none-retired nodes bytes ls h;
        nodes_are = all_within nodes at.homes (lines_of ls) at.each;
        at_home = all_home nodes at.homes (lines_of ls) at.each;
        there = λ s. (home_low nodes at.homes least at.are s).0;
        within = λ s. (home_low nodes at.homes least at.are s).1;
        known = all_known nodes at.homes (lines_of ls) at.are at.each;
      },
    )

pub can_play : (nodes : ℕ) (bytes : List ℕ) (ls : List Line) → 1 ≤ nodes → IsScript nodes bytes ls → CanPlay nodes (lines_of ls)
can_play nodes bytes ls least h =
    let lines = are_lines nodes bytes ls least h in
    record { home = lines.0; lines_are = lines.1; spelled = spelled nodes nothing_yet 1 0 (lines_in bytes) [] ls h }
