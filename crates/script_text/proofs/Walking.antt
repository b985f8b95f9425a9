-- A script walked line by line names its lines as the definition says.
use Rattle.std.proofs.Common.{◌≡◌, ◌≢◌, ◌==◌, ◌<◌, ◌+◌, ◌^◌, ℕ, Bool, true, false, cond, List, [], ◌∷◌, ◌++◌, length, get_or, set, refl, sym, ap, ◌∙◌, append_assoc, arith, get_or-set_other, get_or-set_same}
use Rattle.std.specs.Prelude.{count_by, replicate}
use Rattle.std.specs.Option.{option_to_list}
use Rattle.std.proofs.lemmas.List.{append-nil, length-append, length-set, length-replicate, get_or-replicate}
use Rattle.std.proofs.lemmas.List.Sums.{sum_by-append, count_by-le-length}
use Rattle.std.proofs.lemmas.Bool.Decides.{nat_tests}
use Rattle.script_text.specs.declared.line.Line.{Line}
use Rattle.script_text.specs.declared.line.Line.TheVariants as line
use Rattle.script_text.specs.declared.line.Session.{Session}
use Rattle.script_text.specs.declared.line.Ask.TheVariants as ask
use Rattle.script_text.specs.declared.asks.NamedLine.{NamedLine}
use Rattle.script_text.specs.declared.asks.Walk.{Walk}
use Rattle.script_text.specs.Lines.{is_barrier, is_logged_by, named_after, lines_after, lines_of}
use Rattle.script_text.specs.Walks.{one_more, IsCountedLine, walked, named_now}

-- the walk has come past these lines
pub record IsPast (before : List Line) (w : Walk) : Type 0 where
  pub number : w.number ≡ length before
  pub phase : w.phase ≡ count_by is_barrier before
  pub size : length w.logged ≡ 64
  pub logged : (id : ℕ) → id < 64 → get_or w.logged id 0 ≡ count_by (is_logged_by id) before

pub past_none : IsPast [] (record { number = 0; phase = 0; logged = replicate 64 0 })
past_none = record {
  number = refl;
  phase = refl;
  size = length-replicate {A = ℕ} 64 0;
  logged = λ id lt. get_or-replicate {A = ℕ} 64 id 0 0 lt;
}

count_by-snoc : {A : Type 0} (p : A → Bool) (xs : List A) (x : A) → count_by p (xs ++ x ∷ []) ≡ count_by p xs + cond (p x) 1 0
count_by-snoc p xs x = omega (arith, sum_by-append (λ y. cond (p y) 1 0) xs (x ∷ []))

counted : {A : Type 0} (p : A → Bool) (xs : List A) (x : A) → p x ≡ true → count_by p (xs ++ x ∷ []) ≡ count_by p xs + 1
counted p xs x is = count_by-snoc p xs x ∙ rw is refl

passed_over : {A : Type 0} (p : A → Bool) (xs : List A) (x : A) → p x ≡ false → count_by p (xs ++ x ∷ []) ≡ count_by p xs
passed_over p xs x is = count_by-snoc p xs x ∙ rw is (omega arith)

more_lines : {A : Type 0} (xs : List A) (x : A) → length (xs ++ x ∷ []) ≡ length xs + 1
more_lines xs x = omega (arith, length-append xs (x ∷ []))

one_more_is : (n : ℕ) → n + 1 < 2 ^ 64 → one_more n ≡ n + 1
one_more_is n small = omega arith

one_more_counted : {A : Type 0} (p : A → Bool) (xs : List A) → length xs + 1 < 2 ^ 64 → one_more (count_by p xs) ≡ count_by p xs + 1
one_more_counted p xs small = one_more_is (count_by p xs) (omega (arith, count_by-le-length p xs))

-- a session's rank after these lines
rank_is : (before : List Line) (w : Walk) (id : ℕ) → length before + 1 < 2 ^ 64 → IsPast before w → id < 64 → one_more (get_or w.logged id 0) ≡ count_by (is_logged_by id) before + 1
rank_is before w id small past few = ap one_more (past.logged id few) ∙ one_more_counted (is_logged_by id) before small

pub named_is : (before : List Line) (l : Line) (w : Walk) → length before + 1 < 2 ^ 64 → IsPast before w → IsCountedLine l → named_now w l ≡ named_after before l
named_is before line.Blank w small past few = refl
named_is before line.Barrier w small past few = refl
named_is before (line.Admin node a) w small past few =
    let number : one_more w.number ≡ length before + 1 = ap one_more past.number ∙ one_more_is (length before) small in
    rw (number, past.phase) refl
named_is before (line.Session node s (ask.Look query)) w small past few =
    let number : one_more w.number ≡ length before + 1 = ap one_more past.number ∙ one_more_is (length before) small in
    rw (number, past.phase) refl
named_is before (line.Session node s (ask.Log command)) w small past few =
    let number : one_more w.number ≡ length before + 1 = ap one_more past.number ∙ one_more_is (length before) small in
    rw (number, past.phase, rank_is before w s.id small past few) refl

same_number : (n : ℕ) → (n == n) ≡ true
same_number n = grind (arith, nat_tests)

other_number : (m n : ℕ) → n ≢ m → (m == n) ≡ false
other_number m n ne = grind (arith, nat_tests)

-- the counts after a logged line of a session
counts_on : (before : List Line) (l : Line) (node : ℕ) (s : Session) (logged : List ℕ) (more : ℕ) (id : ℕ) (t : Bool)
    → length logged ≡ 64 → (id == s.id) ≡ t → s.id < 64 → get_or logged id 0 ≡ count_by (is_logged_by id) before
    → more ≡ count_by (is_logged_by s.id) before + 1 → is_logged_by id l ≡ (s.id == id)
    → get_or (set logged s.id more) id 0 ≡ count_by (is_logged_by id) (before ++ l ∷ [])
counts_on before l node s logged more id true size is few was rank by =
    let same : id ≡ s.id = grind (arith, nat_tests) in
    let fits : s.id < length logged = omega (arith, size) in
    let yes : is_logged_by id l ≡ true = by ∙ ap (λ (k : ℕ). s.id == k) same ∙ same_number s.id in
    let one : get_or (set logged s.id more) id 0 ≡ more = ap (λ (k : ℕ). get_or (set logged s.id more) k 0) same ∙ get_or-set_same logged s.id more 0 fits in
    one ∙ rank ∙ ap (λ (k : ℕ). count_by (is_logged_by k) before + 1) (sym same) ∙ sym (counted (is_logged_by id) before l yes)
counts_on before l node s logged more id false size is few was rank by =
    let differ : id ≢ s.id = λ same. grind (arith, nat_tests) in
    let no : is_logged_by id l ≡ false = by ∙ other_number s.id id differ in
    get_or-set_other logged s.id id more 0 differ ∙ was ∙ sym (passed_over (is_logged_by id) before l no)

pub past_line : (before : List Line) (l : Line) (w : Walk) → length before + 1 < 2 ^ 64 → IsPast before w → IsCountedLine l → IsPast (before ++ l ∷ []) (walked w l)
past_line before line.Blank w small past few = record {
  number = ap one_more past.number ∙ one_more_is (length before) small ∙ sym (more_lines before line.Blank);
  phase = past.phase ∙ sym (passed_over is_barrier before line.Blank refl);
  size = past.size;
  logged = λ id lt. past.logged id lt ∙ sym (passed_over (is_logged_by id) before line.Blank refl);
}
past_line before line.Barrier w small past few = record {
  number = ap one_more past.number ∙ one_more_is (length before) small ∙ sym (more_lines before line.Barrier);
  phase = ap one_more past.phase ∙ one_more_counted is_barrier before small ∙ sym (counted is_barrier before line.Barrier refl);
  size = past.size;
  logged = λ id lt. past.logged id lt ∙ sym (passed_over (is_logged_by id) before line.Barrier refl);
}
past_line before (line.Admin node a) w small past few = record {
  number = ap one_more past.number ∙ one_more_is (length before) small ∙ sym (more_lines before (line.Admin node a));
  phase = past.phase ∙ sym (passed_over is_barrier before (line.Admin node a) refl);
  size = past.size;
  logged = λ id lt. past.logged id lt ∙ sym (passed_over (is_logged_by id) before (line.Admin node a) refl);
}
past_line before (line.Session node s (ask.Look query)) w small past few = record {
  number = ap one_more past.number ∙ one_more_is (length before) small ∙ sym (more_lines before (line.Session node s (ask.Look query)));
  phase = past.phase ∙ sym (passed_over is_barrier before (line.Session node s (ask.Look query)) refl);
  size = past.size;
  logged = λ id lt. past.logged id lt ∙ sym (passed_over (is_logged_by id) before (line.Session node s (ask.Look query)) refl);
}
past_line before (line.Session node s (ask.Log command)) w small past few = record {
  number = ap one_more past.number ∙ one_more_is (length before) small ∙ sym (more_lines before (line.Session node s (ask.Log command)));
  phase = past.phase ∙ sym (passed_over is_barrier before (line.Session node s (ask.Log command)) refl);
  size = omega (arith, length-set w.logged s.id (one_more (get_or w.logged s.id 0)), past.size);
  logged = λ id lt. counts_on before (line.Session node s (ask.Log command)) node s w.logged (one_more (get_or w.logged s.id 0)) id (id == s.id)
      past.size refl few (past.logged id lt) (rank_is before w s.id small past few) refl;
}

-- ---- lines, one more at the end

lines_after-append : (before xs ys : List Line) → lines_after before (xs ++ ys) ≡ lines_after before xs ++ lines_after (before ++ xs) ys
lines_after-append before [] ys = ap (λ (b : List Line). lines_after b ys) (sym (append-nil before))
lines_after-append before (x ∷ xs) ys =
    ap (λ (t : List NamedLine). option_to_list (named_after before x) ++ t)
    (lines_after-append (before ++ x ∷ []) xs ys ∙ ap (λ (b : List Line). lines_after (before ++ x ∷ []) xs ++ lines_after b ys) (append_assoc before (x ∷ []) xs))
    ∙ sym (append_assoc (option_to_list (named_after before x)) (lines_after (before ++ x ∷ []) xs) (lines_after (before ++ x ∷ xs) ys))

pub lines_of-snoc : (xs : List Line) (x : Line) → lines_of (xs ++ x ∷ []) ≡ lines_of xs ++ option_to_list (named_after xs x)
lines_of-snoc xs x = lines_after-append [] xs (x ∷ []) ∙ ap (λ (t : List NamedLine). lines_of xs ++ t) (append-nil (option_to_list (named_after xs x)))
