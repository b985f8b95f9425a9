-- What clap's matches come to.
use Rattle.std.proofs.Common.{◌≡◌, ◌==◌, ◌<◌, ◌≤◌, ◌^◌, ◌+◌, ℕ, Bool, true, false, cond, List, [], ◌∷◌, ◌++◌, length, map, drop, get_or, nat_le, ◌&&◌, leb-true, Option, Some, None, Result, Ok, Err, refl, sym, ap, subst, ◌∙◌, append_assoc, arith, inl, inr, codes}
use Rattle.std.specs.Prelude.{option_map, option_and_then, ◌≢◌, nat_lt, IfOk}
use Rattle.std.specs.List.{slice_split}
use Rattle.std.specs.Str.{bytes_eq}
use Rattle.std.specs.Str.Parse.{ParsesUnsigned, digits_value, without_leading_plus}
use Rattle.std.specs.Borrow.{Bor}
use Rattle.std.proofs.lemmas.List.{drop_more}
use Rattle.std.proofs.lemmas.Bool.{and_parts}
use Rattle.std.proofs.lemmas.Bool.Decides.{nat_tests}
use Rattle.std.proofs.lemmas.List.Splits.{length-slice_split}
use Rattle.clap.specs.Words.{Row, Text, fault_of, is_simple, is_simple_and_free, kind_of, subcommand_of, first_of}
use Rattle.clap.specs.Kinds.{Kinds, IsAmong, HasKind}
use Rattle.clap.specs.Matches.{ReadsOne}
use Rattle.clap.specs.ValueTests.{is_unsigned_in}
use Rattle.clap.specs.declared.error.Error.{Error}
use Rattle.clap.specs.declared.error.kind.ErrorKind.{ErrorKind}
use Rattle.clap.specs.declared.error.kind.ErrorKind.TheVariants.{OutOfMemory}
use Rattle.clap.specs.declared.builder.value_parser.ValueParser.TheVariants.{Unsigned}
use Rattle.clap.proofs.ValueTestLemmas.{accepts-Accepts, Accepts-accepts}
use Rattle.script_words.specs.declared.shelf.Kind.{Kind}
use Rattle.script_words.specs.declared.plan.Plan.{Plan}
use Rattle.script_words.specs.declared.plan.WordsError.{WordsError}
use Rattle.script_words.specs.Shelf.{kind_of as kind_named, all_kinds, kinds_of}
use Rattle.script_words.specs.App.{the_app}
use Rattle.script_words.specs.declared.plan.Task.{Task}
use Rattle.script_words.specs.declared.plan.Task.TheVariants.{Run, Make}
use Rattle.script_words.specs.Plans.{told_words, number_of, number_in, is_taken, node_count, line_count, task_in, lines_in, plan_in, plan_of, IsPlan, IsTask, Reads}

pub told_some : (ws : List Text) → 0 < length ws → told_words ws ≡ codes "delos_sim" ∷ ws
told_some [] some = absurd (omega arith)
told_some (w ∷ ws) some = refl

-- ---- kinds, one after the other

abbrev pub with_front : List Kind → Option (List Kind) → Option (List Kind)
with_front front = option_map (λ ks. front ++ ks)

regroup : (front : List Kind) (k : Kind) (o : Option (List Kind)) → with_front front (option_map (λ ks. k ∷ ks) o) ≡ with_front (front ++ k ∷ []) o
regroup front k None = refl
regroup front k (Some ks) = ap (λ (x : List Kind). Some x) (sym (append_assoc front (k ∷ []) ks))

pub one_kind : (front : List Kind) (name : Text) (names : List Text) (k : Kind) (whole : Option (List Kind)) → kind_named name ≡ Some k
    → with_front front (all_kinds (name ∷ names)) ≡ whole → with_front (front ++ k ∷ []) (all_kinds names) ≡ whole
one_kind front name names k whole is so_far =
    sym (regroup front k (all_kinds names)) ∙ ap (λ o. with_front front (option_and_then (λ x. option_map (λ xs. x ∷ xs) (all_kinds names)) o)) (sym is) ∙ so_far

pub no_kind : (front : List Kind) (name : Text) (names : List Text) (whole : Option (List Kind)) → kind_named name ≡ None
    → with_front front (all_kinds (name ∷ names)) ≡ whole → None ≡ whole
no_kind front name names whole is so_far =
    ap (λ o. with_front front (option_and_then (λ x. option_map (λ xs. x ∷ xs) (all_kinds names)) o)) (sym is) ∙ so_far

pub none_at : (front : List Kind) (names : List (Bor Text)) (i : ℕ) (d : Bor Text) (whole : Option (List Kind)) → i < length names → kind_named (get_or names i d).now ≡ None
    → with_front front (all_kinds (map (λ s. s.now) (drop i names))) ≡ whole → None ≡ whole
none_at front names i d whole lt is so_far =
    no_kind front (get_or names i d).now (map (λ s. s.now) (drop (i + 1) names)) whole is (ap (λ (xs : List (Bor Text)). with_front front (all_kinds (map (λ s. s.now) xs))) (sym (drop_more names i d lt)) ∙ so_far)

-- ---- numbers

number_read : (t : Text) → is_unsigned_in 0 4294967295 t ≡ true → number_of t ≡ Some (digits_value 10 (without_leading_plus t))
number_read t e = rw e refl

number_unread : (t : Text) → is_unsigned_in 0 4294967295 t ≡ false → number_of t ≡ None
number_unread t e = rw e refl

-- what `get_one` reads is the number
pub read_number : {E : Type 0} (G : Text → Result ℕ E → Type 0) (o : Option Text) (r : Option ℕ) → ((t : Text) (x : Result ℕ E) → G t x → ParsesUnsigned 32 10 t x)
    → (o ≡ None → r ≡ None) → ((t : Text) → o ≡ Some t → ReadsOne G t r) → r ≡ option_and_then number_of o
read_number G None r only none some = none refl
read_number {E} G (Some t) r only none some = go r (some t refl)
  where
    go : (q : Option ℕ) → ReadsOne G t q → q ≡ number_of t
    go (Some x) h =
        let p = only t (Ok x) h in
        let small : digits_value 10 (without_leading_plus t) < 2 ^ 64 = omega (arith, p.0.1) in
        let most : digits_value 10 (without_leading_plus t) ≤ 4294967295 = omega (arith, p.0.1) in
        let e : is_unsigned_in 0 4294967295 t ≡ true = Accepts-accepts false (Unsigned 0 4294967295) t (p.0.0, small, omega arith, most) in
        ap (λ (n : ℕ). Some n) p.1 ∙ sym (number_read t e)
    go None h = sort (is_unsigned_in 0 4294967295 t) refl
      where
        sort : (b : Bool) → is_unsigned_in 0 4294967295 t ≡ b → None ≡ number_of t
        sort true e =
            let a = accepts-Accepts false (Unsigned 0 4294967295) t e in
            absurd (only t (Err h.0) h.1 (a.0, omega (arith, a.3)))
        sort false e = sym (number_unread t e)

-- ---- the command

pub the_app_is_simple : is_simple_and_free the_app ≡ true
the_app_is_simple = refl

pub the_app_is_exact : is_simple the_app ≡ true
the_app_is_exact = refl

pub taken_at : (told : List Text) → fault_of the_app told ≡ [] → is_taken told ≡ true
taken_at told e = ap (λ (ks : Kinds). length ks == 0) e

among_some : (k : ErrorKind) (ks : Kinds) → IsAmong k ks → (length ks == 0) ≡ false
among_some k [] h = absurd h
among_some k (x ∷ xs) h = grind (arith, nat_tests)

pub refused_at : (told : List Text) (e : Error) → HasKind (fault_of the_app told) e → kind_of e ≢ OutOfMemory → is_taken told ≡ false
refused_at told e (inl h) other = absurd (other h)
refused_at told e (inr h) other = among_some (kind_of e) (fault_of the_app told) h

-- ---- a plan has 1 to 8 nodes and a shelf of 1 to 64 loglets

abbrev found : {A : Type 0} → A → Option A
found x = Some x

same : {A : Type 0} (x y : A) → found x ≡ found y → x ≡ y
same x y e = cc

some_kinds : (words : List Text) (ks : List Kind) → 0 < length words → all_kinds words ≡ Some ks → 0 < length ks
some_kinds [] ks some e = absurd (omega arith)
some_kinds (w ∷ ws) ks some e = go (kind_named w) (all_kinds ws) e
  where
    go : (o : Option Kind) (rest : Option (List Kind)) → option_and_then (λ k. option_map (λ xs. k ∷ xs) rest) o ≡ Some ks → 0 < length ks
    go None rest h = absurd cc
    go (Some k) None h = absurd cc
    go (Some k) (Some xs) h = subst (λ (ys : List Kind). 0 < length ys) (same (k ∷ xs) ks h) (omega arith)

kinds_size : (words : List Text) (ks : List Kind) → all_kinds words ≡ Some ks → length ks ≡ length words
kinds_size [] ks e = let none : [] ≡ ks = same [] ks e in sym (ap length none)
kinds_size (w ∷ ws) ks e = go (kind_named w) (all_kinds ws) (kinds_size ws) e
  where
    go : (o : Option Kind) (rest : Option (List Kind)) → ((xs : List Kind) → rest ≡ Some xs → length xs ≡ length ws) → option_and_then (λ k. option_map (λ xs. k ∷ xs) rest) o ≡ Some ks → length ks ≡ length (w ∷ ws)
    go None rest size h = absurd cc
    go (Some k) None size h = absurd cc
    go (Some k) (Some xs) size h =
        let here = size xs refl in
        let all = ap length (same (k ∷ xs) ks h) in
        omega (arith, here, all)

shelf_some : (o : Option Text) (ks : List Kind) → option_and_then kinds_of o ≡ Some ks → (0 < length ks) × (length ks ≤ 64)
shelf_some None ks e = absurd cc
shelf_some (Some text) ks e = go (nat_lt 64 (length (slice_split (λ b. b == 44) text))) refl e
  where
    words : List Text
    words = slice_split (λ b. b == 44) text

    go : (t : Bool) → nat_lt 64 (length words) ≡ t → cond t None (all_kinds words) ≡ Some ks → (0 < length ks) × (length ks ≤ 64)
    go true few h = absurd cc
    go false few h =
        let size = kinds_size words ks h in
        let low : length words ≤ 64 = grind (arith, nat_tests) in
        (some_kinds words ks (omega (arith, length-slice_split (λ b. b == 44) text)) h, omega (arith, size, low))

few_lines : (n : ℕ) (t : Bool) (task : Task) → (nat_le 1 n && nat_le n 15000) ≡ t → option_map (λ (k : ℕ). Make k) (cond t (Some n) None) ≡ Some task → IsTask task
few_lines n false task is h = absurd cc
few_lines n true task is h =
    let both = and_parts (nat_le 1 n) (nat_le n 15000) is in
    subst IsTask (same (Make n) task h) (leb-true 1 n both.0, leb-true n 15000 both.1)

made_sized : (o : Option ℕ) (task : Task) → option_map (λ (k : ℕ). Make k) (option_and_then line_count o) ≡ Some task → IsTask task
made_sized None task h = absurd cc
made_sized (Some n) task h = few_lines n (nat_le 1 n && nat_le n 15000) task refl h

task_sized : (t : Bool) (rows : List Row) (task : Task) → cond t (option_map (λ (k : ℕ). Make k) (lines_in rows)) (Some Run) ≡ Some task → IsTask task
task_sized true rows task h = made_sized (number_in (codes "lines") rows) task h
task_sized false rows task h = subst IsTask (same Run task h) tt

abbrev built : ℕ → ℕ → List Kind → Task → Plan
built n s ks task = record { nodes = n; seed = s; shelf = ks; task = task }

abbrev planned : Option ℕ → Option ℕ → Option (List Kind) → Option Task → Option Plan
planned nodes seed shelf task = option_and_then (λ n. option_and_then (λ s. option_and_then (λ ks. option_map (λ x. built n s ks x) task) shelf) seed) nodes

counted : (n : ℕ) (t : Bool) (s : Option ℕ) (o : Option Text) (shelf : Option (List Kind)) (task : Option Task) (plan : Plan) → (nat_le 1 n && nat_le n 8) ≡ t → option_and_then kinds_of o ≡ shelf
    → ((x : Task) → task ≡ Some x → IsTask x) → planned (cond t (Some n) None) s shelf task ≡ Some plan → IsPlan plan
counted n false s o shelf task plan is from tasks h = absurd cc
counted n true None o shelf task plan is from tasks h = absurd cc
counted n true (Some k) o None task plan is from tasks h = absurd cc
counted n true (Some k) o (Some ks) None plan is from tasks h = absurd cc
counted n true (Some k) o (Some ks) (Some x) plan is from tasks h =
    let both = and_parts (nat_le 1 n) (nat_le n 8) is in
    subst IsPlan (same (built n k ks x) plan h) (record { nodes = (leb-true 1 n both.0, leb-true n 8 both.1); shelf = shelf_some o ks from; task = tasks x refl })

options_sized : (n s : Option ℕ) (o : Option Text) (task : Option Task) (plan : Plan) → ((x : Task) → task ≡ Some x → IsTask x)
    → planned (option_and_then node_count n) s (option_and_then kinds_of o) task ≡ Some plan → IsPlan plan
options_sized None s o task plan tasks e = absurd cc
options_sized (Some n) s o task plan tasks e = counted n (nat_le 1 n && nat_le n 8) s o (option_and_then kinds_of o) task plan refl refl tasks e

plan_sized : (o : Option (Text × List Row)) (plan : Plan) → plan_in o ≡ Some plan → IsPlan plan
plan_sized None plan e = absurd cc
plan_sized (Some p) plan e =
    options_sized (number_in (codes "nodes") p.1) (number_in (codes "seed") p.1) (first_of (codes "shelf") p.1) (task_in p.0 p.1) plan
    (λ x h. task_sized (bytes_eq p.0 (codes "make")) p.1 x h) e

taken_plan : (t : Bool) (o : Option (Text × List Row)) (plan : Plan) → cond t (plan_in o) None ≡ Some plan → IsPlan plan
taken_plan true o plan e = plan_sized o plan e
taken_plan false o plan e = absurd cc

pub read_sized : (r : Result Plan WordsError) (words : List Text) → Reads r (plan_of words) → IfOk r IsPlan
unfolding plan_of
read_sized (Ok plan) words e = taken_plan (is_taken (told_words words)) (subcommand_of the_app (told_words words)) plan e
read_sized (Err x) words e = tt
