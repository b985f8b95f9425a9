-- What came of a script that was made, by the laws of made scripts and of totals.
use Rattle.std.proofs.Common.{◌≡◌, refl, sym, ap, ◌∙◌, subst, ℕ, zero, suc, pos, negsuc, ◌+◌, ◌<◌, ◌≤◌, ◌==◌, Bool, true, false, cond, List, [], ◌∷◌, length, min, map, arith, zero-add, Option, Some, None, inl, inr, eq-eqb, leb-true}
use Rattle.std.specs.Prelude.{count_by, is_some, ◌&&◌, ◌||◌, filter, fold, ◌+ℤ◌, All, sum_by, IfSome}
use Rattle.std.specs.List.{AllByRecursion, list_all, list_any, zip}
use Rattle.std.proofs.lemmas.Int.{ints}
use Rattle.std.proofs.lemmas.Bool.{and_parts, both_ways, cases_lt}
use Rattle.std.proofs.lemmas.Bool.Decides.{nat_tests}
use Rattle.std.proofs.lemmas.List.Sums.{sum_by-cons}
use Rattle.delos_types.specs.declared.chain.Segment.{Segment}
use Rattle.delos_types.specs.declared.chain.Chain.{Chain}
use Rattle.chain_map.specs.Chain.{last_of_segments, last_id}
use Rattle.table_core.specs.declared.command.Command.TheVariants.{Put, Del, Cas, Add}
use Rattle.script_text.specs.declared.line.Admin.TheVariants.{Extend, Alive, Retire, Trim}
use Rattle.script_text.specs.declared.asks.NamedLine.{NamedLine}
use Rattle.script_text.specs.declared.line.Line.{Line}
use Rattle.script_text.specs.declared.asks.Asks.{Asks}
use Rattle.script_text.specs.declared.asks.Asks.TheVariants as asks
use Rattle.script_text.specs.Lines.{lines_of}
use Rattle.script_words.specs.declared.plan.Plan.{Plan}
use Rattle.script_words.specs.declared.plan.Task.{Task}
use Rattle.script_words.specs.declared.plan.Task.TheVariants as task
use Rattle.script_words.specs.Plans.{IsPlan, IsTask}
use Rattle.row_text.specs.declared.row.Row.{Row}
use Rattle.row_text.specs.declared.row.Outcome.{Outcome}
use Rattle.row_text.specs.declared.row.Outcome.TheVariants as out
use Rattle.fitting_run.specs.declared.told.Told.{Told}
use Rattle.fitting_run.specs.Tests.{◌⇒◌}
use Rattle.fitting_run.specs.declared.answered.Answered.{Answered}
use Rattle.fitting_run.specs.Answered.{logs, has_row}
use Rattle.fitting_run.specs.Outcomes.{answers, is_row_of}
use Rattle.engine_api.specs.declared.content.Placed.{Placed}
use Rattle.fitting_run.specs.Trims.{asks_to_trim, each_node, is_allowed, is_reported}
use Rattle.fitting_run.specs.Replacements.{version_told, versions_at, has_ids, lacks_spare, is_spent}
use Rattle.fitting_run.specs.Calm.{IsCalm, is_answered, all_answered}
use Rattle.fitting_run.specs.Yard.{Shown}
use Rattle.fitting_run.specs.Fits.{Fits, told_of}
use Rattle.fitting_run.specs.Lines.{asks_to_leave}
use Rattle.fitting_run.specs.Reports.{items_of}
use Rattle.made_script.specs.Made.{made_lines}
use Rattle.made_script.specs.Asked.{logs_something, extends, asks_to_extend, added, added_by, AddsOrExtends}
use Rattle.run_totals.specs.Totals.{commands_in, acted_in, totals_of}
use Rattle.run_totals.specs.Adds.{amounts_in, amount_asked, AsksSmallAdd, AreSmallAdds}
use Rattle.crew_run.specs.Telling.{GoesByRows}
use Rattle.crew_run.specs.Running.{RunTold}
use Rattle.script_runner.specs.Ends.{ComesFrom}
use Rattle.script_runner.specs.Made.{CountsMade, any_open}
use Rattle.made_script.proofs.Asking.{count-logged, count-extends, sum-added, all-made}
use Rattle.run_totals.proofs.Whole.{answered-acts}
use Rattle.run_totals.proofs.Amounts.{whole-sum}
use Rattle.script_runner.proofs.Extending.{IsOfFirst, all-first}
use Rattle.script_runner.proofs.ScriptLines.{count_by-append, all_ranked}

-- The same lines are counted

abbrev once : Bool → ℕ
once b = cond b 1 0

one : (b c : Bool) → b ≡ c → once b ≡ once c
one b c e = ap once e

same_count : {A : Type 0} (p q : A → Bool) → ((x : A) → p x ≡ q x) → (xs : List A) → count_by p xs ≡ count_by q xs
same_count p q e [] = refl
same_count p q e (x ∷ xs) =
    count_by-append p (x ∷ []) xs ∙ ap (λ n. n + count_by p xs) (zero-add (cond (p x) 1 0) ∙ one (p x) (q x) (e x) ∙ sym (zero-add (cond (q x) 1 0)))
    ∙ ap (λ n. count_by q (x ∷ []) + n) (same_count p q e xs) ∙ sym (count_by-append q (x ∷ []) xs)

logs_same : (a : Asks) (l : NamedLine) → l.asks ≡ a → logs l.asks ≡ logs_something l
logs_same (asks.Logged s r c) l e = rw e refl
logs_same (asks.Look s q) l e = rw e refl
logs_same (asks.Admin a) l e = rw e refl

pub commands_same : (lines : List NamedLine) → commands_in lines ≡ count_by logs_something lines
commands_same lines = same_count (λ l. logs l.asks) logs_something (λ l. logs_same l.asks l refl) lines

-- What all of them add

all_from : {A : Type 0} (P : A → Type 0) (xs : List A) → All P xs → AllByRecursion P xs
all_from P [] h = tt
all_from P (x ∷ xs) h = (h 0 x (omega arith), all_from P xs (λ k d low. h (suc k) d (omega (arith, low))))

small_at : (a : Asks) → AddsOrExtends a → AsksSmallAdd a
small_at (asks.Logged s r (Add k z)) h = h
small_at (asks.Logged s r (Put k v)) h = absurd h
small_at (asks.Logged s r (Del k)) h = absurd h
small_at (asks.Logged s r (Cas k o n)) h = absurd h
small_at (asks.Look s q) h = tt
small_at (asks.Admin a) h = tt

all_small : (lines : List NamedLine) → AllByRecursion (λ l. AddsOrExtends l.asks) lines → AllByRecursion (λ l. AsksSmallAdd l.asks) lines
all_small [] h = tt
all_small (l ∷ ls) h = (small_at l.asks h.0, all_small ls h.1)

added_to : (n : ℕ) (a : Asks) → AddsOrExtends a → pos n +ℤ amount_asked a ≡ pos (n + added_by a)
added_to n (asks.Logged s r (Add k (pos m))) h = omega (arith, ints)
added_to n (asks.Logged s r (Add k (negsuc m))) h = absurd (omega (arith, ints, h.0))
added_to n (asks.Logged s r (Put k v)) h = absurd h
added_to n (asks.Logged s r (Del k)) h = absurd h
added_to n (asks.Logged s r (Cas k o v)) h = absurd h
added_to n (asks.Look s q) h = absurd h
added_to n (asks.Admin Extend) h = omega (arith, ints)
added_to n (asks.Admin Alive) h = absurd h
added_to n (asks.Admin Retire) h = absurd h
added_to n (asks.Admin Trim) h = absurd h

adds_from : (n : ℕ) (lines : List NamedLine) → AllByRecursion (λ l. AddsOrExtends l.asks) lines → fold (λ s l. s +ℤ amount_asked l.asks) (pos n) lines ≡ pos (n + sum_by added lines)
adds_from n [] h = let e : n ≡ n + 0 = omega arith in ap (λ (k : ℕ). pos k) e
adds_from n (l ∷ ls) h =
    let rest : (n + added l) + sum_by added ls ≡ n + sum_by added (l ∷ ls) = omega (arith, sum_by-cons added l ls) in
    ap (λ z. fold (λ s x. s +ℤ amount_asked x.asks) z ls) (added_to n l.asks h.0) ∙ adds_from (n + added l) ls h.1 ∙ ap (λ k. pos k) rest

adds_all : (lines : List NamedLine) → AllByRecursion (λ l. AddsOrExtends l.asks) lines → amounts_in lines ≡ pos (sum_by added lines)
adds_all lines h = adds_from 0 lines h ∙ ap (λ k. pos k) (zero-add (sum_by added lines))

-- Lines that extend the chain

abbrev has_told : Row → Bool
has_told r = is_some (version_told r.outcome)

abbrev has_spent : Row → Bool
has_spent r = lacks_spare r.outcome

has_one : (a : Asks) → has_row a ≡ true
has_one (asks.Logged s r c) = refl
has_one (asks.Look s q) = refl
has_one (asks.Admin a) = refl

first_row : (l : NamedLine) (ls : List NamedLine) → filter (λ x. has_row x.asks) ls ≡ ls → filter (λ x. has_row x.asks) (l ∷ ls) ≡ l ∷ ls
first_row l ls rest =
    let kept : filter (λ x. has_row x.asks) (l ∷ ls) ≡ l ∷ filter (λ x. has_row x.asks) ls =
    ap (λ (b : Bool). cond b (l ∷ filter (λ x. has_row x.asks) ls) (filter (λ x. has_row x.asks) ls)) (has_one l.asks) in
    kept ∙ ap (λ xs. l ∷ xs) rest

every_row : (lines : List NamedLine) → filter (λ l. has_row l.asks) lines ≡ lines
every_row [] = refl
every_row (l ∷ ls) = first_row l ls (every_row ls)

-- a line that extends was answered by a version of the chain, or found no loglet to spare
one_row : (a : Asks) (o : Outcome) → answers a o ≡ true → is_answered o ≡ true → once (asks_to_extend a) ≡ once (is_some (version_told o)) + once (lacks_spare o)
one_row (asks.Logged t r d) (out.Placed p reply late) kind own = refl
one_row (asks.Logged t r d) (out.Read after found) kind own = absurd cc
one_row (asks.Logged t r d) (out.Extended v s) kind own = absurd cc
one_row (asks.Logged t r d) (out.Moved v) kind own = absurd cc
one_row (asks.Logged t r d) out.NoSpare kind own = absurd cc
one_row (asks.Logged t r d) (out.Alive n) kind own = absurd cc
one_row (asks.Logged t r d) (out.Trimmed n) kind own = absurd cc
one_row (asks.Logged t r d) out.Retired kind own = absurd cc
one_row (asks.Logged t r d) (out.Open c) kind own = absurd cc
one_row (asks.Look t q) (out.Placed p reply late) kind own = absurd cc
one_row (asks.Look t q) (out.Read after found) kind own = refl
one_row (asks.Look t q) (out.Extended v s) kind own = absurd cc
one_row (asks.Look t q) (out.Moved v) kind own = absurd cc
one_row (asks.Look t q) out.NoSpare kind own = absurd cc
one_row (asks.Look t q) (out.Alive n) kind own = absurd cc
one_row (asks.Look t q) (out.Trimmed n) kind own = absurd cc
one_row (asks.Look t q) out.Retired kind own = absurd cc
one_row (asks.Look t q) (out.Open c) kind own = absurd cc
one_row (asks.Admin Extend) (out.Placed p reply late) kind own = absurd cc
one_row (asks.Admin Extend) (out.Read after found) kind own = absurd cc
one_row (asks.Admin Extend) (out.Extended v s) kind own = refl
one_row (asks.Admin Extend) (out.Moved v) kind own = refl
one_row (asks.Admin Extend) out.NoSpare kind own = refl
one_row (asks.Admin Extend) (out.Alive n) kind own = absurd cc
one_row (asks.Admin Extend) (out.Trimmed n) kind own = absurd cc
one_row (asks.Admin Extend) out.Retired kind own = absurd cc
one_row (asks.Admin Extend) (out.Open c) kind own = absurd cc
one_row (asks.Admin Alive) (out.Placed p reply late) kind own = absurd cc
one_row (asks.Admin Alive) (out.Read after found) kind own = absurd cc
one_row (asks.Admin Alive) (out.Extended v s) kind own = absurd cc
one_row (asks.Admin Alive) (out.Moved v) kind own = absurd cc
one_row (asks.Admin Alive) out.NoSpare kind own = absurd cc
one_row (asks.Admin Alive) (out.Alive n) kind own = refl
one_row (asks.Admin Alive) (out.Trimmed n) kind own = absurd cc
one_row (asks.Admin Alive) out.Retired kind own = absurd cc
one_row (asks.Admin Alive) (out.Open c) kind own = absurd cc
one_row (asks.Admin Retire) (out.Placed p reply late) kind own = absurd cc
one_row (asks.Admin Retire) (out.Read after found) kind own = absurd cc
one_row (asks.Admin Retire) (out.Extended v s) kind own = absurd cc
one_row (asks.Admin Retire) (out.Moved v) kind own = absurd cc
one_row (asks.Admin Retire) out.NoSpare kind own = absurd cc
one_row (asks.Admin Retire) (out.Alive n) kind own = absurd cc
one_row (asks.Admin Retire) (out.Trimmed n) kind own = absurd cc
one_row (asks.Admin Retire) out.Retired kind own = refl
one_row (asks.Admin Retire) (out.Open c) kind own = absurd cc
one_row (asks.Admin Trim) (out.Placed p reply late) kind own = absurd cc
one_row (asks.Admin Trim) (out.Read after found) kind own = absurd cc
one_row (asks.Admin Trim) (out.Extended v s) kind own = absurd cc
one_row (asks.Admin Trim) (out.Moved v) kind own = absurd cc
one_row (asks.Admin Trim) out.NoSpare kind own = absurd cc
one_row (asks.Admin Trim) (out.Alive n) kind own = absurd cc
one_row (asks.Admin Trim) (out.Trimmed n) kind own = refl
one_row (asks.Admin Trim) out.Retired kind own = absurd cc
one_row (asks.Admin Trim) (out.Open c) kind own = absurd cc

-- the lines with their rows
abbrev pair_of : NamedLine × Row → Answered
pair_of x = record { line = x.0; row = x.1 }

abbrev pairs : List NamedLine → List Row → List Answered
pairs lines rows = map pair_of (zip lines rows)

tally : (lines : List NamedLine) (rows : List Row) → length rows ≡ length lines → list_all is_row_of (pairs lines rows) ≡ true → all_answered rows ≡ true → count_by extends lines ≡ count_by has_told rows + count_by has_spent rows
tally [] [] size kinds own = refl
tally [] (r ∷ rs) size kinds own = absurd (omega (arith, size))
tally (l ∷ ls) [] size kinds own = absurd (omega (arith, size))
tally (l ∷ ls) (r ∷ rs) size kinds own =
    let row = and_parts (is_row_of (pair_of (l, r))) (list_all is_row_of (pairs ls rs)) kinds in
    let mine = and_parts (is_answered r.outcome) (all_answered rs) own in
    let kind = (and_parts _ (answers l.asks r.outcome) row.0).1 in
    let here = one_row l.asks r.outcome kind mine.0 in
    let rest = tally ls rs (omega (arith, size)) row.1 mine.1 in
    omega (arith, here, rest, sum_by-cons (λ x. cond (extends x) 1 0) l ls, sum_by-cons (λ x. cond (has_told x) 1 0) r rs, sum_by-cons (λ x. cond (has_spent x) 1 0) r rs)

-- Only rows of the first node tell a version

abbrev tells_version : Answered → Bool
tells_version a = is_some (version_told a.row.outcome)

-- if it tells a version, it is of a line of the first node
abbrev TellsFirst : Answered → Type 0
TellsFirst a = tells_version a ≡ true → a.line.node ≡ 1

first_pair : (l : NamedLine) (r : Row) → once (extends l) ≡ once (has_told r) + once (has_spent r) → IsOfFirst l → TellsFirst (pair_of (l, r))
first_pair l r sum first told = by (extends l) refl
  where
    by : (b : Bool) → extends l ≡ b → l.node ≡ 1
    by true is = first is
    by false is = absurd (let none = one (extends l) false is in let some = one (has_told r) true told in omega (arith, sum, none, some))

first_pairs : (lines : List NamedLine) (rows : List Row) → list_all is_row_of (pairs lines rows) ≡ true → all_answered rows ≡ true → AllByRecursion IsOfFirst lines → AllByRecursion TellsFirst (pairs lines rows)
first_pairs [] rows kinds own first = tt
first_pairs (l ∷ ls) [] kinds own first = tt
first_pairs (l ∷ ls) (r ∷ rs) kinds own first =
    let row = and_parts (is_row_of (pair_of (l, r))) (list_all is_row_of (pairs ls rs)) kinds in
    let mine = and_parts (is_answered r.outcome) (all_answered rs) own in
    let kind = (and_parts _ (answers l.asks r.outcome) row.0).1 in
    (first_pair l r (one_row l.asks r.outcome kind mine.0) first.0, first_pairs ls rs row.1 mine.1 first.1)

told_pairs : (lines : List NamedLine) (rows : List Row) → length rows ≡ length lines → count_by has_told rows ≡ count_by tells_version (pairs lines rows)
told_pairs [] [] size = refl
told_pairs [] (r ∷ rs) size = absurd (omega (arith, size))
told_pairs (l ∷ ls) [] size = absurd (omega (arith, size))
told_pairs (l ∷ ls) (r ∷ rs) size =
    let rest = told_pairs ls rs (omega (arith, size)) in
    omega (arith, rest, sum_by-cons (λ x. cond (has_told x) 1 0) r rs, sum_by-cons (λ x. cond (tells_version x) 1 0) (pair_of (l, r)) (pairs ls rs))

both_first : (t b : Bool) → (t ≡ true → b ≡ true) → once t ≡ once (b && t)
both_first true true h = refl
both_first true false h = absurd (both_ways false refl (h refl))
both_first false true h = refl
both_first false false h = refl

count_first : (xs : List Answered) → AllByRecursion TellsFirst xs → count_by tells_version xs ≡ versions_at 1 xs
count_first [] first = refl
count_first (a ∷ xs) first =
    let here = both_first (tells_version a) (a.line.node == 1) (λ is. eq-eqb a.line.node 1 (first.0 is)) in
    let rest = count_first xs first.1 in
    omega (arith, here, rest, sum_by-cons (λ x. cond (tells_version x) 1 0) a xs, sum_by-cons (λ x. cond ((x.line.node == 1) && tells_version x) 1 0) a xs)

-- where some row tells one, the last loglet lies as far as rows of the first node say
ids_first : (chain : Chain) (told xs : List Answered) → AllByRecursion TellsFirst xs → list_all (has_ids chain told) xs ≡ true → 0 < count_by tells_version xs → versions_at 1 told ≤ last_id chain
ids_first chain told [] first ids some = absurd (omega (arith, some))
ids_first chain told (a ∷ xs) first ids some =
    let both = and_parts (has_ids chain told a) (list_all (has_ids chain told) xs) ids in
    by (tells_version a) refl both.0
    (λ is. let none = one (tells_version a) false is in
    ids_first chain told xs first.1 both.1 (omega (arith, some, none, sum_by-cons (λ x. cond (tells_version x) 1 0) a xs)))
  where
    by : (t : Bool) → tells_version a ≡ t → has_ids chain told a ≡ true → (tells_version a ≡ false → versions_at 1 told ≤ last_id chain) → versions_at 1 told ≤ last_id chain
    by true is here rest = subst (λ n. versions_at n told ≤ last_id chain) (first.0 is) (leb-true (versions_at a.line.node told) (last_id chain) here)
    by false is here rest = rest is

-- so it lies as far as all rows say
told_low : (chain : Chain) (lines : List NamedLine) (rows : List Row) → length rows ≡ length lines → AllByRecursion TellsFirst (pairs lines rows) → list_all (has_ids chain (pairs lines rows)) (pairs lines rows) ≡ true → count_by has_told rows ≤ last_id chain
told_low chain lines rows size first ids =
    let same = told_pairs lines rows size in
    let all = count_first (pairs lines rows) first in
    elim (cases_lt 0 (count_by tells_version (pairs lines rows))) [
      | inl some ↦ (let low = ids_first chain (pairs lines rows) (pairs lines rows) first ids some in omega (arith, same, all, low))
      | inr none ↦ omega (arith, same, none)
    ]

-- where a line found no loglet to spare, the last segment is of the last one
spent_first : (chain : Chain) (shelf : ℕ) (x : Bool) → (x ⇒ (last_id chain + 1 == shelf)) ≡ true → (once x ≡ 0 → last_id chain + 1 ≡ shelf) → last_id chain + 1 ≡ shelf
spent_first chain shelf true here rest = let full : (last_id chain + 1 == shelf) ≡ true = here in grind (arith, nat_tests)
spent_first chain shelf false here rest = rest refl

spent : (chain : Chain) (shelf : ℕ) (lines : List NamedLine) (rows : List Row) → length rows ≡ length lines → list_all (is_spent chain shelf) (pairs lines rows) ≡ true
    → 0 < count_by has_spent rows → last_id chain + 1 ≡ shelf
spent chain shelf [] [] size all some = absurd (omega (arith, some))
spent chain shelf [] (r ∷ rs) size all some = absurd (omega (arith, size))
spent chain shelf (l ∷ ls) [] size all some = absurd (omega (arith, size))
spent chain shelf (l ∷ ls) (r ∷ rs) size all some =
    let parts = and_parts (is_spent chain shelf (pair_of (l, r))) (list_all (is_spent chain shelf) (pairs ls rs)) all in
    spent_first chain shelf (has_spent r) parts.0
    (λ none. spent chain shelf ls rs (omega (arith, size)) parts.1 (omega (arith, some, none, sum_by-cons (λ x. cond (has_spent x) 1 0) r rs)))

-- the last segment is one of them
last_within : (n : ℕ) (ss : List Segment) → AllByRecursion (λ s. s.id < n) ss → 0 < length ss → (last_of_segments ss).id < n
last_within n [] all some = absurd (omega (arith, some))
last_within n (s ∷ []) all some = all.0
last_within n (s ∷ t ∷ ts) all some = last_within n (t ∷ ts) all.1 (omega arith)

least_is : (g shelf told found_none all last : ℕ) → g ≡ last + 1 → last ≡ told → last < shelf → all ≡ told + found_none → (0 < found_none → last + 1 ≡ shelf) → g ≡ min shelf (1 + all)
least_is g shelf told zero all last size is low sum none = omega (arith, size, is, low, sum)
least_is g shelf told (suc k) all last size is low sum none = let full = none (omega arith) in omega (arith, size, is, low, sum, full)

-- a line of a made script asks for no trim
no_trim : (a : Asks) → AddsOrExtends a → asks_to_trim a ≡ false
no_trim (asks.Logged s r c) h = refl
no_trim (asks.Look s q) h = refl
no_trim (asks.Admin Extend) h = refl
no_trim (asks.Admin Alive) h = absurd h
no_trim (asks.Admin Retire) h = absurd h
no_trim (asks.Admin Trim) h = absurd h

none_trims : (lines : List NamedLine) → AllByRecursion (λ l. AddsOrExtends l.asks) lines → list_any (λ l. asks_to_trim l.asks) lines ≡ false
none_trims [] h = refl
none_trims (l ∷ ls) h = rw (no_trim l.asks h.0) (none_trims ls h.1)

-- so nothing is trimmed
unasked : (lines : List NamedLine) (trim : ℕ) (reported : Bool) → AllByRecursion (λ l. AddsOrExtends l.asks) lines → ((trim == 0) || (list_any (λ l. asks_to_trim l.asks) lines && reported)) ≡ true → trim ≡ 0
unasked lines trim reported each asked = by (trim == 0) refl
  where
    by : (b : Bool) → (trim == 0) ≡ b → trim ≡ 0
    by true is = grind (arith, nat_tests, is)
    by false is =
        let some : (false || (list_any (λ l. asks_to_trim l.asks) lines && reported)) ≡ true = subst (λ b. (b || (list_any (λ l. asks_to_trim l.asks) lines && reported)) ≡ true) is asked in
        let parts = and_parts (list_any (λ l. asks_to_trim l.asks) lines) reported some in
        let none = none_trims lines each in
        absurd (let t : true ≡ false = sym parts.0 ∙ none in cc)

untrimmed : (lines : List NamedLine) (told : List Answered) (nodes trim : ℕ) (items : List Placed) → AllByRecursion (λ l. AddsOrExtends l.asks) lines → is_allowed lines told nodes trim items ≡ true → trim ≡ 0
untrimmed lines told nodes trim items each asked =
    unasked lines trim (list_any (is_reported trim items) told && each_node nodes (λ a. asks_to_leave a.line.asks || is_reported trim items a) told) each asked

-- where every line has its own answer, each line that extends the chain did, until the shelf had no loglet left
segments_made : (lines : List NamedLine) (told : Told) (yard : Shown) (shelf : ℕ) → AllByRecursion (λ l. AddsOrExtends l.asks) lines → AllByRecursion IsOfFirst lines → length yard.cells ≡ shelf → Fits lines [] told yard → all_answered told.rows ≡ true
    → GoesByRows told.chain told.rows → All (λ s. s.id < length yard.cells) told.chain.segments → length told.chain.segments ≡ min shelf (1 + count_by extends lines)
segments_made lines told yard shelf each first cells fits own goes within =
    let grown = goes.segments (untrimmed lines (told_of lines told) (length yard.disks) told.chain.trim (items_of told.chain yard.cells) each fits.trims.allowed) in
    let size : length told.rows ≡ length lines = fits.one_row_each.as_many ∙ ap length (every_row lines) in
    let kinds : list_all is_row_of (pairs lines told.rows) ≡ true = subst (λ (ls : List NamedLine). list_all is_row_of (pairs ls told.rows) ≡ true) (every_row lines) fits.one_row_each.each in
    let full : list_all (is_spent told.chain (length yard.cells)) (pairs lines told.rows) ≡ true =
    subst (λ (ls : List NamedLine). list_all (is_spent told.chain (length yard.cells)) (pairs ls told.rows) ≡ true) (every_row lines) fits.replacements.last in
    let ids : list_all (has_ids told.chain (pairs lines told.rows)) (pairs lines told.rows) ≡ true =
    subst (λ (ls : List NamedLine). list_all (has_ids told.chain (pairs ls told.rows)) (pairs ls told.rows) ≡ true) (every_row lines) fits.replacements.ids in
    let least = told_low told.chain lines told.rows size (first_pairs lines told.rows kinds own first) ids in
    let most = goes.most in
    let low = last_within (length yard.cells) told.chain.segments (all_from (λ s. s.id < length yard.cells) told.chain.segments within) (omega (arith, grown)) in
    least_is (length told.chain.segments) shelf (count_by has_told told.rows) (count_by has_spent told.rows) (count_by extends lines) (last_id told.chain)
    grown (omega (arith, least, most)) (omega (arith, low, cells, grown)) (tally lines told.rows size kinds own)
    (λ some. spent told.chain (length yard.cells) lines told.rows size full some ∙ cells)

-- All of it

-- the lines of the script of so many commands that is made by the plan
abbrev lines_made : Plan → ℕ → List NamedLine
lines_made plan count = lines_of (made_lines plan.seed count plan.nodes)

counts_lines : (plan : Plan) (count : ℕ) (yard : Shown) (told : Told) → count ≤ 15000 → Fits (lines_made plan count) [] told yard
    → (IsCalm yard → length told.chain.segments ≡ min (length plan.shelf) (1 + count_by extends (lines_made plan count))) → CountsMade plan count yard told (totals_of (lines_made plan count) told)
counts_lines plan count yard told few fits grown =
    let lines = lines_made plan count in
    let each = all_from (λ (l : NamedLine). AddsOrExtends l.asks) lines (all-made plan.seed count plan.nodes) in
    let so_many : commands_in lines ≡ count = commands_same lines ∙ count-logged plan.seed count plan.nodes in
    let all : any_open told.rows ≡ false → acted_in told.rows ≡ commands_in lines = answered-acts lines told fits.one_row_each in
    let small : AreSmallAdds lines = record { ranked = all_ranked (made_lines plan.seed count plan.nodes); small = all_small lines each; few = omega (arith, so_many, few) } in
    record {
      commands = so_many;
      acted = λ none. all none ∙ so_many;
      sum = λ none. whole-sum lines told small fits.one_row_each (all none) ∙ (adds_all lines each ∙ ap (λ k. pos k) (sum-added plan.seed count plan.nodes));
      segments = λ calm. grown calm ∙ ap (λ k. min (length plan.shelf) (1 + k)) (count-extends plan.seed count plan.nodes);
    }

-- of a run of what was made
pub counts_made : (plan : Plan) (count : ℕ) (left : Option (List ℕ)) (yard : Shown) (told : Told) (script : List Line) → IsPlan plan → plan.task ≡ task.Make count → ComesFrom plan.task plan left script
    → length yard.cells ≡ length plan.shelf → RunTold (lines_of script) [] yard told → CountsMade plan count yard told (totals_of (lines_of script) told)
counts_made plan count left yard told script sound make comes shelf ran =
    let is : script ≡ made_lines plan.seed count plan.nodes = subst (λ (t : Task). ComesFrom t plan left script) make comes in
    let few = subst IsTask make sound.task in
    let lines : lines_of script ≡ lines_made plan count = ap lines_of is in
    subst (λ ls. CountsMade plan count yard told (totals_of ls told)) (sym lines)
    (counts_lines plan count yard told few.1 (subst (λ ls. Fits ls [] told yard) lines ran.fits)
    (λ calm. segments_made (lines_of script) told yard (length plan.shelf) (subst (AllByRecursion (λ (l : NamedLine). AddsOrExtends l.asks)) (sym lines) (all_from (λ (l : NamedLine). AddsOrExtends l.asks) (lines_made plan count) (all-made plan.seed count plan.nodes)))
    (subst (AllByRecursion IsOfFirst) (sym lines) (all_from IsOfFirst (lines_made plan count) (all-first plan.seed count plan.nodes))) shelf ran.fits (ran.answered calm) (ran.extended calm) ran.shelved
    ∙ ap (λ ls. min (length plan.shelf) (1 + count_by extends ls)) lines))
