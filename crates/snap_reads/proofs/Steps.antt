-- What steps make.
use Rattle.std.proofs.Common.{◌≡◌, ℕ, zero, suc, ◌+◌, ◌-◌, ◌<◌, ◌≤◌, List, [], ◌∷◌, ◌++◌, length, fold, map, take, drop, Option, Some, None, refl, sym, ap, subst, ◌∙◌, append_assoc, append-nil, length-append, arith}
use Rattle.std.specs.Prelude.{slice_get}
use Rattle.snap_reads.specs.declared.change.Change.{Change}
use Rattle.snap_reads.specs.declared.change.Published.{Published}
use Rattle.snap_reads.specs.declared.shown.Says.{Says}
use Rattle.snap_reads.specs.declared.shown.Op.{Op}
use Rattle.snap_reads.specs.Tables.{TablesMap, changed, with_published, tables_after, last_position, IsRisingFrom, StartsWith}
use Rattle.snap_reads.specs.Steps.{Step, begins, changes, ends, meant, act, applied, steps_of, all_steps, ended, published_by, IsWhole}

pub fold-append : {A B : Type 0} (f : B → A → B) (s : B) (xs ys : List A) → fold f s (xs ++ ys) ≡ fold f (fold f s xs) ys
fold-append f s [] ys = refl
fold-append f s (x ∷ xs) ys = fold-append f (f s x) xs ys

pub map-append : {A B : Type 0} (f : A → B) (xs ys : List A) → map f (xs ++ ys) ≡ map f xs ++ map f ys
map-append f [] ys = refl
map-append f (x ∷ xs) ys = λ i. f x ∷ map-append f xs ys i

pub map-drop : {A B : Type 0} (f : A → B) (n : ℕ) (xs : List A) → map f (drop n xs) ≡ drop n (map f xs)
map-drop f zero xs = refl
map-drop f (suc n) [] = refl
map-drop f (suc n) (x ∷ xs) = map-drop f n xs

pub take_drop : {A : Type 0} (n : ℕ) (xs : List A) → xs ≡ take n xs ++ drop n xs
take_drop zero xs = refl
take_drop (suc n) [] = refl
take_drop (suc n) (x ∷ xs) = λ i. x ∷ take_drop n xs i

-- what is carried, seen by f, once one more is
pub carried_on : {A B : Type 0} (f : A → B) (many : ℕ) (old pushed new : List A) (kept : A) (p : B) → new ≡ drop many pushed → pushed ≡ old ++ kept ∷ [] → f kept ≡ p → map f new ≡ drop many (map f old ++ p ∷ [])
carried_on f many old pushed new kept p gone more is =
    ap (map f) gone ∙ map-drop f many pushed ∙ ap (drop many) (ap (map f) more ∙ map-append f old (kept ∷ []) ∙ (λ i. map f old ++ is i ∷ []))

-- operations are applied by what they mean
pub fold-applied : (s : Says) (ops : List Op) → fold applied s ops ≡ fold act s (map meant ops)
fold-applied s [] = refl
fold-applied s (o ∷ ops) = fold-applied (act s (meant o)) ops

-- what is shown once this was published
abbrev pub shown_after : Says → ℕ × Published → Says
shown_after s e = record { tables = with_published s.tables e.1; pos = e.1.pos; count = s.count + 1; carried = drop (e.0 - (s.count - length s.carried)) (s.carried ++ e.1 ∷ []) }

changes_made : (s : Says) (cs : List Change) → fold act s (map (λ c. changes (Some c)) cs) ≡ record { tables = fold changed s.tables cs; pos = s.pos; count = s.count; carried = s.carried }
changes_made s [] = refl
changes_made s (c ∷ cs) = changes_made (act s (changes (Some c))) cs

one_made : (s : Says) (e : ℕ × Published) → fold act s (steps_of e) ≡ shown_after s e
one_made s e =
    fold-append act (act s (begins e.1.changes.whole)) (map (λ c. changes (Some c)) e.1.changes.list) (ends e.0 e.1 ∷ [])
    ∙ ap (λ (t : Says). act t (ends e.0 e.1)) (changes_made (act s (begins e.1.changes.whole)) e.1.changes.list)

pub all_made : (s : Says) (es : List (ℕ × Published)) → fold act s (all_steps es) ≡ fold shown_after s es
all_made s [] = refl
all_made s (e ∷ es) = fold-append act s (steps_of e) (all_steps es) ∙ ap (λ (t : Says). fold act t (all_steps es)) (one_made s e) ∙ all_made (shown_after s e) es

-- ---- what steps bring to its end

ended-append : (xs ys : List Step) → ended (xs ++ ys) ≡ ended xs ++ ended ys
ended-append [] ys = refl
ended-append (begins b ∷ xs) ys = ended-append xs ys
ended-append (changes c ∷ xs) ys = ended-append xs ys
ended-append (ends n p ∷ xs) ys = λ i. (n, p) ∷ ended-append xs ys i

ended-changes : (cs : List Change) (rest : List Step) → ended (map (λ c. changes (Some c)) cs ++ rest) ≡ ended rest
ended-changes [] rest = refl
ended-changes (c ∷ cs) rest = ended-changes cs rest

ended-steps_of : (e : ℕ × Published) → ended (steps_of e) ≡ e ∷ []
ended-steps_of e = ended-changes e.1.changes.list (ends e.0 e.1 ∷ [])

all_steps-append : (xs ys : List (ℕ × Published)) → all_steps (xs ++ ys) ≡ all_steps xs ++ all_steps ys
all_steps-append [] ys = refl
all_steps-append (x ∷ xs) ys = ap (λ (l : List Step). steps_of x ++ l) (all_steps-append xs ys) ∙ sym (append_assoc (steps_of x) (all_steps xs) (all_steps ys))

ended-more : (steps : List Step) (e : ℕ × Published) → ended (steps ++ steps_of e) ≡ ended steps ++ e ∷ []
ended-more steps e = ended-append steps (steps_of e) ∙ ap (λ (l : List (ℕ × Published)). ended steps ++ l) (ended-steps_of e)

pub whole_more : (steps : List Step) (e : ℕ × Published) → IsWhole steps → IsWhole (steps ++ steps_of e)
whole_more steps e h =
    ap (λ (l : List Step). l ++ steps_of e) h
    ∙ ap (λ (l : List Step). all_steps (ended steps) ++ l) (sym (append-nil (steps_of e)))
    ∙ sym (all_steps-append (ended steps) (e ∷ []))
    ∙ sym (ap all_steps (ended-more steps e))

pub published_more : (steps : List Step) (e : ℕ × Published) → published_by (steps ++ steps_of e) ≡ published_by steps ++ e.1 ∷ []
published_more steps e = ap (map (λ (f : ℕ × Published). f.1)) (ended-more steps e) ∙ map-append (λ (f : ℕ × Published). f.1) (ended steps) (e ∷ [])

-- ---- the next step of what is published

at_change : (cs : List Change) (at : ℕ) (rest : List Step) → at < length cs
    → drop at (map (λ c. changes (Some c)) cs ++ rest) ≡ changes (slice_get cs at) ∷ drop (suc at) (map (λ c. changes (Some c)) cs ++ rest)
at_change [] at rest h = absurd (omega arith)
at_change (c ∷ cs) zero rest h = refl
at_change (c ∷ cs) (suc at) rest h = at_change cs at rest (omega arith)

at_end : (cs : List Change) (at : ℕ) (step : Step) → at ≡ length cs
    → drop at (map (λ c. changes (Some c)) cs ++ step ∷ []) ≡ step ∷ drop (suc at) (map (λ c. changes (Some c)) cs ++ step ∷ [])
at_end [] zero step h = refl
at_end [] (suc at) step h = absurd (omega arith)
at_end (c ∷ cs) zero step h = absurd (omega arith)
at_end (c ∷ cs) (suc at) step h = at_end cs at step (omega arith)

past_end : (cs : List Change) (at : ℕ) (step : Step) → length cs < at → drop at (map (λ c. changes (Some c)) cs ++ step ∷ []) ≡ []
past_end [] zero step h = absurd (omega arith)
past_end [] (suc zero) step h = refl
past_end [] (suc (suc at)) step h = refl
past_end (c ∷ cs) zero step h = absurd (omega arith)
past_end (c ∷ cs) (suc at) step h = past_end cs at step (omega arith)

pub step_begins : (e : ℕ × Published) → steps_of e ≡ begins e.1.changes.whole ∷ drop 1 (steps_of e)
step_begins e = refl

pub step_changes : (e : ℕ × Published) (at : ℕ) → at < length e.1.changes.list → drop (suc at) (steps_of e) ≡ changes (slice_get e.1.changes.list at) ∷ drop (suc (suc at)) (steps_of e)
step_changes e at h = at_change e.1.changes.list at (ends e.0 e.1 ∷ []) h

pub step_ends : (e : ℕ × Published) (at : ℕ) → at ≡ length e.1.changes.list → drop (suc at) (steps_of e) ≡ ends e.0 e.1 ∷ drop (suc (suc at)) (steps_of e)
step_ends e at h = at_end e.1.changes.list at (ends e.0 e.1) h

pub no_steps : (e : ℕ × Published) (next : ℕ) → length e.1.changes.list + 2 ≤ next → drop next (steps_of e) ≡ []
no_steps e zero h = absurd (omega arith)
no_steps e (suc at) h = past_end e.1.changes.list at (ends e.0 e.1) (omega arith)

-- the same by what the code knows: the number of the next step, and a copy of what is published

pub begin_left : (e : ℕ × Published) (next : ℕ) (p : Published) → next ≡ 0 → p ≡ e.1 → drop next (steps_of e) ≡ begins p.changes.whole ∷ drop (next + 1) (steps_of e)
begin_left e next p zeroth same = rw (zeroth, same) refl

pub change_left : (e : ℕ × Published) (next at : ℕ) (p : Published) → next ≡ suc at → at < length p.changes.list → p ≡ e.1 → drop next (steps_of e) ≡ changes (slice_get p.changes.list at) ∷ drop (next + 1) (steps_of e)
change_left e next at p is h same =
    let here : at < length e.1.changes.list = subst (λ (q : Published). at < length q.changes.list) same h in
    let one : suc (suc at) ≡ next + 1 = omega (arith, is) in
    ap (λ (n : ℕ). drop n (steps_of e)) is ∙ step_changes e at here
    ∙ (λ i. changes (slice_get (sym same i).changes.list at) ∷ drop (one i) (steps_of e))

pub end_left : (e : ℕ × Published) (next at : ℕ) (p : Published) → next ≡ suc at → length p.changes.list ≤ at → next < length p.changes.list + 2 → p ≡ e.1 → drop next (steps_of e) ≡ ends e.0 p ∷ drop (next + 1) (steps_of e)
end_left e next at p is h low same =
    let last : at ≡ length p.changes.list = omega arith in
    let here : at ≡ length e.1.changes.list = last ∙ ap (λ (q : Published). length q.changes.list) same in
    let one : suc (suc at) ≡ next + 1 = omega (arith, is) in
    ap (λ (n : ℕ). drop n (steps_of e)) is ∙ step_ends e at here
    ∙ (λ i. ends e.0 (sym same i) ∷ drop (one i) (steps_of e))

-- ---- what is in the log and what is left

-- a step goes into the log
pub one_logged : (e : ℕ × Published) (next : ℕ) (before after : List Op) (o : Op) (all : List Step) → after ≡ before ++ o ∷ [] → drop next (steps_of e) ≡ meant o ∷ drop (next + 1) (steps_of e)
    → map meant before ++ drop next (steps_of e) ≡ all → map meant after ++ drop (next + 1) (steps_of e) ≡ all
one_logged e next before after o all more is so_far =
    ap (λ (l : List Op). map meant l ++ drop (next + 1) (steps_of e)) more
    ∙ ap (λ (l : List Step). l ++ drop (next + 1) (steps_of e)) (map-append meant before (o ∷ []))
    ∙ append_assoc (map meant before) (meant o ∷ []) (drop (next + 1) (steps_of e))
    ∙ ap (λ (l : List Step). map meant before ++ l) (sym is) ∙ so_far

-- nothing is left
pub all_logged : (e : ℕ × Published) (next : ℕ) (logged : List Op) (all : List Step) → length e.1.changes.list + 2 ≤ next → map meant logged ++ drop next (steps_of e) ≡ all → map meant logged ≡ all
all_logged e next logged all past is = sym (append-nil (map meant logged)) ∙ ap (λ (l : List Step). map meant logged ++ l) (sym (no_steps e next past)) ∙ is
