-- What the lines of a script log stands apart: a session's commands have rising ranks.
use Rattle.std.proofs.Common.{◌≡◌, refl, ap, ◌∙◌, subst, ℕ, ◌+◌, ◌<◌, true, cond, List, [], ◌∷◌, ◌++◌, Some, count_by, Ordering, Less, Equal, Greater, nat_cmp, arith, eqb-true, eq-eqb}
use Rattle.std.specs.FinMap.{nat_cmp-IsAntisymmetric}
use Rattle.std.specs.List.{AllByRecursion}
use Rattle.std.specs.Ordering.{ordering_then}
use Rattle.std.proofs.lemmas.Bool.{and_parts}
use Rattle.std.proofs.lemmas.List.Sums.{sum_by_push}
use Rattle.engine_api.specs.declared.act.Act.{Act}
use Rattle.script_text.specs.declared.asks.NamedLine.{NamedLine}
use Rattle.script_text.specs.declared.asks.Asks.{Asks}
use Rattle.script_text.specs.declared.asks.Asks.TheVariants as asks
use Rattle.row_text.specs.declared.row.Row.{Row}
use Rattle.row_text.specs.declared.row.Outcome.{Outcome}
use Rattle.row_text.specs.declared.row.Outcome.TheVariants as out
use Rattle.fitting_run.specs.Acts.{act_of, act_order}
use Rattle.fitting_run.specs.Lines.{are_ranked, has_rank, is_of, logs_for}
use Rattle.run_totals.specs.Replay.{acts_told}
use Rattle.run_totals.proofs.Permuting.{IsApart, AllApart}

-- Lists

all-imply : {A : Type 0} (P Q : A → Type 0) (xs : List A) → ((x : A) → P x → Q x) → AllByRecursion P xs → AllByRecursion Q xs
all-imply P Q [] f h = tt
all-imply P Q (x ∷ xs) f h = (f x h.0, all-imply P Q xs f h.1)

pub all-append : {A : Type 0} (P : A → Type 0) (xs ys : List A) → AllByRecursion P xs → AllByRecursion P ys → AllByRecursion P (xs ++ ys)
all-append P [] ys h k = k
all-append P (x ∷ xs) ys h k = (h.0, all-append P xs ys h.1 k)

-- Acts of one turn

parts-equal : (a b : Ordering) → ordering_then a b ≡ Equal → (a ≡ Equal) × (b ≡ Equal)
parts-equal Less b e = absurd (no e)
  where
    no : Less ≡ Equal → ⊥
    no e = cc
parts-equal Equal b e = (refl, e)
parts-equal Greater b e = absurd (no e)
  where
    no : Greater ≡ Equal → ⊥
    no e = cc

-- acts that are tied have one rank of one session
tied-rank : (a b : Act) → act_order a b ≡ Equal → (a.rank ≡ b.rank) × (a.session ≡ b.session)
tied-rank a b e =
    let behind_pos = parts-equal (nat_cmp a.place.pos b.place.pos) (ordering_then (nat_cmp a.place.sub b.place.sub) (ordering_then (nat_cmp a.rank b.rank) (nat_cmp a.session b.session))) e in
    let behind_sub = parts-equal (nat_cmp a.place.sub b.place.sub) (ordering_then (nat_cmp a.rank b.rank) (nat_cmp a.session b.session)) behind_pos.1 in
    let last = parts-equal (nat_cmp a.rank b.rank) (nat_cmp a.session b.session) behind_sub.1 in
    (nat_cmp-IsAntisymmetric a.rank b.rank last.0, nat_cmp-IsAntisymmetric a.session b.session last.1)

-- Ranks

abbrev logged_in : List NamedLine → ℕ → ℕ
logged_in before s = count_by (logs_for s) before

-- its rank is above the number of its session's commands before
abbrev IsBehind : List NamedLine → Act → Type 0
IsBehind before a = logged_in before a.session < a.rank

one-line : (before : List NamedLine) (l : NamedLine) (s : ℕ) → logged_in (before ++ l ∷ []) s ≡ logged_in before s + cond (logs_for s l) 1 0
one-line before l s = sum_by_push (λ m. cond (logs_for s m) 1 0) before l

head-behind : (before : List NamedLine) (q : Asks) (w : Outcome) → has_rank before q ≡ true → AllByRecursion (IsBehind before) (act_of q w)
head-behind before (asks.Logged s r c) (out.Placed p reply late) e = (let is = eqb-true r (logged_in before s.id + 1) e in omega arith, tt)
head-behind before (asks.Logged s r c) w e = tt
head-behind before (asks.Look s q) w e = tt
head-behind before (asks.Admin a) w e = tt

told-behind : (before lines : List NamedLine) (rows : List Row) → are_ranked before lines ≡ true → AllByRecursion (IsBehind before) (acts_told lines rows)
told-behind before [] rows e = tt
told-behind before (l ∷ ls) [] e = tt
told-behind before (l ∷ ls) (r ∷ rs) e =
    let h = and_parts (has_rank before l.asks) (are_ranked (before ++ l ∷ []) ls) e in
    all-append (IsBehind before) (act_of l.asks r.outcome) (acts_told ls rs) (head-behind before l.asks r.outcome h.0)
    (all-imply (IsBehind (before ++ l ∷ [])) (IsBehind before) (acts_told ls rs) (λ a behind. omega (arith, behind, one-line before l a.session)) (told-behind (before ++ l ∷ []) ls rs h.1))

-- an act of a later line is apart from that of the line
later-apart : (before : List NamedLine) (l : NamedLine) (x y : Act) → logs_for x.session l ≡ true → x.rank ≡ logged_in before x.session + 1 → IsBehind (before ++ l ∷ []) y → IsApart y x
later-apart before l x y own rank behind tie =
    let same = tied-rank y x tie in
    let low : logged_in (before ++ l ∷ []) x.session < x.rank = subst (λ s. logged_in (before ++ l ∷ []) s < x.rank) same.1 (subst (λ r. logged_in (before ++ l ∷ []) y.session < r) same.0 behind) in
    let one : ◌≡◌ {A = ℕ} (cond (logs_for x.session l) 1 0) 1 = ap (λ b. cond b 1 0) own in
    omega (arith, low, one-line before l x.session)

head-apart : (before : List NamedLine) (l : NamedLine) (q : Asks) (w : Outcome) (acts : List Act) → l.asks ≡ q → has_rank before q ≡ true → AllByRecursion (IsBehind (before ++ l ∷ [])) acts → AllApart acts → AllApart (act_of q w ++ acts)
head-apart before l (asks.Logged s r c) (out.Placed p reply late) acts is e behind apart =
    let x : Act = record { place = p; session = s.id; rank = r; command = Some c; reply = reply } in
    let own : logs_for s.id l ≡ true = ap (is_of s.id) is ∙ eq-eqb s.id s.id refl in
    (all-imply (IsBehind (before ++ l ∷ [])) (λ y. IsApart y x) acts (λ y h. later-apart before l x y own (eqb-true r (logged_in before s.id + 1) e) h) behind, apart)
head-apart before l (asks.Logged s r c) w acts is e behind apart = apart
head-apart before l (asks.Look s q) w acts is e behind apart = apart
head-apart before l (asks.Admin a) w acts is e behind apart = apart

pub told-apart : (before lines : List NamedLine) (rows : List Row) → are_ranked before lines ≡ true → AllApart (acts_told lines rows)
told-apart before [] rows e = tt
told-apart before (l ∷ ls) [] e = tt
told-apart before (l ∷ ls) (r ∷ rs) e =
    let h = and_parts (has_rank before l.asks) (are_ranked (before ++ l ∷ []) ls) e in
    head-apart before l l.asks r.outcome (acts_told ls rs) refl h.0 (told-behind (before ++ l ∷ []) ls rs h.1) (told-apart (before ++ l ∷ []) ls rs h.1)
