-- What follows where no fault came.
use Rattle.std.proofs.Common.{◌≡◌, refl, sym, ap, ◌∙◌, subst, ⊎_elim, ℕ, zero, suc, ◌≤◌, ◌==◌, Bool, true, false, not, List, [], ◌∷◌, ◌++◌, Option, Some, Contains, cond, count_by, slice_get, arith}
use Rattle.std.proofs.lemmas.List.Elements.{filter_map-append}
use Rattle.delos_types.specs.declared.cause.Cause.{Cause}
use Rattle.delos_types.specs.declared.cause.Cause.TheVariants as cause
use Rattle.legal_journal.specs.Law.{Law}
use Rattle.legal_journal.specs.declared.events.Event.{Event}
use Rattle.legal_journal.specs.Journal.{IsLegal, state_of, trim_of}
use Rattle.journal_laws.specs.Changes.{TrimsUpTo, raised}
use Rattle.journal_laws.proofs.Changes.{trim_raised}
use Rattle.journal_laws.specs.Faults.{fault_of, faults_in}
use Rattle.journal_laws.specs.Own.{own, faults_of}
use Rattle.virtual_log.specs.Turning as turning
use Rattle.virtual_log.specs.Turning.{OnlyOwn}
use Rattle.turn_scopes.specs.Alone.{AreOwn, OwnSince}
use Rattle.script_text.specs.declared.asks.NamedLine.{NamedLine}
use Rattle.node_lines.specs.Moving.{is_store, Spends}
use Rattle.node_lines.specs.declared.lines.Looked.{Looked}
use Rattle.node_lines.specs.declared.lines.Looked.TheVariants as looked
use Rattle.node_lines.proofs.Spending.{all-events}
use Rattle.run_laws.specs.Ended.{pays}
use Rattle.node_course.specs.Script.{failure_of_look, failed_looks}
use Rattle.node_course.proofs.Lines.{count-cons}

are_own : (who : ℕ) (es : List Event) → AreOwn who es → turning.AreOwn who es
are_own who [] h = tt
are_own who (e ∷ es) h = (h.0, are_own who es h.1)

pub only_own : (who : ℕ) (old new : List Event) → OwnSince who old new → OnlyOwn who old new
only_own who old new s = record { more = s.more; seen = s.seen; own = are_own who s.more s.own }

parts : (xs ys : List Cause) → xs ++ ys ≡ [] → (xs ≡ []) × (ys ≡ [])
parts [] ys e = (refl, e)
parts (x ∷ xs) ys e = absurd (cc)

-- no fault was told before where none is told later
pub none_before : (old new more : List Event) → new ≡ old ++ more → faults_in new ≡ [] → (faults_in old ≡ []) × (faults_in more ≡ [])
none_before old new more seen none = parts (faults_in old) (faults_in more) (sym (filter_map-append (λ (e : Event). fault_of e.answer e.call) old more) ∙ (ap faults_in (sym seen) ∙ none))

-- nor any by one user
pub none_of : (who : ℕ) (es : List Event) → faults_in es ≡ [] → faults_of who es ≡ []
none_of who [] none = refl
none_of who (e ∷ es) none = by (e.who == who) (none_of who es split.1)
  where
    split : (faults_in (e ∷ []) ≡ []) × (faults_in es ≡ [])
    split = none_before (e ∷ []) (e ∷ es) es refl none

    by : (b : Bool) → faults_in (own who es) ≡ [] → faults_in (cond b (e ∷ own who es) (own who es)) ≡ []
    by true rest = filter_map-append (λ (x : Event). fault_of x.answer x.call) (e ∷ []) (own who es) ∙ (ap (λ l. l ++ faults_in (own who es)) split.0 ∙ rest)
    by false rest = rest

-- no cause came of its own where no fault is told, nor counted by the disk
pub no_causes : (who : ℕ) (old new : List Event) (before after : ℕ) (causes : List Cause) → Spends who old new before after causes → faults_in new ≡ [] → 1 ≤ before → after ≤ 1 → causes ≡ []
no_causes who old new before after [] s none low calm = refl
no_causes who old new before after (c ∷ cs) s none low calm = absurd (by c s)
  where
    one : (P : Cause → Bool) (k : Cause) → P k ≡ true → 1 ≤ count_by P (k ∷ cs)
    one P k is =
        let parts = count-cons P k cs in
        let first : cond (P k) 1 0 ≡ 1 = ap {B = ℕ} (λ b. cond b 1 0) is in
        omega (arith, parts, first)

    told : (P : Cause → Bool) (k : Cause) → Spends who old new before after (k ∷ cs) → P cause.Store ≡ false → P k ≡ true → ⊥
    told P k s store is =
        let less = all-events s P store in
        let zero : count_by P (faults_in s.more) ≡ 0 = ap (count_by P) (none_before old new s.more s.seen none).1 in
        let some = one P k is in
        omega (arith, less, zero, some)

    by : (k : Cause) → Spends who old new before after (k ∷ cs) → ⊥
    by (cause.NoQuorum id unreached) s = told (λ k. not (is_store k)) (cause.NoQuorum id unreached) s refl refl
    by (cause.Full id) s = told (λ k. not (is_store k)) (cause.Full id) s refl refl
    by cause.Meta s = told (λ k. not (is_store k)) cause.Meta s refl refl
    by cause.Store s =
        let rises = s.disk in
        let some = one is_store cause.Store refl in
        omega (arith, rises, low, calm, some)

-- the log isn't trimmed above what no chain's trim is above
pub trim_low : (law : Law) (m : ℕ) (seen : List Event) → IsLegal law seen → TrimsUpTo m seen → trim_of (state_of seen) ≤ m
trim_low law m seen legal low = ⊎_elim (λ (none : trim_of (state_of seen) ≡ 0). omega (arith, none))
    (λ (h : Contains (raised seen) (trim_of (state_of seen))). low (trim_of (state_of seen)) h)
    (trim_raised law seen legal)

-- Lines that failed

counted : (by : Cause → Bool) (k : Cause) → by k ≡ true → count_by (pays by) (Some k ∷ []) ≡ 1
counted by k is =
    let parts = count-cons (pays by) (Some k) [] in
    let one : cond (by k) 1 0 ≡ 1 = ap {B = ℕ} (λ b. cond b 1 0) is in
    omega (arith, parts, one)

-- a line that failed was counted
pub failed_one : (by : ℕ → Cause → Bool) (l : NamedLine) (k : Cause) → by l.node k ≡ true → (lines : List NamedLine) (looks : List (Option Looked)) (i : ℕ) → slice_get lines i ≡ Some l → slice_get looks i ≡ Some (Some (looked.Failed k)) → 1 ≤ failed_looks by lines looks
failed_one by l k is [] looks i at look = absurd (cc)
failed_one by l k is (m ∷ lines) [] i at look = absurd (cc)
failed_one by l k is (m ∷ lines) (x ∷ looks) zero at look =
    let here : l ≡ m = cc in
    let that : Some (looked.Failed k) ≡ x = cc in
    let one = subst (λ y. count_by (pays (by m.node)) (failure_of_look y ∷ []) ≡ 1) that (counted (by m.node) k (subst (λ (y : NamedLine). by y.node k ≡ true) here is)) in
    omega (arith, one)
failed_one by l k is (m ∷ lines) (x ∷ looks) (suc i) at look = let rest = failed_one by l k is lines looks i at look in omega (arith, rest)
