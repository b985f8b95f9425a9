-- How far the chain of a run goes, by the lines of its nodes.
use Rattle.std.proofs.Common.{◌≡◌, refl, sym, ap, ◌∙◌, subst, ℕ, ◌+◌, ◌≤◌, ◌==◌, ◌&&◌, Bool, true, false, cond, List, [], ◌∷◌, ◌++◌, Option, length, count_by, Contains, arith, eq-eqb}
use Rattle.std.proofs.lemmas.List.Elements.{Contains-append_left, Contains-append_right, Contains-push, filter_map-append}
use Rattle.chain_map.specs.Chain.{last_id}
use Rattle.legal_journal.specs.Law.{Law}
use Rattle.legal_journal.specs.declared.events.Event.{Event}
use Rattle.legal_journal.specs.Journal.{state_of, trim_of}
use Rattle.legal_journal.specs.Sealing.{begins_seal, own_seals}
use Rattle.journal_laws.specs.Faults.{fault_of, faults_in}
use Rattle.journal_laws.specs.Own.{own, faults_of}
use Rattle.journal_laws.proofs.Reaching.{as_far}
use Rattle.script_text.specs.declared.asks.NamedLine.{NamedLine}
use Rattle.fitting_run.specs.Replacements.{goes_by_ones}
use Rattle.turn_scopes.proofs.Seals.{own_seals-cons}
use Rattle.node_lines.specs.declared.lines.Looked.{Looked}
use Rattle.node_course.specs.Moments.{NodeCourse}
use Rattle.node_course.specs.Played.{goes_further, went_further}
use Rattle.node_course.specs.Joined.{AreJoined}
use Rattle.node_course.proofs.Lines.{count-cons}
use Rattle.node_course.proofs.Parts.{run_legal}
use Rattle.node_course.proofs.Whole.{journal_counted, journal_whole}
use Rattle.node_course.proofs.Totals.{total, total_add, total_has, total_less, total_none, total_one}

nil_parts : {A : Type 0} (xs ys : List A) → xs ++ ys ≡ [] → (xs ≡ []) × (ys ≡ [])
nil_parts [] ys e = (refl, e)
nil_parts (x ∷ xs) ys e = absurd (cc)

-- where no fault came to anybody, none came to a node
pub calm_own : (n : ℕ) (es : List Event) → faults_in es ≡ [] → faults_of n es ≡ []
calm_own n [] calm = refl
calm_own n (e ∷ es) calm =
    let parts = nil_parts (faults_in (e ∷ [])) (faults_in es) (sym (filter_map-append (λ (x : Event). fault_of x.answer x.call) (e ∷ []) es) ∙ calm) in
    by (e.who == n) parts.0 (calm_own n es parts.1)
  where
    by : (b : Bool) → faults_in (e ∷ []) ≡ [] → faults_of n es ≡ [] → faults_in (cond b (e ∷ own n es) (own n es)) ≡ []
    by true here rest = filter_map-append (λ (x : Event). fault_of x.answer x.call) (e ∷ []) (own n es) ∙ (ap (λ l. l ++ faults_in (own n es)) here ∙ rest)
    by false here rest = rest

-- Where only nodes begin Seals, each is one of a node's.
seals_total : (nodes : ℕ) (es : List Event) → ((e : Event) → Contains es e → begins_seal e ≡ true → (1 ≤ e.who) × (e.who ≤ nodes)) → count_by begins_seal es ≤ total (λ n. own_seals n es) nodes
seals_total nodes [] there = omega arith
seals_total nodes (e ∷ es) there =
    let a = count-cons begins_seal e es in
    let b = total_add (λ n. cond (begins_seal e && (e.who == n)) 1 0) (λ n. own_seals n es) (λ n. own_seals n (e ∷ es)) nodes (λ n. own_seals-cons n e es) in
    let rest = seals_total nodes es (λ x h. there x (Contains-append_right (e ∷ []) es x h)) in
    let here = of (begins_seal e) refl in
    omega (arith, a, b, rest, here)
  where
    of : (s : Bool) → begins_seal e ≡ s → cond (begins_seal e) 1 0 ≤ total (λ n. cond (begins_seal e && (e.who == n)) 1 0) nodes
    of false is = let none : ◌≡◌ {A = ℕ} (cond (begins_seal e) 1 0) 0 = ap {B = ℕ} (λ t. cond t 1 0) is in omega (arith, none)
    of true is =
        let who = there e (Contains-append_left (e ∷ []) es e (Contains-push [] e)) is in
        let has = total_has (λ n. cond (begins_seal e && (e.who == n)) 1 0) nodes e.who who.0 who.1 in
        let one : ◌≡◌ {A = ℕ} (cond (begins_seal e && (e.who == e.who)) 1 0) 1 = ap {B = ℕ} (λ t. cond (t && (e.who == e.who)) 1 0) is ∙ ap {B = ℕ} (λ t. cond t 1 0) (eq-eqb e.who e.who refl) in
        let same : ◌≡◌ {A = ℕ} (cond (begins_seal e) 1 0) 1 = ap {B = ℕ} (λ t. cond t 1 0) is in
        omega (arith, has, one, same)

-- each line is of one node at most
further_total : (nodes : ℕ) (lines : List NamedLine) (looks : List (Option Looked)) → total (λ n. went_further n lines looks) nodes ≤ count_by goes_further looks
further_total nodes [] looks = let none = total_none (λ n. went_further n [] looks) nodes (λ n least most. refl) in omega (arith, none)
further_total nodes (l ∷ lines) [] = let none = total_none (λ n. went_further n (l ∷ lines) []) nodes (λ n least most. refl) in omega (arith, none)
further_total nodes (l ∷ lines) (k ∷ looks) =
    let a = count-cons goes_further k looks in
    let b = total_add (λ n. cond ((l.node == n) && goes_further k) 1 0) (λ n. went_further n lines looks) (λ n. went_further n (l ∷ lines) (k ∷ looks)) nodes (λ n. refl) in
    let one = total_one l.node nodes (goes_further k) in
    let rest = further_total nodes lines looks in
    omega (arith, a, b, one, rest)

module _ (law : Law) (lines : List NamedLine) (home : ℕ → ℕ) (nodes : ℕ) (run : NodeCourse) (looks : List (Option Looked)) (courses : ℕ → NodeCourse) (join : AreJoined law lines home nodes run looks courses) where
  pub each_told : (n : ℕ) → 1 ≤ n → n ≤ nodes → went_further n lines looks ≤ last_id (state_of run.seen).register.chain
  each_told n least most = subst (λ l. went_further n lines looks ≤ last_id (state_of l).register.chain) (join.part n least most).seen (join.did n least most).replaced.ids

  pub all_told : 1 ≤ nodes → ((e : Event) → Contains run.seen e → begins_seal e ≡ true → (1 ≤ e.who) × (e.who ≤ nodes)) → faults_in run.seen ≡ [] → last_id (state_of run.seen).register.chain ≤ count_by goes_further looks
  all_told some there calm =
      let far = as_far law run.seen (run_legal law lines home nodes run looks courses join some) in
      let seals = seals_total nodes run.seen there in
      let each = total_less (λ n. own_seals n run.seen) (λ n. went_further n lines looks) nodes
      (λ n least most.
      subst (λ l. faults_of n l ≡ [] → own_seals n l ≤ went_further n lines looks) (join.part n least most).seen (join.did n least most).seals (calm_own n run.seen calm)) in
      let all = further_total nodes lines looks in
      omega (arith, far, seals, each, all)

  pub all_segments : 1 ≤ nodes → trim_of (state_of run.seen) ≡ 0 → length (state_of run.seen).register.chain.segments ≡ last_id (state_of run.seen).register.chain + 1
  all_segments some none = journal_whole law run.seen (run_legal law lines home nodes run looks courses join some) none

  pub all_counted : 1 ≤ nodes → goes_by_ones (state_of run.seen).register.version (state_of run.seen).register.chain ≡ true
  all_counted some = journal_counted law run.seen (run_legal law lines home nodes run looks courses join some)
