-- Where too few servers of a loglet were reached, so many weren't as may leave an operation without its answer, and no more than it has.
use Rattle.std.proofs.Common.{◌≡◌, refl, sym, ap, ◌∙◌, subst, ⊎_elim, inl, inr, ℕ, ◌≤◌, List, [], ◌∷◌, Option, Some, None, arith, eq-eqb}
use Rattle.std.specs.Prelude.{Contains, MatchBool}
use Rattle.std.proofs.lemmas.List.Elements.{Contains-append_cases, filter_map-append}
use Rattle.delos_types.specs.declared.cause.Cause.{Cause}
use Rattle.delos_types.specs.declared.cause.Cause.TheVariants as cause
use Rattle.loglet_api.specs.declared.call.Task.{Task}
use Rattle.loglet_api.specs.declared.call.Task.TheVariants.{Placing, Settling, Finding, Sealing, Reading, Trimming}
use Rattle.loglet_api.specs.declared.call.Answer.TheVariants as answers
use Rattle.loglet_api.specs.declared.call.LogletCall.TheVariants as call
use Rattle.loglet_api.specs.declared.call.LogletAnswer.TheVariants as answer
use Rattle.loglet_api.specs.View.{LogletView, Operation}
use Rattle.loglet_api.specs.Step.{IsLack, LogletStep, MayAnswer}
use Rattle.loglet_api.specs.Run.{LogletRun}
use Rattle.loglet_api.proofs.Keeps.{run_keeps}
use Rattle.legal_journal.specs.declared.events.Event.{Event}
use Rattle.legal_journal.specs.declared.events.FabricCall.{FabricCall}
use Rattle.legal_journal.specs.declared.events.FabricCall.TheVariants.{Begin, Carry}
use Rattle.legal_journal.specs.declared.events.FabricAnswer.{FabricAnswer}
use Rattle.legal_journal.specs.declared.events.FabricAnswer.TheVariants as fabric
use Rattle.fabric_core.specs.Runs.{CarriesFirst, CellRun, HasRun, LogletSteps, StepsOf, is_on}
use Rattle.journal_laws.specs.Faults.{fault_of, faults_in}
use Rattle.run_laws.proofs.Members.{Among, contained-among}

abbrev IsOfServers : ℕ → LogletView → Type 0
IsOfServers u v = (v.quorum ≤ u) × (u ≤ v.servers)

-- The event that tells it

record IsLackAt (i u : ℕ) (c : FabricCall) (a : FabricAnswer) : Type 0 where
  pub ticket : ℕ
  pub word : ℕ
  pub called : c ≡ Carry i ticket word
  pub answered : a ≡ fabric.Done (answers.NoQuorum u)

same_lack : (i u j v : ℕ) → Some (cause.NoQuorum j v) ≡ Some (cause.NoQuorum i u) → (j ≡ i) × (v ≡ u)
same_lack i u j v h = (cc, cc)

lack_at : (i u : ℕ) (a : FabricAnswer) (c : FabricCall) → fault_of a c ≡ Some (cause.NoQuorum i u) → IsLackAt i u c a
lack_at i u (fabric.Done (answers.NoQuorum v)) (Carry j t word) h =
    let same = same_lack i u j v h in
    record { ticket = t; word = word; called = ap (λ x. Carry x t word) same.0; answered = ap (λ x. fabric.Done (answers.NoQuorum x)) same.1 }
lack_at i u fabric.Full (Begin j op) h = absurd (cc)
lack_at i u a c h = absurd (cc)

-- the only fault of an event
fault_is : (e : Event) (k : Cause) → Among (faults_in (e ∷ [])) k → fault_of e.answer e.call ≡ Some k
fault_is e k m = by (fault_of e.answer e.call) refl m
  where
    only : (c : Cause) → Among (c ∷ []) k → c ≡ k
    only c (inl same) = same
    only c (inr none) = absurd none

    by : (o : Option Cause) → fault_of e.answer e.call ≡ o → Among (faults_in (e ∷ [])) k → fault_of e.answer e.call ≡ Some k
    by None is m = absurd (let none : Among [] k = rw is at m in none)
    by (Some c) is m = is ∙ ap (λ x. Some x) (only c (let one : Among (c ∷ []) k = rw is at m in one))

-- The step that takes it

may_lack : (v : LogletView) (o : Operation) (task : Task) (u : ℕ) → MayAnswer v o task (answers.NoQuorum u) → IsLack v o u
may_lack v o (Reading k) u m = m.2
may_lack v o Placing u m = m
may_lack v o (Settling k) u m = m
may_lack v o Finding u m = m
may_lack v o Sealing u m = m
may_lack v o (Trimming k) u m = m

step_tells : (t u : ℕ) (old new : LogletView) → LogletStep old (call.Take t) (answer.Taken (Some (answers.NoQuorum u))) new → IsOfServers u new
step_tells t u old new step =
    let lack = may_lack old step.does.operation step.does.operation.task u step.does.may in
    let k = run_keeps old ((call.Take t, answer.Taken (Some (answers.NoQuorum u))) ∷ []) new (new, step, refl) in
    let enough = lack.enough in
    let there = lack.servers in
    let quorum = k.quorum in
    let servers = k.servers in
    (omega (arith, enough, quorum), omega (arith, there, servers))

run_tells : (t word u : ℕ) (steps : LogletSteps) (old new : LogletView) → CarriesFirst t word ((call.Take t, answer.Taken (Some (answers.NoQuorum u))) ∷ []) steps → LogletRun old steps new → IsOfServers u new
run_tells t word u steps old new (inl is) run =
    let r = subst (λ s. LogletRun old s new) is run in
    step_tells t u r.0 new (subst (λ v. LogletStep r.0 (call.Take t) (answer.Taken (Some (answers.NoQuorum u))) v) (sym r.2.2) r.2.1)
run_tells t word u steps old new (inr is) run =
    let r = subst (λ s. LogletRun old s new) is run in
    step_tells t u old new (subst (λ v. LogletStep old (call.Take t) (answer.Taken (Some (answers.NoQuorum u))) v) (sym r.2) r.1)

-- so it is where an event of the loglet's tells it
event_tells : (i u : ℕ) (a : FabricAnswer) (c : FabricCall) (steps : LogletSteps) (old new : LogletView) → MatchBool (is_on i c) (StepsOf c a steps) (steps ≡ []) → LogletRun old steps new → fault_of a c ≡ Some (cause.NoQuorum i u) → IsOfServers u new
event_tells i u a c steps old new at run tells =
    let l = lack_at i u a c tells in
    let called = subst (λ x. MatchBool (is_on i x) (StepsOf x a steps) (steps ≡ [])) l.called at in
    let answered = subst (λ x. MatchBool (is_on i (Carry i l.ticket l.word)) (StepsOf (Carry i l.ticket l.word) x steps) (steps ≡ [])) l.answered called in
    let taken = subst (λ b. MatchBool b (StepsOf (Carry i l.ticket l.word) (fabric.Done (answers.NoQuorum u)) steps) (steps ≡ [])) (eq-eqb i i refl) answered in
    run_tells l.ticket l.word u steps old new taken run

-- and later
stays : (i u : ℕ) (es : List Event) (old new : LogletView) → CellRun i old es new → IsOfServers u old → IsOfServers u new
stays i u [] old new run h = subst (IsOfServers u) (sym run) h
stays i u (e ∷ es) old new run h =
    let k = run_keeps old run.1.0 run.0 run.1.2 in
    let quorum = k.quorum in
    let servers = k.servers in
    let enough = h.0 in
    let there = h.1 in
    stays i u es run.0 new run.2 (omega (arith, quorum, enough), omega (arith, servers, there))

none_in : {X : Type 0} (x : X) → Contains [] x → ⊥
none_in x h = omega (arith, h.1)

all_tell : (i u : ℕ) (es : List Event) (old new : LogletView) → CellRun i old es new → Contains (faults_in es) (cause.NoQuorum i u) → IsOfServers u new
all_tell i u [] old new run has = absurd (none_in (cause.NoQuorum i u) has)
all_tell i u (e ∷ es) old new run has =
    ⊎_elim
    (λ (here : Contains (faults_in (e ∷ [])) (cause.NoQuorum i u)).
    stays i u es run.0 new run.2 (event_tells i u e.answer e.call run.1.0 old run.0 run.1.1 run.1.2 (fault_is e (cause.NoQuorum i u) (contained-among (faults_in (e ∷ [])) (cause.NoQuorum i u) here))))
    (λ (later : Contains (faults_in es) (cause.NoQuorum i u)). all_tell i u es run.0 new run.2 later)
    (Contains-append_cases (faults_in (e ∷ [])) (faults_in es) (cause.NoQuorum i u) (subst (λ ks. Contains ks (cause.NoQuorum i u)) (filter_map-append (λ (x : Event). fault_of x.answer x.call) (e ∷ []) es) has))

pub lack_of_servers : (i unreached : ℕ) (events : List Event) (now : LogletView) → HasRun i events now → Contains (faults_in events) (cause.NoQuorum i unreached) → IsOfServers unreached now
lack_of_servers i u events now h has = all_tell i u events h.opening now h.run has
