-- Each answer by which too few servers were reached was counted.
use Rattle.std.proofs.Common.{◌≡◌, refl, sym, ap, ◌∙◌, subst, inl, inr, ℕ, ◌+◌, ◌≤◌, cond, Bool, true, false, List, [], ◌∷◌, Option, Some, None, arith}
use Rattle.std.specs.Prelude.{◌==◌, count_by}
use Rattle.std.proofs.lemmas.Bool.Decides.{nat_tests}
use Rattle.delos_types.specs.declared.cause.Cause.{Cause}
use Rattle.delos_types.specs.declared.cause.Cause.TheVariants as cause
use Rattle.loglet_api.specs.declared.call.Answer.TheVariants as answers
use Rattle.loglet_api.specs.declared.call.LogletCall.TheVariants as call
use Rattle.loglet_api.specs.declared.call.LogletAnswer.TheVariants as answer
use Rattle.loglet_api.specs.View.{LogletView}
use Rattle.loglet_api.specs.Step.{LogletStep}
use Rattle.loglet_api.specs.Run.{LogletRun}
use Rattle.loglet_api.proofs.Keeps.{run_keeps}
use Rattle.legal_journal.specs.declared.events.Event.{Event}
use Rattle.legal_journal.specs.declared.events.FabricCall.{FabricCall}
use Rattle.legal_journal.specs.declared.events.FabricCall.TheVariants.{Carry}
use Rattle.legal_journal.specs.declared.events.FabricAnswer.{FabricAnswer}
use Rattle.legal_journal.specs.declared.events.FabricAnswer.TheVariants as fabric
use Rattle.fabric_core.specs.Runs.{LogletSteps, CarriesFirst, HasRun}
use Rattle.journal_laws.specs.Faults.{fault_of, faults_in, is_lack_of}
use Rattle.journal_laws.proofs.Telling.{weight, lack_at}
use Rattle.journal_laws.proofs.Running.{StepsAt, steps_on, run_counts}

pub itself : (i : ℕ) → (i == i) ≡ true
itself i = grind (arith, nat_tests)

pub same : (i j : ℕ) → (j == i) ≡ true → j ≡ i
same i j h = grind (arith, nat_tests, h)

-- the steps of an event by which too few servers were reached
pub lack_steps : (i u : ℕ) (a : FabricAnswer) (c : FabricCall) (steps : LogletSteps) → fault_of a c ≡ Some (cause.NoQuorum i u) → StepsAt i a c steps
    → (t word : ℕ) × CarriesFirst t word ((call.Take t, answer.Taken (Some (answers.NoQuorum u))) ∷ []) steps
lack_steps i u a c steps tells at =
    let l = lack_at i u a c tells in
    let called = subst (λ x. StepsAt i a x steps) l.called at in
    let answered = subst (λ x. StepsAt i x (Carry i l.ticket l.word) steps) l.answered called in
    (l.ticket, l.word, steps_on i (fabric.Done (answers.NoQuorum u)) (Carry i l.ticket l.word) steps (itself i) answered)

-- the step that takes it
pub record TakesLack (t u : ℕ) (old new : LogletView) : Type 0 where
  pub mid : LogletView
  pub steps : LogletSteps
  pub before : LogletRun old steps mid
  pub step : LogletStep mid (call.Take t) (answer.Taken (Some (answers.NoQuorum u))) new

pub takes : (t word u : ℕ) (steps : LogletSteps) (old new : LogletView) → CarriesFirst t word ((call.Take t, answer.Taken (Some (answers.NoQuorum u))) ∷ []) steps → LogletRun old steps new → TakesLack t u old new
takes t word u steps old new (inl is) run =
    let r = subst (λ s. LogletRun old s new) is run in
    record {
      mid = r.0;
      steps = (call.Carry t word, answer.Carried) ∷ [];
      before = (r.0, r.1, refl);
      step = subst (λ v. LogletStep r.0 (call.Take t) (answer.Taken (Some (answers.NoQuorum u))) v) (sym r.2.2) r.2.1;
    }
takes t word u steps old new (inr is) run =
    let r = subst (λ s. LogletRun old s new) is run in
    record {
      mid = old;
      steps = [];
      before = refl;
      step = subst (λ v. LogletStep old (call.Take t) (answer.Taken (Some (answers.NoQuorum u))) v) (sym r.2) r.1;
    }

-- it is counted
pub taken_counted : (t u : ℕ) (old new : LogletView) → TakesLack t u old new → old.lacks + 1 ≤ new.lacks
taken_counted t u old new h =
    let before = (run_keeps old h.steps h.mid h.before).lacks in
    let e = ap (λ (v : LogletView). v.lacks) h.step.does.rest in
    omega (arith, before, e)

each : (i : ℕ) (a : FabricAnswer) (c : FabricCall) (steps : LogletSteps) (old new : LogletView) → StepsAt i a c steps → LogletRun old steps new → weight (is_lack_of i) (fault_of a c) + old.lacks ≤ new.lacks
each i a c steps old new at run = by (fault_of a c) refl
  where
    keeps : 0 + old.lacks ≤ new.lacks
    keeps = let k = (run_keeps old steps new run).lacks in omega (arith, k)

    lack : (j u : ℕ) (b : Bool) → (j == i) ≡ b → fault_of a c ≡ Some (cause.NoQuorum j u) → cond b 1 0 + old.lacks ≤ new.lacks
    lack j u true e h =
        let s = lack_steps i u a c steps (h ∙ ap (λ x. Some (cause.NoQuorum x u)) (same i j e)) at in
        let k = taken_counted s.0 u old new (takes s.0 s.1 u steps old new s.2 run) in
        omega (arith, k)
    lack j u false e h = keeps

    told : (d : Cause) → fault_of a c ≡ Some d → cond (is_lack_of i d) 1 0 + old.lacks ≤ new.lacks
    told (cause.NoQuorum j u) h = lack j u (j == i) refl h
    told (cause.Full j) h = keeps
    told cause.Meta h = keeps
    told cause.Store h = keeps

    by : (o : Option Cause) → fault_of a c ≡ o → weight (is_lack_of i) o + old.lacks ≤ new.lacks
    by None h = keeps
    by (Some d) h = told d h

abbrev Counted : ℕ → LogletView → LogletView → Type 0
Counted n old new = n + old.lacks ≤ new.lacks

pub counted : (i : ℕ) (events : List Event) (now : LogletView) → HasRun i events now → count_by (is_lack_of i) (faults_in events) ≤ now.lacks
counted i events now h =
    let k = run_counts i (is_lack_of i) Counted (λ v. omega arith) (λ n m a b c x y. omega (arith, x, y)) (each i) events h.opening now h.run in
    omega (arith, k)
