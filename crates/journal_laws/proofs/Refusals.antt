-- Each operation that was refused as full was counted, and the loglet is full still.
use Rattle.std.proofs.Common.{◌≡◌, refl, sym, ap, ◌∙◌, subst, ◌⊎◌, inl, inr, ℕ, ◌+◌, ◌-◌, ◌^◌, ◌≤◌, min, cond, Bool, true, false, List, [], ◌∷◌, Option, Some, None, arith}
use Rattle.std.specs.Prelude.{◌==◌, Contains, count_by}
use Rattle.std.proofs.lemmas.List.Elements.{All-contains}
use Rattle.delos_types.specs.declared.cause.Cause.{Cause}
use Rattle.delos_types.specs.declared.cause.Cause.TheVariants as cause
use Rattle.loglet_api.specs.declared.call.Op.{Op}
use Rattle.loglet_api.specs.declared.call.Refused.TheVariants as refused
use Rattle.loglet_api.specs.declared.call.LogletCall.TheVariants as call
use Rattle.loglet_api.specs.declared.call.LogletAnswer.TheVariants as answer
use Rattle.loglet_api.specs.View.{LogletView, size_of}
use Rattle.loglet_api.specs.Sound.{IsSound}
use Rattle.loglet_api.specs.Step.{LogletStep, IsFull}
use Rattle.loglet_api.specs.Run.{LogletRun}
use Rattle.loglet_api.proofs.Keeps.{run_keeps}
use Rattle.legal_journal.specs.declared.events.Event.{Event}
use Rattle.legal_journal.specs.declared.events.FabricCall.{FabricCall}
use Rattle.legal_journal.specs.declared.events.FabricCall.TheVariants.{Begin}
use Rattle.legal_journal.specs.declared.events.FabricAnswer.{FabricAnswer}
use Rattle.legal_journal.specs.declared.events.FabricAnswer.TheVariants as fabric
use Rattle.fabric_core.specs.Runs.{LogletSteps, HasRun}
use Rattle.journal_laws.specs.Faults.{fault_of, faults_in, is_full_of}
use Rattle.journal_laws.proofs.Telling.{weight, full_at}
use Rattle.journal_laws.proofs.Running.{StepsAt, steps_on, run_counts, run_leaves}
use Rattle.journal_laws.proofs.Lacks.{itself, same}

-- the step that refuses it
record Refuses (old new : LogletView) : Type 0 where
  pub op : Op
  pub step : LogletStep old (call.Begin op) (answer.Refusal refused.Full) new

refuses : (i : ℕ) (a : FabricAnswer) (c : FabricCall) (steps : LogletSteps) (old new : LogletView) → fault_of a c ≡ Some (cause.Full i) → StepsAt i a c steps → LogletRun old steps new → Refuses old new
refuses i a c steps old new tells at run =
    let f = full_at i a c tells in
    let called = subst (λ x. StepsAt i a x steps) f.called at in
    let answered = subst (λ x. StepsAt i x (Begin i f.op) steps) f.answered called in
    let is : steps ≡ (call.Begin f.op, answer.Refusal refused.Full) ∷ [] = steps_on i fabric.Full (Begin i f.op) steps (itself i) answered in
    let r = subst (λ s. LogletRun old s new) is run in
    record { op = f.op; step = subst (λ v. LogletStep old (call.Begin f.op) (answer.Refusal refused.Full) v) (sym r.2) r.1 }

-- so many more, up to the end of the count's type
abbrev Counted : ℕ → LogletView → LogletView → Type 0
Counted n old new = min (n + old.faults) (2 ^ 64 - 1) ≤ new.faults

each : (i : ℕ) (a : FabricAnswer) (c : FabricCall) (steps : LogletSteps) (old new : LogletView) → StepsAt i a c steps → LogletRun old steps new → Counted (weight (is_full_of i) (fault_of a c)) old new
each i a c steps old new at run = by (fault_of a c) refl
  where
    keeps : Counted 0 old new
    keeps = let k = (run_keeps old steps new run).faults in omega (arith, k)

    full : (j : ℕ) (b : Bool) → (j == i) ≡ b → fault_of a c ≡ Some (cause.Full j) → Counted (cond b 1 0) old new
    full j true e h =
        let r = refuses i a c steps old new (h ∙ ap (λ x. Some (cause.Full x)) (same i j e)) at run in
        let k = ap (λ (v : LogletView). v.faults) r.step.does.1 in
        omega (arith, k)
    full j false e h = keeps

    told : (d : Cause) → fault_of a c ≡ Some d → Counted (cond (is_full_of i d) 1 0) old new
    told (cause.Full j) h = full j (j == i) refl h
    told (cause.NoQuorum j u) h = keeps
    told cause.Meta h = keeps
    told cause.Store h = keeps

    by : (o : Option Cause) → fault_of a c ≡ o → Counted (weight (is_full_of i) o) old new
    by None h = keeps
    by (Some d) h = told d h

pub counted : (i : ℕ) (events : List Event) (now : LogletView) → HasRun i events now → min (count_by (is_full_of i) (faults_in events)) (2 ^ 64 - 1) ≤ now.faults
counted i events now h =
    let k = run_counts i (is_full_of i) Counted (λ v. omega arith) (λ n m a b c x y. omega (arith, x, y)) (each i) events h.opening now h.run in
    omega (arith, k)

-- It is full, and stays so.

record StaysFull (v : LogletView) : Type 0 where
  pub size : size_of v ≤ v.room
  pub begun : v.begun ≤ v.limit
  pub full : (size_of v ≡ v.room) ⊎ (v.begun ≡ v.limit)

full_step : (old new : LogletView) (op : Op) → IsFull old op → (size_of old ≡ old.room) ⊎ (old.begun ≡ old.limit)
full_step old new op (inl room) = inl room.1
full_step old new op (inr limit) = inr limit

refused_full : (old new : LogletView) → Refuses old new → StaysFull new
refused_full old new r =
    record {
      size = r.step.after.size;
      begun = r.step.after.begun;
      full = (let e = r.step.does.1 in
          subst (λ (v : LogletView). (size_of v ≡ v.room) ⊎ (v.begun ≡ v.limit)) (sym e) (full_step old new r.op r.step.does.0));
    }

-- what holds where a run of steps ends
sound_run : (steps : LogletSteps) (old new : LogletView) → LogletRun old steps new → (new ≡ old) ⊎ IsSound new
sound_run [] old new run = inl run
sound_run (step ∷ steps) old new run = elim (sound_run steps run.0 new run.2) [ inl e ↦ inr (subst IsSound (sym e) run.1.after) | inr s ↦ inr s ]

full_run : (steps : LogletSteps) (old new : LogletView) → LogletRun old steps new → StaysFull old → StaysFull new
full_run steps old new run h =
    elim (sound_run steps old new run) [
      | inl e ↦ subst StaysFull (sym e) h
      | inr s ↦ record { size = s.size; begun = s.begun; full = still s.size s.begun h.full }
    ]
  where
    still : size_of new ≤ new.room → new.begun ≤ new.limit → (size_of old ≡ old.room) ⊎ (old.begun ≡ old.limit) → (size_of new ≡ new.room) ⊎ (new.begun ≡ new.limit)
    still size begun (inl e) = let k = run_keeps old steps new run in inl (omega (arith, size, e, k.size, k.room))
    still size begun (inr e) = let k = run_keeps old steps new run in inr (omega (arith, begun, e, k.begun, k.limit))

-- what such a refusal leaves
abbrev Leaves : ℕ → LogletView → Cause → Type 0
Leaves i v c = c ≡ cause.Full i → StaysFull v

leaves : (i : ℕ) (a : FabricAnswer) (c : FabricCall) (steps : LogletSteps) (old new : LogletView) (d : Cause) → StepsAt i a c steps → LogletRun old steps new → fault_of a c ≡ Some d → Leaves i new d
leaves i a c steps old new d at run tells is = refused_full old new (refuses i a c steps old new (tells ∙ ap (λ x. Some x) is) at run)

pub full_still : (i : ℕ) (events : List Event) (now : LogletView) → HasRun i events now → Contains (faults_in events) (cause.Full i) → (size_of now ≡ now.room) ⊎ (now.begun ≡ now.limit)
full_still i events now h has =
    let all = run_leaves i (λ _. Unit {0}) (Leaves i) (λ a c steps old new at run s. tt) (λ a c steps old new d at run s. leaves i a c steps old new d at run) (λ steps old new d run q is. full_run steps old new run (q is)) events h.opening now h.run tt in
    (All-contains (Leaves i now) (faults_in events) (cause.Full i) all has refl).full
