-- Where no fault was counted, no server is down, and none was as an open operation began. So a lack of servers comes of a
-- fault.
use Rattle.std.proofs.Common.{◌≡◌, refl, sym, ap, ◌∙◌, subst, ◌⊎◌, inl, inr, ℕ, zero, suc, ◌≤◌, nat_eq, List, [], ◌∷◌, Option, Some, None, arith}
use Rattle.std.specs.Prelude.{Contains}
use Rattle.std.proofs.lemmas.Bool.{cases_Bool}
use Rattle.std.proofs.lemmas.List.Elements.{All-contains}
use Rattle.delos_types.specs.declared.cause.Cause.{Cause}
use Rattle.delos_types.specs.declared.cause.Cause.TheVariants as cause
use Rattle.loglet_api.specs.declared.call.Task.{Task}
use Rattle.loglet_api.specs.declared.call.Task.TheVariants.{Placing, Settling, Finding, Sealing, Reading, Trimming}
use Rattle.loglet_api.specs.declared.call.Answer.TheVariants as answers
use Rattle.loglet_api.specs.declared.call.Refused.TheVariants.{Full, Memory}
use Rattle.loglet_api.specs.declared.call.LogletCall.{LogletCall}
use Rattle.loglet_api.specs.declared.call.LogletCall.TheVariants as call
use Rattle.loglet_api.specs.declared.call.LogletAnswer.{LogletAnswer}
use Rattle.loglet_api.specs.declared.call.LogletAnswer.TheVariants as answer
use Rattle.loglet_api.specs.View.{LogletView, Operation, operation_at, IsFresh}
use Rattle.loglet_api.specs.Step.{Does, Moves, Advances, PutsOperation, MayAnswer, IsLack, begun_operation}
use Rattle.loglet_api.specs.Run.{LogletRun}
use Rattle.loglet_api.proofs.Keeps.{run_keeps}
use Rattle.legal_journal.specs.declared.events.Event.{Event}
use Rattle.legal_journal.specs.declared.events.FabricCall.{FabricCall}
use Rattle.legal_journal.specs.declared.events.FabricAnswer.{FabricAnswer}
use Rattle.fabric_core.specs.Runs.{LogletSteps, HasRun}
use Rattle.journal_laws.specs.Faults.{fault_of, faults_in}
use Rattle.journal_laws.proofs.Running.{StepsAt, run_leaves}
use Rattle.journal_laws.proofs.Lacks.{TakesLack, lack_steps, takes, taken_counted}

-- no server was down as it began
abbrev BeganCalm : Option Operation → Type 0
BeganCalm None = Unit {0}
BeganCalm (Some o) = o.down ≡ 0

record Calm (v : LogletView) : Type 0 where
  pub down : v.faults ≡ 0 → v.down ≡ 0
  pub began : v.faults ≡ 0 → (t : ℕ) → BeganCalm (operation_at v.operations t)

-- Each step keeps that.

advanced : (x y : Option Operation) → Advances x y → BeganCalm x → BeganCalm y
advanced None None a h = h
advanced (Some x) (Some y) a h = ap (λ (o : Operation). o.down) a.0 ∙ h
advanced None (Some y) a h = absurd a
advanced (Some x) None a h = absurd a

put_calm : (old new : List (ℕ × Operation)) (u : ℕ) (o : Option Operation) → PutsOperation old u o new → BeganCalm o → ((t : ℕ) → BeganCalm (operation_at old t)) → (t : ℕ) → BeganCalm (operation_at new t)
put_calm old new u o puts here there t =
    let now = puts t in
    elim (cases_Bool (nat_eq u t)) [
      | inl same ↦ (let e : operation_at new t ≡ o = rw same at now in subst BeganCalm (sym e) here)
      | inr other ↦ (let e : operation_at new t ≡ operation_at old t = rw other at now in subst BeganCalm (sym e) (there t))
    ]

calm_moves : (old new : LogletView) → Moves old new → Calm old → Calm new
calm_moves old new m h = record {
  down = λ none. (let was : old.faults ≡ 0 = omega (arith, m.faults) in let d = h.down was in omega (arith, m.down));
  began = λ none t. (let was : old.faults ≡ 0 = omega (arith, m.faults) in advanced (operation_at old.operations t) (operation_at new.operations t) (m.operations t) (h.began was t));
}

-- faults and down stay
calm_puts : (old new : LogletView) (u : ℕ) (o : Option Operation) → new.faults ≡ old.faults → new.down ≡ old.down → PutsOperation old.operations u o new.operations → (old.faults ≡ 0 → BeganCalm o) → Calm old → Calm new
calm_puts old new u o faults down puts here h = record {
  down = λ none. down ∙ h.down (sym faults ∙ none);
  began = λ none. put_calm old.operations new.operations u o puts (here (sym faults ∙ none)) (h.began (sym faults ∙ none));
}

calm_same : (old new : LogletView) → new ≡ old → Calm old → Calm new
calm_same old new e h = subst Calm (sym e) h

calm_full : (old new : LogletView) → 1 ≤ new.faults → Calm new
calm_full old new some = record { down = λ none. absurd (omega (arith, some)); began = λ none. absurd (omega (arith, some)) }

calm_does : (old new : LogletView) (c : LogletCall) (a : LogletAnswer) → Does old c a new → Calm old → Calm new
calm_does old new (call.Begin op) (answer.Begun u) d h =
    calm_puts old new u (Some (begun_operation old op d.left)) (ap (λ (v : LogletView). v.faults) d.rest) (ap (λ (v : LogletView). v.down) d.rest) d.operation h.down h
calm_does old new (call.Begin op) (answer.Refusal Full) d h = calm_full old new (let e = ap (λ (v : LogletView). v.faults) d.1 in omega (arith, e))
calm_does old new (call.Carry u word) answer.Carried d h = calm_moves old new d.moves h
calm_does old new (call.Take u) (answer.Taken None) d h = calm_same old new d.1 h
calm_does old new (call.Take u) (answer.Taken (Some a)) d h =
    calm_puts old new u None (ap (λ (v : LogletView). v.faults) d.rest) (ap (λ (v : LogletView). v.down) d.rest) d.closed (λ none. tt) h
calm_does old new (call.Forget u) answer.Forgotten d h =
    calm_puts old new u None (ap (λ (v : LogletView). v.faults) d.rest) (ap (λ (v : LogletView). v.down) d.rest) d.closed (λ none. tt) h
calm_does old new (call.Left u) (answer.LeftIs a b) d h = calm_same old new d.1 h
calm_does old new (call.Stray word) answer.Strayed d h = calm_moves old new d h
calm_does old new (call.Stop server after) answer.Stopped d h = calm_same old new d h
calm_does old new (call.Restart server word) (answer.Restarted up) d h = calm_moves old new d.moves h
calm_does old new (call.Begin op) (answer.Refusal Memory) d h = calm_same old new d h
calm_does old new (call.Carry u word) (answer.Refusal Memory) d h = calm_same old new d h
calm_does old new (call.Stray word) (answer.Refusal Memory) d h = calm_same old new d h
calm_does old new (call.Restart server word) (answer.Refusal Memory) d h = calm_same old new d h
calm_does old new c a d h = absurd d

calm_run : (steps : LogletSteps) (old new : LogletView) → LogletRun old steps new → Calm old → Calm new
calm_run [] old new run h = calm_same old new run h
calm_run (step ∷ steps) old new run h = calm_run steps run.0 new run.2 (calm_does old run.0 step.0 step.1 run.1.does h)

calm_fresh : (v : LogletView) → IsFresh v → Calm v
calm_fresh v f = record {
  down = λ none. f.down;
  began = λ none t. subst (λ l. BeganCalm (operation_at l t)) (sym f.operations) tt;
}

-- The lack.

may_lack : (v : LogletView) (o : Operation) (task : Task) (u : ℕ) → MayAnswer v o task (answers.NoQuorum u) → IsLack v o u
may_lack v o (Reading k) u m = m.2
may_lack v o Placing u m = m
may_lack v o (Settling k) u m = m
may_lack v o Finding u m = m
may_lack v o Sealing u m = m
may_lack v o (Trimming k) u m = m

began_of : (x : Option Operation) (o : Operation) → x ≡ Some o → BeganCalm x → o.down ≡ 0
began_of None o e h = absurd (cc)
began_of (Some p) o e h = let same : p ≡ o = cc in subst (λ (x : Operation). x.down ≡ 0) same h

abbrev HasFault : ℕ → LogletView → Type 0
HasFault u v = (1 ≤ u) × (1 ≤ v.lacks) × (1 ≤ v.faults)

taken_fault : (t u : ℕ) (old new : LogletView) → TakesLack t u old new → Calm old → HasFault u new
taken_fault t u old new h calm =
    let mid = calm_run h.steps old h.mid h.before calm in
    let d = h.step.does in
    let lack = may_lack h.mid d.operation d.operation.task u d.may in
    let some : 1 ≤ u = omega (arith, lack.enough, h.step.before.shape.quorum.0) in
    let counted = taken_counted t u old new h in
    let faults : new.faults ≡ h.mid.faults = ap (λ (v : LogletView). v.faults) d.rest in
    let now : 1 ≤ h.mid.faults = elim (zero_or h.mid.faults) [
      | inl none ↦ (let down = began_of (operation_at h.mid.operations t) d.operation d.is (mid.began none t) in omega (arith, down, none, lack.faults, some))
      | inr more ↦ more
    ] in
    (some, omega (arith, counted), omega (arith, now, faults))
  where
    zero_or : (n : ℕ) → (n ≡ 0) ⊎ (1 ≤ n)
    zero_or zero = inl refl
    zero_or (suc n) = inr (omega arith)

-- what such an answer leaves
abbrev Leaves : ℕ → LogletView → Cause → Type 0
Leaves i v c = (u : ℕ) → c ≡ cause.NoQuorum i u → HasFault u v

leaves : (i : ℕ) (a : FabricAnswer) (c : FabricCall) (steps : LogletSteps) (old new : LogletView) (d : Cause) → StepsAt i a c steps → LogletRun old steps new → Calm old → fault_of a c ≡ Some d → Leaves i new d
leaves i a c steps old new d at run calm tells u is =
    let s = lack_steps i u a c steps (tells ∙ ap (λ x. Some x) is) at in
    taken_fault s.0 u old new (takes s.0 s.1 u steps old new s.2 run) calm

stays : (i : ℕ) (steps : LogletSteps) (old new : LogletView) (d : Cause) → LogletRun old steps new → Leaves i old d → Leaves i new d
stays i steps old new d run h u is =
    let k = run_keeps old steps new run in
    let f = h u is in
    (f.0, omega (arith, k.lacks, f.1), omega (arith, k.faults, f.2))

pub lack_has_fault : (i unreached : ℕ) (events : List Event) (now : LogletView) → HasRun i events now → Contains (faults_in events) (cause.NoQuorum i unreached) → (1 ≤ unreached) × (1 ≤ now.lacks) × (1 ≤ now.faults)
lack_has_fault i u events now h has =
    let all = run_leaves i Calm (Leaves i) (λ a c steps old new at run calm. calm_run steps old new run calm) (leaves i) (stays i) events h.opening now h.run (calm_fresh h.opening h.fresh) in
    All-contains (Leaves i now) (faults_in events) (cause.NoQuorum i u) all has u refl
