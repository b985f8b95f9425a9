-- What holds of each event of a cell's run holds of the run.
use Rattle.std.proofs.Common.{◌≡◌, sym, subst, ℕ, ◌+◌, Bool, true, List, [], ◌∷◌, Some}
use Rattle.std.specs.Prelude.{MatchBool, All, count_by}
use Rattle.delos_types.specs.declared.cause.Cause.{Cause}
use Rattle.loglet_api.specs.View.{LogletView}
use Rattle.loglet_api.specs.Run.{LogletRun}
use Rattle.legal_journal.specs.declared.events.Event.{Event}
use Rattle.legal_journal.specs.declared.events.FabricCall.{FabricCall}
use Rattle.legal_journal.specs.declared.events.FabricAnswer.{FabricAnswer}
use Rattle.fabric_core.specs.Runs.{LogletSteps, StepsOf, is_on, CellRun}
use Rattle.journal_laws.specs.Faults.{fault_of, faults_in}
use Rattle.journal_laws.proofs.Telling.{weight, count-more, all-more, all-none}

-- the steps of the cell for an event
abbrev pub StepsAt : ℕ → FabricAnswer → FabricCall → LogletSteps → Type 0
StepsAt i a c steps = MatchBool (is_on i c) (StepsOf c a steps) (steps ≡ [])

-- where it is of the cell
pub steps_on : (i : ℕ) (a : FabricAnswer) (c : FabricCall) (steps : LogletSteps) → is_on i c ≡ true → StepsAt i a c steps → StepsOf c a steps
steps_on i a c steps on h = subst (λ b. MatchBool b (StepsOf c a steps) (steps ≡ [])) on h

-- what each event counts is counted by the run: R n a b says that n were counted from a to b
pub run_counts : (i : ℕ) (P : Cause → Bool) (R : ℕ → LogletView → LogletView → Type 0)
    → ((v : LogletView) → R 0 v v)
    → ((n m : ℕ) (a b c : LogletView) → R n a b → R m b c → R (n + m) a c)
    → ((a : FabricAnswer) (c : FabricCall) (steps : LogletSteps) (old new : LogletView) → StepsAt i a c steps → LogletRun old steps new → R (weight P (fault_of a c)) old new)
    → (events : List Event) (old new : LogletView) → CellRun i old events new → R (count_by P (faults_in events)) old new
run_counts i P R none both each [] old new run = subst (λ v. R 0 old v) (sym run) (none old)
run_counts i P R none both each (e ∷ es) old new run =
    let first = each e.answer e.call run.1.0 old run.0 run.1.1 run.1.2 in
    let rest = run_counts i P R none both each es run.0 new run.2 in
    subst (λ n. R n old new) (sym (count-more P e es)) (both (weight P (fault_of e.answer e.call)) (count_by P (faults_in es)) old run.0 new first rest)

-- What each fault leaves, and later events keep, is there at the end. S is what each event is begun with.
pub run_leaves : (i : ℕ) (S : LogletView → Type 0) (Q : LogletView → Cause → Type 0)
    → ((a : FabricAnswer) (c : FabricCall) (steps : LogletSteps) (old new : LogletView) → StepsAt i a c steps → LogletRun old steps new → S old → S new)
    → ((a : FabricAnswer) (c : FabricCall) (steps : LogletSteps) (old new : LogletView) (d : Cause) → StepsAt i a c steps → LogletRun old steps new → S old → fault_of a c ≡ Some d → Q new d)
    → ((steps : LogletSteps) (old new : LogletView) (d : Cause) → LogletRun old steps new → Q old d → Q new d)
    → (events : List Event) (old new : LogletView) → CellRun i old events new → S old → All (Q new) (faults_in events)
run_leaves i S Q goes leaves keeps [] old new run s = all-none (Q new)
run_leaves i S Q goes leaves keeps (e ∷ es) old new run s =
    all-more (Q new) e es
    (λ d tells. later es run.0 new d run.2 (leaves e.answer e.call run.1.0 old run.0 d run.1.1 run.1.2 s tells))
    (run_leaves i S Q goes leaves keeps es run.0 new run.2 (goes e.answer e.call run.1.0 old run.0 run.1.1 run.1.2 s))
  where
    later : (es : List Event) (old new : LogletView) (d : Cause) → CellRun i old es new → Q old d → Q new d
    later [] old new d run q = subst (λ v. Q v d) (sym run) q
    later (e ∷ es) old new d run q = later es run.0 new d run.2 (keeps run.1.0 old run.0 d run.1.2 q)
