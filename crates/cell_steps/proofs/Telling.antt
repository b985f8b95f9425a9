-- What steps are that are no client's call, and what they are to clients.
use Rattle.std.proofs.Common.{◌≡◌, ℕ, zero, suc, ◌+◌, ◌^◌, ◌<◌, ◌≤◌, Bool, true, false, refl, sym, ◌∙◌, ap, subst, arith, List, [], ◌∷◌, ◌++◌, length, get_or, set, Option, Some, None, inl, inr, get_or-set_same, get_or-set_other}
use Rattle.std.specs.Prelude.{◌≢◌, ◌⊎◌, ◌&&◌, ◌||◌, ◌==◌, not, nat_lt, if◌then◌else◌, slice_get, is_some, All}
use Rattle.std.proofs.lemmas.Bool.{false≢true, and_parts, eq-eqb, eqb-true, ltb-true, not-true}
use Rattle.std.proofs.lemmas.Bool.Decides.{nat_tests}
use Rattle.std.proofs.lemmas.List.{append-nil, set_past}
use Rattle.std.proofs.lemmas.List.Elements.{All-head, All-tail}
use Rattle.loglet_api.specs.declared.call.LogletCall.{LogletCall}
use Rattle.loglet_api.specs.declared.call.LogletCall.TheVariants.{Carry as CallCarry, Stray as CallStray, Restart as CallRestart}
use Rattle.loglet_api.specs.declared.call.LogletAnswer.{LogletAnswer}
use Rattle.loglet_api.specs.declared.call.LogletAnswer.TheVariants.{Carried as CarryDone, Strayed as StrayDone, Restarted}
use Rattle.loglet_api.specs.View.{LogletView, operation_at, Operation as OpenOperation}
use Rattle.loglet_api.specs.Sound.{IsSound}
use Rattle.loglet_api.specs.Step.{Advances, IsBelow}
use Rattle.loglet_api.specs.Run.{LogletRun}
use Rattle.quorum_cell.specs.declared.message.Ask.{Ask}
use Rattle.quorum_cell.specs.declared.message.Told.TheVariants.{DiskFault}
use Rattle.quorum_cell.specs.declared.message.Request.{Request}
use Rattle.quorum_cell.specs.declared.message.Reply.{Reply}
use Rattle.quorum_cell.specs.declared.operation.Outcome.{Outcome}
use Rattle.quorum_cell.specs.declared.operation.CellStep.{CellStep}
use Rattle.quorum_cell.specs.declared.operation.CellStep.TheVariants.{Begin, Send, RequestComes, RequestStops, ReplyComes, Lose, Restart, RestartFails, Decide, Take, Forget}
use Rattle.quorum_cell.specs.Servers.{Server, written, restarted}
use Rattle.quorum_cell.specs.Cells.{Cell, Operation, server, operation, no_server}
use Rattle.quorum_cell.specs.Tallies.{may_decide}
use Rattle.quorum_cell.specs.Steps.{cell_step, run_cell, waits, with_fault, sent, ask_for, answered, request_comes, request_stops, put_operation, reply_comes, lose, restart, decide}
use Rattle.quorum_cell.specs.Law.{IsLawful}
use Rattle.quorum_cell.proofs.Lawful.{step_lawful}
use Rattle.quorum_cell.proofs.Lists.{at_set}
use Rattle.quorum_cell.proofs.Table.{written_up, restarted_up}
use Rattle.cell_views.specs.Views.{Manner, IsManner, IsNearer, IsStray, IsSpelled, BringsSpelled, cell_view, operation_view, open_from, left_of, calls}
use Rattle.cell_views.proofs.Opened.{opened, opened_is}
use Rattle.cell_views.proofs.Sounds.{view_sound}
use Rattle.cell_views.proofs.Moves.{step_stirs, step_moves}
use Rattle.cell_views.proofs.Calls.{step_runs, spelled_after}
use Rattle.cell_steps.specs.declared.moved.Moved.{Moved}
use Rattle.cell_steps.specs.declared.moved.Moved.TheVariants.{Nothing, Carried, Lost, Strayed, Stopped, Up, Stayed, Decided}
use Rattle.cell_steps.specs.Telling.{Came, has_come, carries, comes_as, request_as, reply_as, may_stop, stop_as, loss_as, is_down, restart_as, stay_as, decision_as, moved, came_after, call_as, told_at, told_of, once, carry_of, carries_of, left_for, fault_of, up_after, touches, IsTold}

---- what is left of operations

is_manner : (c : Cell) (n : ℕ → ℕ) → IsLawful c → ((t : ℕ) → n t < 2 ^ 52) → IsManner (length c.servers) (left_for n)
is_manner c n law few = record {
  rounds = omega arith;
  undecided = λ t. omega arith;
  first = λ t. omega arith;
  second = λ t. omega (arith, few t, law.shape.servers.0);
}

no_more : (n : ℕ → ℕ) → n ≡ (λ t. 0 + n t)
no_more n = λ i t. at t i
  where
    at : (t : ℕ) → n t ≡ 0 + n t
    at t = omega arith

once_here : (t : ℕ) → once t t ≡ 1
once_here t = ap (λ b. if b then 1 else 0) (eq-eqb t t refl)

---- operations that wait

open_waits : (o : Operation) → waits o ≡ true → (o.closed ≡ false) × (o.decided ≡ None)
open_waits o = by o.closed o.decided
  where
    by : (b : Bool) (z : Option Outcome) → not (b || is_some z) ≡ true → (b ≡ false) × (z ≡ None)
    by true z h = absurd (false≢true h)
    by false None h = (refl, refl)
    by false (Some a) h = absurd (false≢true h)

nearest : (left : ℕ → ℕ × ℕ) → IsNearer left left
nearest left t = inr (refl, omega arith)

-- an open operation stays open
still_open : (c : Cell) (step : CellStep) (t : ℕ) → IsStray step → (operation c t).closed ≡ false → (operation (cell_step c step) t).closed ≡ false
still_open c step t stray h = by (operation c t).closed (operation (cell_step c step) t).closed h ((step_stirs left left c step stray (nearest left)).advances t)
  where
    left : ℕ → ℕ × ℕ
    left u = (0, 1)

    by : (b e : Bool) → b ≡ false → Advances (if b then None else Some (operation_view (length c.servers) (operation c t) (left t))) (if e then None else Some (operation_view (length c.servers) (operation (cell_step c step) t) (left t))) → e ≡ false
    by true e h adv = absurd (false≢true (sym h))
    by false true h adv = absurd adv
    by false false h adv = refl

opened_so : (c : Cell) (n : ℕ → ℕ) (t : ℕ) → (operation c t).closed ≡ false → operation_at (cell_view (left_for n) c).operations t ≡ Some (operation_view (length c.servers) (operation c t) (0, 1 + n t))
opened_so c n t h = opened_is (length c.servers) (left_for n).left t c.operations ∙ by (operation c t).closed h
  where
    by : (b : Bool) → b ≡ false → (if b then None else Some (operation_view (length c.servers) (operation c t) (0, 1 + n t))) ≡ Some (operation_view (length c.servers) (operation c t) (0, 1 + n t))
    by true e = absurd (false≢true (sym e))
    by false e = refl

less_left : (z : Option Outcome) (a b : ℕ) → a < b → IsBelow (left_of z (0, a)) (0, b)
less_left None a b l = inr (refl, l)
less_left (Some x) a b l = inr (refl, omega (arith, l))

---- carries and strays

module _ (c : Cell) (step : CellStep) (stray : IsStray step) (old new : ℕ → ℕ) (fewer : (u : ℕ) → new u ≤ old u) (before : IsSound (cell_view (left_for old) c)) (after : IsSound (cell_view (left_for new) (cell_step c step))) where
  carry_runs : (t : ℕ) → waits (operation c t) ≡ true → new t < old t → LogletRun (cell_view (left_for old) c) ((CallCarry t 0, CarryDone) ∷ []) (cell_view (left_for new) (cell_step c step))
  carry_runs t waiting less =
      let d = cell_step c step in
      let w = open_waits (operation c t) waiting in
      let was = opened_so c old t w.0 in (
        cell_view (left_for new) d,
        record {
          before = before;
          can = record {
            operation = operation_view (length c.servers) (operation c t) (0, 1 + old t);
            is = was;
            undecided = subst (λ z. 0 < (left_of z (0, 1 + old t)).0 + (left_of z (0, 1 + old t)).1) (sym w.1) (omega arith);
          };
          does = record {
            moves = step_moves (left_for old) (left_for new).left c step stray (λ u. inr (refl, omega (arith, fewer u)));
            falls = record {
              before = operation_view (length c.servers) (operation c t) (0, 1 + old t);
              after = operation_view (length d.servers) (operation d t) (0, 1 + new t);
              was = was;
              is = opened_so d new t (still_open c step t stray w.0);
              less = subst (λ z. IsBelow (left_of (operation d t).decided (0, 1 + new t)) (left_of z (0, 1 + old t))) (sym w.1) (less_left (operation d t).decided (1 + new t) (1 + old t) (omega (arith, less)));
            };
          };
          after = after;
        },
        refl,
      )

  stray_runs : LogletRun (cell_view (left_for old) c) ((CallStray 0, StrayDone) ∷ []) (cell_view (left_for new) (cell_step c step))
  stray_runs = (
    cell_view (left_for new) (cell_step c step),
    record { before = before; can = tt; does = step_moves (left_for old) (left_for new).left c step stray (λ u. inr (refl, omega (arith, fewer u))); after = after },
    refl,
  )

---- what a step is, it is

-- for each kind what makes it the call that it is
abbrev IsSo : (ℕ → ℕ) → Cell → Cell → Moved → Type 0
IsSo n c d Nothing = cell_view (left_for n) d ≡ cell_view (left_for n) c
IsSo n c d (Carried t i) = waits (operation c t) ≡ true
IsSo n c d (Lost t i) = waits (operation c t) ≡ true
IsSo n c d (Strayed i) = Unit {0}
IsSo n c d (Stopped t i true) = waits (operation c t) ≡ true
IsSo n c d (Stopped t i false) = Unit {0}
IsSo n c d (Up i stood) = LogletRun (cell_view (left_for n) c) ((CallRestart i 0, Restarted true) ∷ []) (cell_view (left_for n) d)
IsSo n c d (Stayed i) = LogletRun (cell_view (left_for n) c) ((CallRestart i 0, Restarted false) ∷ []) (cell_view (left_for n) d)
IsSo n c d (Decided t) = waits (operation c t) ≡ true

comes_so : (n : ℕ → ℕ) (c d : Cell) (again : Bool) (t i : ℕ) → IsSo n c d (comes_as (carries c again t) t i)
comes_so n c d again t i = by (carries c again t) refl
  where
    by : (b : Bool) → carries c again t ≡ b → IsSo n c d (comes_as b t i)
    by true e = (and_parts _ _ e).0
    by false e = tt

request_so : (n : ℕ → ℕ) (c : Cell) (again : Bool) (o : Option Request) → IsSo n c (request_comes c o) (request_as c again o)
request_so n c again None = refl
request_so n c again (Some q) = comes_so n c (request_comes c (Some q)) again q.ticket q.server

reply_so : (n : ℕ → ℕ) (c : Cell) (again : Bool) (o : Option Reply) → IsSo n c (reply_comes c o) (reply_as c again o)
reply_so n c again None = refl
reply_so n c again (Some r) = comes_so n c (reply_comes c (Some r)) again r.ticket r.server

stop_so : (n : ℕ → ℕ) (c : Cell) (again : Bool) (o : Option Request) → IsSo n c (request_stops c o) (stop_as c again o)
stop_so n c again None = refl
stop_so n c again (Some q) = by (may_stop c q)
  where
    stopped : Cell
    stopped = answered (with_fault c q.server) q (record (server c q.server) { up = false; torn = Some q.ask }) DiskFault

    which : (b : Bool) → carries c again q.ticket ≡ b → IsSo n c stopped (Stopped q.ticket q.server b)
    which true e = (and_parts _ _ e).0
    which false e = tt

    by : (b : Bool) → IsSo n c (if b then stopped else c) (if b then Stopped q.ticket q.server (carries c again q.ticket) else Nothing)
    by true = which (carries c again q.ticket) refl
    by false = refl

loss_so : (n : ℕ → ℕ) (c : Cell) (k : ℕ) (o : Option Request) → IsSo n c (lose c k o) (loss_as c o)
loss_so n c k None = refl
loss_so n c k (Some q) = by (waits (operation c q.ticket)) refl
  where
    by : (b : Bool) → waits (operation c q.ticket) ≡ b → IsSo n c (if b then put_operation (with_fault c q.server) q.ticket (record (operation c q.ticket) { lost = (operation c q.ticket).lost ++ record { message = k; server = q.server } ∷ [] }) else c) (if b then Lost q.ticket q.server else Nothing)
    by true e = e
    by false e = refl

decision_so : (n : ℕ → ℕ) (c : Cell) (t : ℕ) (a : Outcome) → IsSo n c (decide c t a) (decision_as c t a)
decision_so n c t a = by (waits (operation c t) && may_decide (length c.servers) c.cut (operation c t) (operation c t).aim a) refl
  where
    by : (b : Bool) → (waits (operation c t) && may_decide (length c.servers) c.cut (operation c t) (operation c t).aim a) ≡ b → IsSo n c (if b then put_operation c t (record (operation c t) { decided = Some a }) else c) (if b then Decided t else Nothing)
    by true e = (and_parts _ _ e).0
    by false e = refl

send_same : (n : ℕ → ℕ) (c : Cell) (t i : ℕ) (o : Option Ask) (b : Bool) → cell_view (left_for n) (if b then sent c t i o else c) ≡ cell_view (left_for n) c
send_same n c t i None true = refl
send_same n c t i (Some ask) true = refl
send_same n c t i o false = refl

module _ (n : ℕ → ℕ) (c : Cell) (manner : IsManner (length c.servers) (left_for n)) (law : IsLawful c) (spelled : IsSpelled c) where
  restart_so : (i : ℕ) (kept : Bool) → IsSo n c (restart c i kept) (restart_as c i kept)
  restart_so i kept = by (nat_lt i (length c.servers)) (server c i).up refl refl
    where
      runs : LogletRun (cell_view (left_for n) c) (if nat_lt i (length c.servers) then (CallRestart i 0, Restarted true) ∷ [] else []) (cell_view (left_for n) (restart c i kept))
      runs = step_runs (left_for n) c (Restart i kept) manner law spelled tt

      runs_as : (x : Bool) → nat_lt i (length c.servers) ≡ x → LogletRun (cell_view (left_for n) c) (if x then (CallRestart i 0, Restarted true) ∷ [] else []) (cell_view (left_for n) (restart c i kept))
      runs_as x e = subst (λ b. LogletRun (cell_view (left_for n) c) (if b then (CallRestart i 0, Restarted true) ∷ [] else []) (cell_view (left_for n) (restart c i kept))) e runs

      by : (x u : Bool) → nat_lt i (length c.servers) ≡ x → (server c i).up ≡ u → IsSo n c (restart c i kept) (if x && not u then Up i (kept && is_some (server c i).torn) else Nothing)
      by true false e f = runs_as true e
      by true true e f = ap (λ b. cell_view (left_for n) (if b then c else record c { servers = set c.servers i (restarted (server c i) kept (server c i).torn) })) f
      by false u e f = runs_as false e

  stay_so : (i : ℕ) → IsSo n c (cell_step c (RestartFails i)) (stay_as c i)
  stay_so i = by (is_down c i) refl
    where
      runs : LogletRun (cell_view (left_for n) c) (if is_down c i then (CallRestart i 0, Restarted false) ∷ [] else []) (cell_view (left_for n) (cell_step c (RestartFails i)))
      runs = step_runs (left_for n) c (RestartFails i) manner law spelled tt

      runs_as : (x : Bool) → is_down c i ≡ x → LogletRun (cell_view (left_for n) c) (if x then (CallRestart i 0, Restarted false) ∷ [] else []) (cell_view (left_for n) (cell_step c (RestartFails i)))
      runs_as x e = subst (λ b. LogletRun (cell_view (left_for n) c) (if b then (CallRestart i 0, Restarted false) ∷ [] else []) (cell_view (left_for n) (cell_step c (RestartFails i)))) e runs

      by : (b : Bool) → is_down c i ≡ b → IsSo n c (cell_step c (RestartFails i)) (if b then Stayed i else Nothing)
      by true e = runs_as true e
      by false e = runs_as false e

  step_so : (came : Came) (step : CellStep) → IsStray step → IsSo n c (cell_step c step) (moved c came step)
  step_so came (Begin aim) stray = absurd stray
  step_so came (Send t i wish) stray = send_same n c t i (ask_for c (operation c t) wish) (not (operation c t).closed && nat_lt i (length c.servers))
  step_so came (RequestComes k) stray = request_so n c (has_come came.requests k) (slice_get c.requests k)
  step_so came (RequestStops k) stray = stop_so n c (has_come came.requests k) (slice_get c.requests k)
  step_so came (ReplyComes k) stray = reply_so n c (has_come came.replies k) (slice_get c.replies k)
  step_so came (Lose k) stray = loss_so n c k (slice_get c.requests k)
  step_so came (Restart i kept) stray = restart_so i kept
  step_so came (RestartFails i) stray = stay_so i
  step_so came (Decide t a) stray = decision_so n c t a
  step_so came (Take t) stray = absurd stray
  step_so came (Forget t) stray = absurd stray

---- so it is that call

module _ (c : Cell) (step : CellStep) (stray : IsStray step) (n : ℕ → ℕ) where
  abbrev old_left : Moved → ℕ → ℕ
  old_left m t = carry_of t m + n t

  carried_runs : (m : Moved) (t : ℕ) → ((u : ℕ) → carry_of u m ≡ once u t) → waits (operation c t) ≡ true → IsSound (cell_view (left_for (old_left m)) c) → IsSound (cell_view (left_for n) (cell_step c step))
      → LogletRun (cell_view (left_for (old_left m)) c) ((CallCarry t 0, CarryDone) ∷ []) (cell_view (left_for n) (cell_step c step))
  carried_runs m t is waiting before after = carry_runs c step stray (old_left m) n (λ u. omega arith) before after t waiting (omega (arith, is t, once_here t))

  strayed_runs : (m : Moved) → IsSound (cell_view (left_for (old_left m)) c) → IsSound (cell_view (left_for n) (cell_step c step)) → LogletRun (cell_view (left_for (old_left m)) c) ((CallStray 0, StrayDone) ∷ []) (cell_view (left_for n) (cell_step c step))
  strayed_runs m before after = stray_runs c step stray (old_left m) n (λ u. omega arith) before after

  same_runs : (calls : List (LogletCall × LogletAnswer)) → LogletRun (cell_view (left_for n) c) calls (cell_view (left_for n) (cell_step c step)) → LogletRun (cell_view (left_for (λ t. 0 + n t)) c) calls (cell_view (left_for n) (cell_step c step))
  same_runs calls r = subst (λ (f : ℕ → ℕ). LogletRun (cell_view (left_for f) c) calls (cell_view (left_for n) (cell_step c step))) (no_more n) r

  moved_runs : (m : Moved) → IsSo n c (cell_step c step) m → IsSound (cell_view (left_for (old_left m)) c) → IsSound (cell_view (left_for n) (cell_step c step)) → LogletRun (cell_view (left_for (old_left m)) c) (call_as m) (cell_view (left_for n) (cell_step c step))
  moved_runs Nothing so before after = same_runs [] so
  moved_runs (Carried t i) so before after = carried_runs (Carried t i) t (λ u. refl) so before after
  moved_runs (Lost t i) so before after = carried_runs (Lost t i) t (λ u. refl) so before after
  moved_runs (Strayed i) so before after = strayed_runs (Strayed i) before after
  moved_runs (Stopped t i true) so before after = carried_runs (Stopped t i true) t (λ u. refl) so before after
  moved_runs (Stopped t i false) so before after = strayed_runs (Stopped t i false) before after
  moved_runs (Up i stood) so before after = same_runs ((CallRestart i 0, Restarted true) ∷ []) so
  moved_runs (Stayed i) so before after = same_runs ((CallRestart i 0, Restarted false) ∷ []) so
  moved_runs (Decided t) so before after = carried_runs (Decided t) t (λ u. refl) so before after

---- every step, and every list of steps

once_few : (t u : ℕ) → once t u ≤ 1
once_few t u = by (t == u)
  where
    by : (b : Bool) → (if b then 1 else 0) ≤ 1
    by true = omega arith
    by false = omega arith

carry_few : (t : ℕ) (m : Moved) → carry_of t m ≤ 1
carry_few t (Carried u i) = once_few t u
carry_few t (Lost u i) = once_few t u
carry_few t (Stopped u i true) = once_few t u
carry_few t (Decided u) = once_few t u
carry_few t m = omega arith

carries_few : (steps : List CellStep) (c : Cell) (came : Came) (t : ℕ) → carries_of steps c came t ≤ length steps
carries_few [] c came t = omega arith
carries_few (step ∷ steps) c came t = omega (arith, carry_few t (moved c came step), carries_few steps (cell_step c step) (came_after c came step) t)

module _ (c : Cell) (came : Came) (law : IsLawful c) (spelled : IsSpelled c) (n : ℕ → ℕ) (few : (t : ℕ) → n t < 2 ^ 52) where
  inner_runs : (step : CellStep) → IsStray step → BringsSpelled step → ((t : ℕ) → carry_of t (moved c came step) + n t < 2 ^ 52)
      → LogletRun (cell_view (left_for (λ t. carry_of t (moved c came step) + n t)) c) (call_as (moved c came step)) (cell_view (left_for n) (cell_step c step))
  inner_runs step stray new all =
      let next = step_lawful c step law in
      moved_runs c step stray n (moved c came step)
      (step_so n c (is_manner c n law few) law spelled came step stray)
      (view_sound (left_for (λ t. carry_of t (moved c came step) + n t)) c (is_manner c (λ t. carry_of t (moved c came step) + n t) law all) law spelled)
      (view_sound (left_for n) (cell_step c step) (is_manner (cell_step c step) n next few) next (spelled_after c step spelled new))

  told_runs : (step : CellStep) → BringsSpelled step → ((t : ℕ) → carry_of t (moved c came step) + n t < 2 ^ 52)
      → LogletRun (cell_view (left_for (λ t. carry_of t (moved c came step) + n t)) c) (told_at c came step) (cell_view (left_for n) (cell_step c step))
  told_runs (Begin aim) new all = subst (λ (f : ℕ → ℕ). LogletRun (cell_view (left_for f) c) (calls c (Begin aim)) (cell_view (left_for n) (cell_step c (Begin aim)))) (no_more n) (step_runs (left_for n) c (Begin aim) (is_manner c n law few) law spelled new)
  told_runs (Take t) new all = subst (λ (f : ℕ → ℕ). LogletRun (cell_view (left_for f) c) (calls c (Take t)) (cell_view (left_for n) (cell_step c (Take t)))) (no_more n) (step_runs (left_for n) c (Take t) (is_manner c n law few) law spelled new)
  told_runs (Forget t) new all = subst (λ (f : ℕ → ℕ). LogletRun (cell_view (left_for f) c) (calls c (Forget t)) (cell_view (left_for n) (cell_step c (Forget t)))) (no_more n) (step_runs (left_for n) c (Forget t) (is_manner c n law few) law spelled new)
  told_runs (Send t i wish) new all = inner_runs (Send t i wish) tt new all
  told_runs (RequestComes k) new all = inner_runs (RequestComes k) tt new all
  told_runs (RequestStops k) new all = inner_runs (RequestStops k) tt new all
  told_runs (ReplyComes k) new all = inner_runs (ReplyComes k) tt new all
  told_runs (Lose k) new all = inner_runs (Lose k) tt new all
  told_runs (Restart i kept) new all = inner_runs (Restart i kept) tt new all
  told_runs (RestartFails i) new all = inner_runs (RestartFails i) tt new all
  told_runs (Decide t a) new all = inner_runs (Decide t a) tt new all

runs_both : (a b : LogletView) (xs ys : List (LogletCall × LogletAnswer)) (d : LogletView) → LogletRun a xs b → LogletRun b ys d → LogletRun a (xs ++ ys) d
runs_both a b [] ys d first second = subst (λ v. LogletRun v ys d) first second
runs_both a b (x ∷ xs) ys d first second = (first.0, first.1, runs_both first.0 b xs ys d first.2 second)

pub all_told : (steps : List CellStep) (c : Cell) (came : Came) → IsLawful c → IsSpelled c → All BringsSpelled steps → length steps < 2 ^ 52
    → LogletRun (cell_view (left_for (λ t. carries_of steps c came t)) c) (told_of steps c came) (cell_view (left_for (λ t. 0)) (run_cell steps c))
all_told [] c came law spelled new few = refl
all_told (step ∷ steps) c came law spelled new few =
    let d = cell_step c step in
    let next = came_after c came step in
    let brings = All-head BringsSpelled step steps new in
    runs_both (cell_view (left_for (λ t. carries_of (step ∷ steps) c came t)) c) (cell_view (left_for (λ t. carries_of steps d next t)) d) (told_at c came step) (told_of steps d next) (cell_view (left_for (λ t. 0)) (run_cell steps d))
    (told_runs c came law spelled (λ t. carries_of steps d next t) (λ t. omega (arith, few, carries_few steps d next t)) step brings (λ t. omega (arith, few, carries_few (step ∷ steps) c came t)))
    (all_told steps d next (step_lawful c step law) (spelled_after c step spelled brings) (All-tail BringsSpelled step steps new) (omega (arith, few)))

---- what a step changes

-- server i is another then
server_set : (ss : List Server) (i : ℕ) (s : Server) → i < length ss → (j : ℕ) → get_or (set ss i s) j no_server ≡ (if i == j then s else get_or ss j no_server)
server_set ss i s l j = by (i == j) refl
  where
    by : (b : Bool) → (i == j) ≡ b → get_or (set ss i s) j no_server ≡ (if b then s else get_or ss j no_server)
    by true e = subst (λ k. get_or (set ss i s) k no_server ≡ s) (eqb-true _ _ e) (get_or-set_same ss i s no_server l)
    by false e = let apart : j ≢ i = grind (arith, nat_tests) in get_or-set_other ss i j s no_server apart

up_if : (b : Bool) (s z : Server) → (if b then s else z).up ≡ (if b then s.up else z.up)
up_if true s z = refl
up_if false s z = refl

-- nothing but that server changes, and it stays up or down
same_up : (ss : List Server) (i : ℕ) (s : Server) → s.up ≡ (get_or ss i no_server).up → (j : ℕ) → (get_or (set ss i s) j no_server).up ≡ (get_or ss j no_server).up
same_up ss i s h = at_set (λ j (x : Server). x.up ≡ (get_or ss j no_server).up) ss i s no_server (λ j. refl) (λ _. h)

same_others : (ss : List Server) (i : ℕ) (s : Server) (j : ℕ) → (i == j) ≡ false → get_or (set ss i s) j no_server ≡ get_or ss j no_server
same_others ss i s j e = let apart : j ≢ i = grind (arith, nat_tests) in get_or-set_other ss i j s no_server apart

quiet : (c d : Cell) (m : Moved) → fault_of m ≡ [] → ((j : ℕ) (b : Bool) → up_after m j b ≡ b) → ((i : ℕ) (b : Bool) → m ≡ Up i b → ⊥) → d.faults ≡ c.faults → ((j : ℕ) → (server d j).up ≡ (server c j).up) → ((j : ℕ) → touches m j ≡ false → server d j ≡ server c j) → IsTold c m d
quiet c d m none stays still faults up others = record {
  faults = faults ∙ (sym (append-nil c.faults) ∙ ap (λ xs. c.faults ++ xs) (sym none));
  up = λ j. up j ∙ sym (stays j (server c j).up);
  others = others;
  found = λ i b e. absurd (still i b e);
}

nothing_told : (c : Cell) → IsTold c Nothing c
nothing_told c = quiet c c Nothing refl (λ j b. refl) (λ i b e. absurd (cc)) refl (λ j. refl) (λ j e. refl)

sent_told : (c : Cell) (t i : ℕ) (o : Option Ask) (b : Bool) → IsTold c Nothing (if b then sent c t i o else c)
sent_told c t i None true = nothing_told c
sent_told c t i (Some ask) true = quiet c (sent c t i (Some ask)) Nothing refl (λ j b. refl) (λ i b e. absurd (cc)) refl (λ j. refl) (λ j e. refl)
sent_told c t i o false = nothing_told c

comes_told : (c d : Cell) (t i : ℕ) (b : Bool) → d.faults ≡ c.faults → ((j : ℕ) → (server d j).up ≡ (server c j).up) → ((j : ℕ) → (i == j) ≡ false → server d j ≡ server c j) → IsTold c (comes_as b t i) d
comes_told c d t i true faults up others = quiet c d (Carried t i) refl (λ j b. refl) (λ k b e. absurd (cc)) faults up others
comes_told c d t i false faults up others = quiet c d (Strayed i) refl (λ j b. refl) (λ k b e. absurd (cc)) faults up others

request_told : (c : Cell) (again : Bool) (o : Option Request) → IsTold c (request_as c again o) (request_comes c o)
request_told c again None = nothing_told c
request_told c again (Some q) = comes_told c (request_comes c (Some q)) q.ticket q.server (carries c again q.ticket) refl (same_up c.servers q.server now up) (same_others c.servers q.server now)
  where
    now : Server
    now = if (server c q.server).up then written (server c q.server) q.ask else server c q.server

    up : now.up ≡ (server c q.server).up
    up = by (server c q.server).up
      where
        by : (b : Bool) → (if b then written (server c q.server) q.ask else server c q.server).up ≡ (server c q.server).up
        by true = written_up (server c q.server) q.ask
        by false = refl

put_told : (c : Cell) (t : ℕ) (o : Operation) (i : ℕ) (b : Bool) (u : ℕ) → IsTold c (comes_as b u i) (put_operation c t o)
put_told c t o i b u = comes_told c (put_operation c t o) u i b refl (λ j. refl) (λ j e. refl)

reply_told : (c : Cell) (again : Bool) (o : Option Reply) → IsTold c (reply_as c again o) (reply_comes c o)
reply_told c again None = nothing_told c
reply_told c again (Some r) = by (waits (operation c r.ticket))
  where
    by : (b : Bool) → IsTold c (comes_as (carries c again r.ticket) r.ticket r.server) (if b then put_operation c r.ticket (record (operation c r.ticket) { heard = (operation c r.ticket).heard ++ r ∷ [] }) else c)
    by true = put_told c r.ticket (record (operation c r.ticket) { heard = (operation c r.ticket).heard ++ r ∷ [] }) r.server (carries c again r.ticket) r.ticket
    by false = comes_told c c r.ticket r.server (carries c again r.ticket) refl (λ j. refl) (λ j e. refl)

up_known : (c : Cell) (i : ℕ) → (server c i).up ≡ true → i < length c.servers
up_known c i h = at c.servers i h
  where
    at : (ss : List Server) (k : ℕ) → (get_or ss k no_server).up ≡ true → k < length ss
    at [] k e = absurd (false≢true e)
    at (s ∷ ss) zero e = omega arith
    at (s ∷ ss) (suc k) e = omega (arith, at ss k e)

stop_told : (c : Cell) (again : Bool) (o : Option Request) → IsTold c (stop_as c again o) (request_stops c o)
stop_told c again None = nothing_told c
stop_told c again (Some q) = by (may_stop c q) refl
  where
    now : Server
    now = record (server c q.server) { up = false; torn = Some q.ask }

    by : (b : Bool) → may_stop c q ≡ b → IsTold c (if b then Stopped q.ticket q.server (carries c again q.ticket) else Nothing) (if b then answered (with_fault c q.server) q now DiskFault else c)
    by true e =
        let here : q.server < length c.servers = up_known c q.server (and_parts _ _ e).0 in
        record {
          faults = refl;
          up = λ j. ap (λ (s : Server). s.up) (server_set c.servers q.server now here j) ∙ up_if (q.server == j) now (server c j);
          others = same_others c.servers q.server now;
          found = λ i b z. absurd (cc);
        }
    by false e = nothing_told c

loss_told : (c : Cell) (k : ℕ) (o : Option Request) → IsTold c (loss_as c o) (lose c k o)
loss_told c k None = nothing_told c
loss_told c k (Some q) = by (waits (operation c q.ticket))
  where
    by : (b : Bool) → IsTold c (if b then Lost q.ticket q.server else Nothing) (if b then put_operation (with_fault c q.server) q.ticket (record (operation c q.ticket) { lost = (operation c q.ticket).lost ++ record { message = k; server = q.server } ∷ [] }) else c)
    by true = record { faults = refl; up = λ j. refl; others = λ j e. refl; found = λ i b z. absurd (cc) }
    by false = nothing_told c

-- the write stands where it was kept
found_as : (s : Server) (kept : Bool) → restarted s kept s.torn ≡ restarted s (kept && is_some s.torn) s.torn
found_as s kept = by kept s.torn
  where
    by : (k : Bool) (z : Option Ask) → restarted s k z ≡ restarted s (k && is_some z) z
    by true (Some ask) = refl
    by true None = refl
    by false (Some ask) = refl
    by false None = refl

restart_told : (c : Cell) (i : ℕ) (kept : Bool) → IsTold c (restart_as c i kept) (restart c i kept)
restart_told c i kept = by (nat_lt i (length c.servers)) (server c i).up refl refl
  where
    now : Server
    now = restarted (server c i) kept (server c i).torn

    past : nat_lt i (length c.servers) ≡ false → set c.servers i now ≡ c.servers
    past e = let far : length c.servers ≤ i = grind (arith, nat_tests) in set_past c.servers i now far

    by : (x u : Bool) → nat_lt i (length c.servers) ≡ x → (server c i).up ≡ u → IsTold c (if x && not u then Up i (kept && is_some (server c i).torn) else Nothing) (if u then c else record c { servers = set c.servers i now })
    by true false e f =
        let here : i < length c.servers = ltb-true _ _ e in
        record {
          faults = sym (append-nil c.faults);
          up = λ j. ap (λ (s : Server). s.up) (server_set c.servers i now here j) ∙ (up_if (i == j) now (server c j) ∙ ap (λ b. if i == j then b else (server c j).up) (restarted_up (server c i) kept (server c i).torn));
          others = same_others c.servers i now;
          found = λ k b z. same_found here k b z;
        }
      where
        same_found : i < length c.servers → (k : ℕ) (b : Bool) → Up i (kept && is_some (server c i).torn) ≡ Up k b → get_or (set c.servers i now) k no_server ≡ restarted (server c k) b (server c k).torn
        same_found here k b z =
            let at : i ≡ k = cc in
            let stood : (kept && is_some (server c i).torn) ≡ b = cc in
            subst (λ j. get_or (set c.servers i now) j no_server ≡ restarted (server c j) b (server c j).torn) at
            (get_or-set_same c.servers i now no_server here ∙ (found_as (server c i) kept ∙ ap (λ x. restarted (server c i) x (server c i).torn) stood))
    by true true e f = nothing_told c
    by false true e f = nothing_told c
    by false false e f = subst (λ (ss : List Server). IsTold c Nothing (record c { servers = ss })) (sym (past e)) (nothing_told c)

stay_told : (c : Cell) (i : ℕ) → IsTold c (stay_as c i) (cell_step c (RestartFails i))
stay_told c i = by (is_down c i)
  where
    by : (b : Bool) → IsTold c (if b then Stayed i else Nothing) (if b then with_fault c i else c)
    by true = record { faults = refl; up = λ j. refl; others = λ j e. refl; found = λ k b z. absurd (cc) }
    by false = nothing_told c

decision_told : (c : Cell) (t : ℕ) (a : Outcome) → IsTold c (decision_as c t a) (decide c t a)
decision_told c t a = by (waits (operation c t) && may_decide (length c.servers) c.cut (operation c t) (operation c t).aim a)
  where
    by : (b : Bool) → IsTold c (if b then Decided t else Nothing) (if b then put_operation c t (record (operation c t) { decided = Some a }) else c)
    by true = quiet c (put_operation c t (record (operation c t) { decided = Some a })) (Decided t) refl (λ j b. refl) (λ i b e. absurd (cc)) refl (λ j. refl) (λ j e. refl)
    by false = nothing_told c

pub step_tells : (c : Cell) (came : Came) (step : CellStep) → IsStray step → IsTold c (moved c came step) (cell_step c step)
step_tells c came (Begin aim) stray = absurd stray
step_tells c came (Send t i wish) stray = sent_told c t i (ask_for c (operation c t) wish) (not (operation c t).closed && nat_lt i (length c.servers))
step_tells c came (RequestComes k) stray = request_told c (has_come came.requests k) (slice_get c.requests k)
step_tells c came (RequestStops k) stray = stop_told c (has_come came.requests k) (slice_get c.requests k)
step_tells c came (ReplyComes k) stray = reply_told c (has_come came.replies k) (slice_get c.replies k)
step_tells c came (Lose k) stray = loss_told c k (slice_get c.requests k)
step_tells c came (Restart i kept) stray = restart_told c i kept
step_tells c came (RestartFails i) stray = stay_told c i
step_tells c came (Decide t a) stray = decision_told c t a
step_tells c came (Take t) stray = absurd stray
step_tells c came (Forget t) stray = absurd stray
