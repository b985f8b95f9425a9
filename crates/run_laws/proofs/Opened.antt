-- What an opened row rests on: its own look that failed, or a fault that came to its node in its phase.
use Rattle.std.proofs.Common.{◌≡◌, refl, ap, inl, inr, ◌⊎◌, ℕ, ◌<◌, Bool, true, false, not, ◌&&◌, ◌==◌, List, Option, Some, None, IsSome, is_some, map}
use Rattle.std.specs.List.{list_any}
use Rattle.std.proofs.lemmas.Bool.{and_parts, and_from, both_ways, not-true, not_from_true, or_left, or_right}
use Rattle.delos_types.specs.declared.cause.Cause.{Cause}
use Rattle.script_text.specs.declared.faults.FaultLine.{FaultLine}
use Rattle.fitting_run.specs.declared.told.Told.{Told}
use Rattle.fitting_run.specs.Answered.{cause_of, is_late, is_logged, is_open, same_session, session_asking}
use Rattle.fitting_run.specs.Faults.{is_alone, is_broken, is_opened, logs_beside, stops}
use Rattle.fitting_run.specs.Lines.{logs_for}
use Rattle.fitting_run.specs.Tests.{some_is}
use Rattle.fitting_run.specs.Yard.{Shown}
use Rattle.run_laws.specs.Ended.{Played, Fault, CameTo, LogsBefore, RunEnded, session_in}
use Rattle.run_laws.proofs.Behind.{any-at, any-one}
use Rattle.run_laws.proofs.Causes.{Ended, has-cause, broken-came}
use Rattle.run_laws.proofs.Stopped.{logs-of, same-session, stopped-before}
use Rattle.run_laws.proofs.Telling.{tell}

cause-some : (o : Option Cause) (by : Cause → Bool) → some_is o by ≡ true → (k : Cause) × (o ≡ Some k) × (by k ≡ true)
cause-some None by e = absurd (both_ways false refl e)
cause-some (Some k) by e = (k, refl, e)

-- a line that another of its session logs beside, before it, doesn't stand alone
beside-not_alone : (before : List Played) (t : Played) → IsSome (session_asking t.line.asks) → LogsBefore before (session_in t.line.asks) t.line.phase → is_alone (map tell before) (tell t) ≡ false
beside-not_alone before t some h =
    let s = session_in t.line.asks in
    let w = any-one (λ (u : Played). logs_for s u.line && (u.line.phase == t.line.phase)) before h in
    let u : Played = w.one in
    let is = and_parts (logs_for s u.line) (u.line.phase == t.line.phase) w.passes in
    not_from_true _ (or_right (is_logged (tell t)) (list_any (logs_beside (tell t)) (map tell before)) (any-at tell (logs_beside (tell t)) before u w.among
    (and_from (same_session (tell u) (tell t) && (u.line.phase == t.line.phase)) (is_logged (tell u))
    (and_from (same_session (tell u) (tell t)) (u.line.phase == t.line.phase) (same-session s u.line.asks t.line.asks is.0 refl some) is.1)
    (logs-of s u.line.asks is.0))))

pub record IsOpenedBy (by : ℕ → Cause → Bool) (faults : List Fault) (before : List Played) (t : Played) : Type 0 where
  pub cause : Cause
  pub is : by t.line.node cause ≡ true
  pub rests : (t.paid ≡ Some cause) ⊎ ((is_alone (map tell before) (tell t) ≡ false) × CameTo faults cause t.line.node t.line.phase)

module _ (played : List Played) (fault_lines : List FaultLine) (o : Told) (yard : Shown) (e : RunEnded played fault_lines o yard) where
  pub opened-by : (by : ℕ → Cause → Bool) (before : List Played) (t : Played) → Ended played fault_lines o yard e before t → is_opened by (map tell before) (tell t) ≡ true → IsOpenedBy by e.faults before t
  opened-by by before t h opened =
      let both = and_parts (some_is (cause_of t.row.outcome) (by t.line.node)) (not (list_any (stops (tell t)) (map tell before))) opened in
      let k = cause-some (cause_of t.row.outcome) (by t.line.node) both.0 in
      let broken : is_broken (tell t) ≡ true = or_left (is_open t.row.outcome) (is_late t.row.outcome) (ap is_some k.1) in
      let stopped_early : IsSome (session_asking t.line.asks) → IsSome (e.ends (session_in t.line.asks)).stopped → (e.ends (session_in t.line.asks)).when < t.line.phase → ⊥ =
      λ asking stopped early. both_ways (list_any (stops (tell t)) (map tell before)) (not-true _ both.1) (stopped-before played fault_lines o yard e before t h.0 asking stopped early) in
      record {
        cause = k.0;
        is = k.2;
        rests = elim (has-cause played fault_lines o yard e before t k.0 h k.1) [
          | inl paid ↦ inl paid
          | inr more ↦ elim more.1 [
            | inl stopped ↦
                let some : IsSome (e.ends (session_in t.line.asks)).stopped = rw stopped.0 refl in
                elim stopped.1 [
                  | inl early ↦ absurd (stopped_early more.0 some early)
                  | inr logged ↦ inr (
                    not_from_true _ (or_left (is_logged (tell t)) (list_any (logs_beside (tell t)) (map tell before)) logged),
                    broken-came played fault_lines o yard e before t h logged broken (stopped_early more.0 some) k.0 stopped.0,
                  )
                ]
            | inr came ↦ inr (beside-not_alone before t more.0 came.0, came.1)
          ]
        ];
      }
