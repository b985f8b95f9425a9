-- Why a row is open or late: the fault that its session was stopped by, the one that came to it, or its own look's.
use Rattle.std.proofs.Common.{◌≡◌, refl, sym, ap, ◌∙◌, subst, inl, inr, ◌⊎◌, ℕ, ◌<◌, true, false, List, ◌∷◌, Option, Some, None, IsSome, arith}
use Rattle.std.proofs.lemmas.Bool.{both_ways, cases_lt}
use Rattle.delos_types.specs.declared.entry.Entry.{Entry}
use Rattle.delos_types.specs.declared.cause.Cause.{Cause}
use Rattle.script_text.specs.declared.line.Admin.TheVariants.{Extend, Alive, Trim, Retire}
use Rattle.script_text.specs.declared.asks.Asks.{Asks}
use Rattle.script_text.specs.declared.asks.Asks.TheVariants as asks
use Rattle.script_text.specs.declared.faults.FaultLine.{FaultLine}
use Rattle.row_text.specs.declared.row.Outcome.{Outcome}
use Rattle.row_text.specs.declared.row.Outcome.TheVariants as out
use Rattle.fitting_run.specs.declared.told.Told.{Told}
use Rattle.fitting_run.specs.Answered.{cause_of, is_late, is_logged, is_open, logs, session_asking}
use Rattle.fitting_run.specs.Faults.{is_broken, stands}
use Rattle.fitting_run.specs.Yard.{Shown}
use Rattle.run_laws.specs.Ended.{Played, Fault, SessionEnd, LineEnded, CameOf, CameTo, IsAtHome, LogsBefore, PaidStands, RunEnded, session_in}
use Rattle.run_laws.proofs.Behind.{Cut}
use Rattle.run_laws.proofs.Members.{Among, all-at, among-right, contained-among}
use Rattle.run_laws.proofs.Stopped.{broken-stopped}
use Rattle.run_laws.proofs.Telling.{tell}

-- the cause that a row is open for
abbrev pub HasCause : List Fault → SessionEnd → List Played → Played → ℕ → Cause → Type 0
HasCause faults e before t s cause =
    (t.paid ≡ Some cause)
    ⊎ (IsSome (session_asking t.line.asks) × (((e.stopped ≡ Some cause) × ((e.when < t.line.phase) ⊎ (is_logged (tell t) ≡ true)))
    ⊎ (LogsBefore before s t.line.phase × CameTo faults cause t.line.node t.line.phase)))

no_cause : (k : Cause) → None ≡ Some k → ⊥
no_cause k e = cc

same_cause : (j k : Cause) → Some j ≡ Some k → j ≡ k
same_cause j k e = cc

cause-had : (log : List Entry) (tails : ℕ → ℕ) (faults : List Fault) (ends : ℕ → SessionEnd) (before : List Played) (t : Played) (a : Asks) (o : Outcome) (k : Cause)
    → CameOf log tails faults ends before t a o → t.line.asks ≡ a → cause_of o ≡ Some k → HasCause faults (ends (session_in a)) before t (session_in a) k
cause-had log tails faults ends before t (asks.Logged s r c) (out.Open j) k h is e =
    inr (rw is refl, inl (h.stopped ∙ e, inr (ap logs is)))
cause-had log tails faults ends before t (asks.Logged s r c) (out.Placed place reply late) k h is e = absurd (no_cause k e)
cause-had log tails faults ends before t (asks.Logged s r c) o k h is e = absurd h
cause-had log tails faults ends before t (asks.Look s q) (out.Open j) k h is e =
    elim h [
      | inl paid ↦ inl (paid ∙ e)
      | inr more ↦ elim more [
        | inl stopped ↦ inr (rw is refl, inl (stopped.0 ∙ e, inl stopped.1))
        | inr came ↦ inr (rw is refl, inr (came.0, subst (λ c. CameTo faults c t.line.node t.line.phase) (same_cause j k e) came.1))
      ]
    ]
cause-had log tails faults ends before t (asks.Look s q) (out.Read after found) k h is e = absurd (no_cause k e)
cause-had log tails faults ends before t (asks.Look s q) o k h is e = absurd h
cause-had log tails faults ends before t (asks.Admin a) (out.Open j) k h is e = inl (h ∙ e)
cause-had log tails faults ends before t (asks.Admin a) o k h is e = absurd (no_cause k e)

-- a logged row that is open tells why its session was stopped
pub logged-stop : (log : List Entry) (tails : ℕ → ℕ) (faults : List Fault) (ends : ℕ → SessionEnd) (before : List Played) (t : Played) (a : Asks) (o : Outcome) (k : Cause)
    → CameOf log tails faults ends before t a o → logs a ≡ true → cause_of o ≡ Some k → (ends (session_in a)).stopped ≡ Some k
logged-stop log tails faults ends before t (asks.Logged s r c) (out.Open j) k h l e = h.stopped ∙ e
logged-stop log tails faults ends before t (asks.Logged s r c) (out.Placed place reply late) k h l e = absurd (no_cause k e)
logged-stop log tails faults ends before t (asks.Logged s r c) o k h l e = absurd h
logged-stop log tails faults ends before t (asks.Look s q) o k h l e = absurd (both_ways false refl l)
logged-stop log tails faults ends before t (asks.Admin a) o k h l e = absurd (both_ways false refl l)

-- only a logged row is late
late-logged : (log : List Entry) (tails : ℕ → ℕ) (faults : List Fault) (ends : ℕ → SessionEnd) (before : List Played) (t : Played) (a : Asks) (o : Outcome)
    → CameOf log tails faults ends before t a o → is_late o ≡ true → (logs a ≡ true) × (is_open o ≡ false)
late-logged log tails faults ends before t (asks.Logged s r c) (out.Placed place reply late) h e = (refl, refl)
late-logged log tails faults ends before t (asks.Logged s r c) (out.Open j) h e = absurd (both_ways false refl e)
late-logged log tails faults ends before t (asks.Logged s r c) o h e = absurd h
late-logged log tails faults ends before t (asks.Look s q) (out.Open j) h e = absurd (both_ways false refl e)
late-logged log tails faults ends before t (asks.Look s q) (out.Read after found) h e = absurd (both_ways false refl e)
late-logged log tails faults ends before t (asks.Look s q) o h e = absurd h
late-logged log tails faults ends before t (asks.Admin Extend) (out.Placed place reply late) h e = absurd h
late-logged log tails faults ends before t (asks.Admin Alive) (out.Placed place reply late) h e = absurd h
late-logged log tails faults ends before t (asks.Admin Trim) (out.Placed place reply late) h e = absurd h
late-logged log tails faults ends before t (asks.Admin Retire) (out.Placed place reply late) h e = absurd h
late-logged log tails faults ends before t (asks.Admin a) o h e = absurd (both_ways false refl e)

at-home : (home : ℕ → ℕ) (node : ℕ) (a : Asks) → IsAtHome home node a → IsSome (session_asking a) → node ≡ home (session_in a)
at-home home node (asks.Logged s r c) h some = h
at-home home node (asks.Look s q) h some = h
at-home home node (asks.Admin a) h some = absurd (both_ways false refl some)

logged-session : (a : Asks) → logs a ≡ true → IsSome (session_asking a)
logged-session (asks.Logged s r c) l = refl
logged-session (asks.Look s q) l = refl
logged-session (asks.Admin a) l = absurd (both_ways false refl l)

pub some-of : (o : Option Cause) → IsSome o → (k : Cause) × (o ≡ Some k)
some-of None h = absurd (both_ways false refl h)
some-of (Some k) h = (k, refl)

module _ (played : List Played) (fault_lines : List FaultLine) (o : Told) (yard : Shown) (e : RunEnded played fault_lines o yard) where
  abbrev pub Ended : List Played → Played → Type 0
  Ended before t = Cut played before t × LineEnded e.log e.tails e.faults e.ends before t

  pub ended-among : (before : List Played) (t : Played) → Ended before t → Among played t
  ended-among before t h = subst (λ ts. Among ts t) h.0.whole (among-right before (t ∷ h.0.behind) t (inl refl))

  pub has-cause : (before : List Played) (t : Played) (k : Cause) → Ended before t → cause_of t.row.outcome ≡ Some k → HasCause e.faults (e.ends (session_in t.line.asks)) before t (session_in t.line.asks) k
  has-cause before t k h is = cause-had e.log e.tails e.faults e.ends before t t.line.asks t.row.outcome k h.1.came refl is

  -- the fault that stopped the session of a line came to the line's node
  pub stop-came : (t : Played) (k : Cause) → Among played t → IsSome (session_asking t.line.asks) → (e.ends (session_in t.line.asks)).stopped ≡ Some k → CameTo e.faults k t.line.node (e.ends (session_in t.line.asks)).when
  stop-came t k m some stopped =
      let s = session_in t.line.asks in
      subst (λ n. CameTo e.faults k n (e.ends s).when) (sym (at-home e.home t.line.node t.line.asks (all-at (λ (u : Played). IsAtHome e.home u.line.node u.line.asks) played t e.at_home m) some)) ((e.sessions s).fault k stopped)

  pub came-stands : (k : Cause) (node phase : ℕ) → CameTo e.faults k node phase → stands yard node k ≡ true
  came-stands k node phase c =
      let f : Fault = c.fault in
      let there = all-at (λ (f : Fault). stands yard f.node f.cause ≡ true) e.faults f e.came.stand (contained-among e.faults f c.among) in
      subst (λ n. stands yard n k ≡ true) c.node_is (subst (λ j. stands yard f.node j ≡ true) c.cause_is there)

  pub cause-stands : (before : List Played) (t : Played) (k : Cause) → Ended before t → cause_of t.row.outcome ≡ Some k → stands yard t.line.node k ≡ true
  cause-stands before t k h is =
      let m = ended-among before t h in
      elim (has-cause before t k h is) [
        | inl paid ↦ all-at (PaidStands yard) played t e.came.paid m k paid
        | inr more ↦ elim more.1 [
          | inl stopped ↦ came-stands k t.line.node (e.ends (session_in t.line.asks)).when (stop-came t k m more.0 stopped.0)
          | inr came ↦ came-stands k t.line.node t.line.phase came.1
        ]
      ]

  -- where the session of a logged row was stopped in its phase
  pub broken-came : (before : List Played) (t : Played) → Ended before t → is_logged (tell t) ≡ true → is_broken (tell t) ≡ true → ((e.ends (session_in t.line.asks)).when < t.line.phase → ⊥)
      → (k : Cause) → (e.ends (session_in t.line.asks)).stopped ≡ Some k → CameTo e.faults k t.line.node t.line.phase
  broken-came before t h logged broken early k stopped =
      let s = session_in t.line.asks in
      let m = ended-among before t h in
      let st = broken-stopped played fault_lines o yard e t m logged broken in
      let low = st.1 in
      elim (cases_lt (e.ends s).when t.line.phase) [
        | inl before_it ↦ absurd (early before_it)
        | inr high ↦ subst (CameTo e.faults k t.line.node) (let z : (e.ends s).when ≡ t.line.phase = omega (arith, low, high) in z) (stop-came t k m (logged-session t.line.asks logged) stopped)
      ]

  -- a late row: a fault came to its node in its phase
  pub late-came : (before : List Played) (t : Played) → Ended before t → is_late t.row.outcome ≡ true → (k : Cause) × CameTo e.faults k t.line.node t.line.phase
  late-came before t h late =
      let s = session_in t.line.asks in
      let m = ended-among before t h in
      let l = late-logged e.log e.tails e.faults e.ends before t t.line.asks t.row.outcome h.1.came late in
      let broken : is_broken (tell t) ≡ true = rw l.1 late in
      let st = broken-stopped played fault_lines o yard e t m l.0 broken in
      let k = some-of (e.ends s).stopped st.0 in
      (k.0, broken-came before t h l.0 broken (λ early. both_ways (is_open t.row.outcome) l.1 (ap is_open (h.1.stopped (logged-session t.line.asks l.0) k.0 k.1 early))) k.0 k.1)
