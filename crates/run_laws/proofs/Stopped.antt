-- What became of the session of a line: a rank that wasn't answered has a broken row, and stops what is asked in later phases.
use Rattle.std.proofs.Common.{◌≡◌, refl, sym, ap, ◌∙◌, subst, inl, inr, ◌⊎◌, ℕ, ◌+◌, ◌<◌, ◌≤◌, Bool, true, false, ◌&&◌, ◌||◌, ◌==◌, nat_le, List, [], ◌∷◌, ◌++◌, IsSome, map, arith, ltb-true, lt-ltb, eqb-true, eq-eqb}
use Rattle.std.specs.List.{AllByRecursion, list_any}
use Rattle.std.proofs.lemmas.Bool.{and_parts, and_from, both_ways, leb-true}
use Rattle.delos_types.specs.declared.entry.Entry.{Entry}
use Rattle.script_text.specs.declared.asks.Asks.{Asks}
use Rattle.script_text.specs.declared.asks.Asks.TheVariants as asks
use Rattle.script_text.specs.declared.faults.FaultLine.{FaultLine}
use Rattle.row_text.specs.declared.row.Outcome.{Outcome}
use Rattle.row_text.specs.declared.row.Outcome.TheVariants as out
use Rattle.fitting_run.specs.declared.told.Told.{Told}
use Rattle.fitting_run.specs.Answered.{is_late, is_logged, is_open, logs, same_session, before_barrier, session_asking}
use Rattle.fitting_run.specs.Faults.{is_broken, stops}
use Rattle.fitting_run.specs.Lines.{is_of, are_in_phase}
use Rattle.fitting_run.specs.Tests.{some_is}
use Rattle.fitting_run.specs.Yard.{Shown}
use Rattle.log_laws.proofs.Pairs.{all-imply}
use Rattle.run_laws.specs.Ended.{Played, Fault, SessionEnd, LineEnded, CameOf, IsStoppedBy, LogsRank, RunEnded, rank_in, session_in}
use Rattle.run_laws.proofs.Behind.{Cut, after-each, any-at}
use Rattle.run_laws.proofs.Members.{Among, all-at, among-get}
use Rattle.run_laws.proofs.Telling.{tell}

-- Phases don't fall

not_below : (phase : ℕ) (ts : List Played) → are_in_phase phase (map (λ t. t.line) ts) ≡ true → AllByRecursion (λ t. phase ≤ t.line.phase) ts
not_below phase [] e = tt
not_below phase (t ∷ ts) e =
    let h = and_parts (nat_le phase t.line.phase) (are_in_phase t.line.phase (map (λ (t : Played). t.line) ts)) e in
    let here : phase ≤ t.line.phase = leb-true phase t.line.phase h.0 in
    (here, all-imply (λ (u : Played). t.line.phase ≤ u.line.phase) (λ (u : Played). phase ≤ u.line.phase) ts (λ u low. omega (arith, low, here)) (not_below t.line.phase ts h.1))

-- behind a line no phase is below its own
behind-not_below : (phase : ℕ) (before : List Played) (t : Played) (behind : List Played) → are_in_phase phase (map (λ t. t.line) (before ++ t ∷ behind)) ≡ true → AllByRecursion (λ u. t.line.phase ≤ u.line.phase) behind
behind-not_below phase [] t behind e = not_below t.line.phase behind (and_parts (nat_le phase t.line.phase) (are_in_phase t.line.phase (map (λ (t : Played). t.line) behind)) e).1
behind-not_below phase (u ∷ before) t behind e =
    behind-not_below u.line.phase before t behind (and_parts (nat_le phase u.line.phase) (are_in_phase u.line.phase (map (λ (t : Played). t.line) (before ++ t ∷ behind))) e).1

among-cut : {A : Type 0} (before : List A) (x : A) (behind : List A) (y : A) → Among (before ++ x ∷ behind) y → Among before y ⊎ ((x ≡ y) ⊎ Among behind y)
among-cut [] x behind y m = inr m
among-cut (z ∷ before) x behind y m = elim m [
  | inl same ↦ inl (inl same)
  | inr later ↦ elim (among-cut before x behind y later) [ inl n ↦ inl (inr n) | inr n ↦ inr n ]
]

-- a line of an earlier phase stands before
earlier : (played before : List Played) (t u : Played) → are_in_phase 0 (map (λ t. t.line) played) ≡ true → Cut played before t → Among played u → u.line.phase < t.line.phase → Among before u
earlier played before t u e cut m low =
    elim (among-cut before t cut.behind u (subst (λ ts. Among ts u) (sym cut.whole) m)) [
      | inl n ↦ n
      | inr n ↦ elim n [
        | inl same ↦ absurd (let phase : t.line.phase ≡ u.line.phase = ap (λ (v : Played). v.line.phase) same in omega arith)
        | inr later ↦ absurd (
            let high = all-at (λ (v : Played). t.line.phase ≤ v.line.phase) cut.behind u
            (behind-not_below 0 before t cut.behind (subst (λ ts. are_in_phase 0 (map (λ (v : Played). v.line) ts) ≡ true) (sym cut.whole) e)) later in
            omega arith
            )
      ]
    ]

-- Logged lines and their sessions

-- a session was stopped in this phase or before
abbrev pub IsStopped : SessionEnd → ℕ → Type 0
IsStopped e phase = IsSome e.stopped × (e.when ≤ phase)

abbrev breaks : Outcome → Bool
breaks o = is_open o || is_late o

-- a line's rank wasn't answered just where its row is broken, and then its session was stopped
abbrev IsBrokenBy : SessionEnd → ℕ → Asks → Outcome → Type 0
IsBrokenBy e phase (asks.Logged s r c) o = (e.answered < r → breaks o ≡ true) × (breaks o ≡ true → IsStopped e phase)
IsBrokenBy e phase (asks.Look s q) o = Unit {0}
IsBrokenBy e phase (asks.Admin a) o = Unit {0}

broken-by : (log : List Entry) (tails : ℕ → ℕ) (faults : List Fault) (ends : ℕ → SessionEnd) (before : List Played) (t : Played) (a : Asks) (o : Outcome)
    → CameOf log tails faults ends before t a o → IsStoppedBy (ends (session_in a)) t.line.phase a → IsBrokenBy (ends (session_in a)) t.line.phase a o
broken-by log tails faults ends before t (asks.Logged s r c) (out.Placed place reply late) h stopped = (
  λ above. h.late_is ∙ lt-ltb (ends s.id).answered r above,
  λ e. stopped (ltb-true (ends s.id).answered r (sym h.late_is ∙ e)),
)
broken-by log tails faults ends before t (asks.Logged s r c) (out.Open cause) h stopped = (λ above. refl, λ e. stopped h.above)
broken-by log tails faults ends before t (asks.Logged s r c) o h stopped = absurd h
broken-by log tails faults ends before t (asks.Look s q) o h stopped = tt
broken-by log tails faults ends before t (asks.Admin a) o h stopped = tt

stopped_at : (e : SessionEnd) (phase : ℕ) (a : Asks) (o : Outcome) → IsBrokenBy e phase a o → logs a ≡ true → breaks o ≡ true → IsStopped e phase
stopped_at e phase (asks.Logged s r c) o h l b = h.1 b
stopped_at e phase (asks.Look s q) o h l b = absurd (both_ways false refl l)
stopped_at e phase (asks.Admin a) o h l b = absurd (both_ways false refl l)

-- its rank wasn't answered
missed_at : (ends : ℕ → SessionEnd) (phase s r : ℕ) (a : Asks) (o : Outcome) → IsBrokenBy (ends (session_in a)) phase a o → is_of s a ≡ true → rank_in a ≡ r → (ends s).answered < r → breaks o ≡ true
missed_at ends phase s r (asks.Logged t u c) o h is rank above =
    let session : t.id ≡ s = eqb-true t.id s is in
    h.0 (subst (λ n. (ends n).answered < u) (sym session) (subst (λ n. (ends s).answered < n) (sym rank) above))
missed_at ends phase s r (asks.Look t q) o h is rank above = absurd (both_ways false refl is)
missed_at ends phase s r (asks.Admin a) o h is rank above = absurd (both_ways false refl is)

pub logs-of : (s : ℕ) (a : Asks) → is_of s a ≡ true → logs a ≡ true
logs-of s (asks.Logged t r c) is = refl
logs-of s (asks.Look t q) is = absurd (both_ways false refl is)
logs-of s (asks.Admin a) is = absurd (both_ways false refl is)

pub same-session : (s : ℕ) (a b : Asks) → is_of s a ≡ true → session_in b ≡ s → IsSome (session_asking b) → some_is (session_asking a) (λ t. some_is (session_asking b) (λ u. t.id == u.id)) ≡ true
same-session s (asks.Logged t r c) (asks.Logged u q d) is e some = eq-eqb t.id u.id (eqb-true t.id s is ∙ sym e)
same-session s (asks.Logged t r c) (asks.Look u q) is e some = eq-eqb t.id u.id (eqb-true t.id s is ∙ sym e)
same-session s (asks.Logged t r c) (asks.Admin a) is e some = absurd (both_ways false refl some)
same-session s (asks.Look t q) b is e some = absurd (both_ways false refl is)
same-session s (asks.Admin a) b is e some = absurd (both_ways false refl is)

module _ (played : List Played) (fault_lines : List FaultLine) (o : Told) (yard : Shown) (e : RunEnded played fault_lines o yard) where
  abbrev end_of : Played → SessionEnd
  end_of t = e.ends (session_in t.line.asks)

  all_broken : AllByRecursion (λ t. IsBrokenBy (end_of t) t.line.phase t.line.asks t.row.outcome) played
  all_broken =
      after-each (LineEnded e.log e.tails e.faults e.ends) (λ t. IsBrokenBy (end_of t) t.line.phase t.line.asks t.row.outcome) [] played
      (λ b t h. broken-by e.log e.tails e.faults e.ends b t t.line.asks t.row.outcome h.came h.missed) e.lines

  -- a session that was stopped in an earlier phase is stopped by a row before
  pub stopped-before : (before : List Played) (t : Played) → Cut played before t → IsSome (session_asking t.line.asks) → IsSome (e.ends (session_in t.line.asks)).stopped → (e.ends (session_in t.line.asks)).when < t.line.phase → list_any (stops (tell t)) (map tell before) ≡ true
  stopped-before before t cut some stopped early =
      let s = session_in t.line.asks in
      let l : LogsRank played s ((e.ends s).answered + 1) (e.ends s).when = (e.sessions s).unanswered stopped in
      let u : Played = l.turn in
      let m = among-get played l.at u l.is in
      let when = l.early in
      let low : u.line.phase < t.line.phase = omega (arith, when, early) in
      let above : (e.ends s).answered < (e.ends s).answered + 1 = omega arith in
      let broken = missed_at e.ends u.line.phase s ((e.ends s).answered + 1) u.line.asks u.row.outcome
      (all-at (λ (v : Played). IsBrokenBy (end_of v) v.line.phase v.line.asks v.row.outcome) played u all_broken m) l.logs l.rank above in
      any-at tell (stops (tell t)) before u (earlier played before t u e.phases cut m low)
      (and_from (same_session (tell u) (tell t) && before_barrier (tell u) (tell t) && is_logged (tell u)) (is_broken (tell u))
      (and_from (same_session (tell u) (tell t) && before_barrier (tell u) (tell t)) (is_logged (tell u))
      (and_from (same_session (tell u) (tell t)) (before_barrier (tell u) (tell t)) (same-session s u.line.asks t.line.asks l.logs refl some) (lt-ltb u.line.phase t.line.phase low))
      (logs-of s u.line.asks l.logs)) broken)

  -- a logged row that is broken: its session was stopped in its phase or before
  pub broken-stopped : (t : Played) → Among played t → is_logged (tell t) ≡ true → is_broken (tell t) ≡ true → IsStopped (e.ends (session_in t.line.asks)) t.line.phase
  broken-stopped t m logged broken =
      stopped_at (end_of t) t.line.phase t.line.asks t.row.outcome (all-at (λ (v : Played). IsBrokenBy (end_of v) v.line.phase v.line.asks v.row.outcome) played t all_broken m) logged broken
