-- What a line's row tells: where its command acted on time, where its read looked; and which rank the line logs.
use Rattle.std.proofs.Common.{◌≡◌, refl, sym, ap, ◌∙◌, subst, ℕ, ◌+◌, ◌<◌, ◌≤◌, true, false, cond, List, [], ◌∷◌, ◌++◌, Some, None, IsSome, length, map, take, count_by, is_some, ◌==◌, ◌||◌, arith, eq-eqb, eqb-true, ltb-false}
use Rattle.std.proofs.lemmas.Bool.{and_parts, both_ways}
use Rattle.std.proofs.lemmas.List.{map-append}
use Rattle.std.proofs.lemmas.List.Sums.{sum_by-append, sum_by-cons}
use Rattle.delos_types.specs.declared.entry.Entry.{Entry}
use Rattle.delos_types.specs.declared.place.Place.{Place}
use Rattle.engine_api.specs.declared.act.Act.{Act}
use Rattle.engine_api.specs.Acted.{asked_in}
use Rattle.engine_api.specs.Order.{gap_from}
use Rattle.log_laws.specs.State.{acts_in}
use Rattle.script_text.specs.declared.line.Admin.TheVariants.{Extend, Alive, Trim, Retire}
use Rattle.script_text.specs.declared.asks.NamedLine.{NamedLine}
use Rattle.script_text.specs.declared.asks.Asks.{Asks}
use Rattle.script_text.specs.declared.asks.Asks.TheVariants as asks
use Rattle.row_text.specs.declared.row.Outcome.{Outcome}
use Rattle.row_text.specs.declared.row.Outcome.TheVariants as out
use Rattle.fitting_run.specs.Answered.{is_late, is_open, logs, looked_at, place_on_time, session_asking}
use Rattle.fitting_run.specs.Lines.{are_ranked, has_rank, is_of, logs_for}
use Rattle.fitting_run.specs.Tests.{some_is}
use Rattle.run_laws.specs.Ended.{AllAfter, CameOf, Fault, Played, SessionEnd, act_of_rank, rank_in, session_in}
use Rattle.run_laws.proofs.Members.{Among, found-among}
use Rattle.run_laws.proofs.Placing.{is_rank}

-- Rows

-- the line's command acted at this place, in its phase
pub record IsOnTime (log : List Entry) (tails : ℕ → ℕ) (phase : ℕ) (a : Asks) (p : Place) : Type 0 where
  pub logged : logs a ≡ true
  pub act : Act
  pub found : act_of_rank log (session_in a) (rank_in a) ≡ Some act
  pub place_is : p ≡ act.place
  pub from : tails phase ≤ p.pos
  pub upto : p.pos < tails (phase + 1)

-- the line's read looked at the table after the first `after` entries
pub record IsLook (log : List Entry) (tails : ℕ → ℕ) (before : List Played) (phase : ℕ) (a : Asks) (after : ℕ) : Type 0 where
  pub within : after ≤ length log
  pub sees : gap_from (asked_in 0 (take after log)) (session_in a) 1 ≡ count_by (λ t. logs_for (session_in a) t.line) before + 1
  pub from : tails phase ≤ after
  pub upto : after ≤ tails (phase + 1)

none_some : {A : Type 0} (x : A) → None ≡ Some x → ⊥
none_some x e = cc

module _ (log : List Entry) (tails : ℕ → ℕ) (faults : List Fault) (ends : ℕ → SessionEnd) (before : List Played) (t : Played) where
  pub on-time : (a : Asks) (o : Outcome) (p : Place) → CameOf log tails faults ends before t a o → place_on_time o ≡ Some p → IsOnTime log tails t.line.phase a p
  on-time (asks.Logged s r c) (out.Placed place reply false) p h e =
      let same : place ≡ p = cc in
      let is : p ≡ h.act.place = sym same ∙ h.place_is in
      record {
        logged = refl;
        act = h.act;
        found = h.found;
        place_is = is;
        from = subst (λ (q : Place). tails t.line.phase ≤ q.pos) (sym is) h.from;
        upto = subst (λ (q : Place). q.pos < tails (t.line.phase + 1)) (sym is) (h.upto (ltb-false (ends s.id).answered r (sym h.late_is)));
      }
  on-time (asks.Logged s r c) (out.Placed place reply true) p h e = absurd (none_some p e)
  on-time (asks.Logged s r c) (out.Open cause) p h e = absurd (none_some p e)
  on-time (asks.Logged s r c) o p h e = absurd h
  on-time (asks.Look s q) (out.Open cause) p h e = absurd (none_some p e)
  on-time (asks.Look s q) (out.Read after found) p h e = absurd (none_some p e)
  on-time (asks.Look s q) o p h e = absurd h
  on-time (asks.Admin Extend) (out.Placed place reply late) p h e = absurd h
  on-time (asks.Admin Alive) (out.Placed place reply late) p h e = absurd h
  on-time (asks.Admin Trim) (out.Placed place reply late) p h e = absurd h
  on-time (asks.Admin Retire) (out.Placed place reply late) p h e = absurd h
  on-time (asks.Admin a) o p h e = absurd (none_some p e)

  pub looked : (a : Asks) (o : Outcome) (after : ℕ) → CameOf log tails faults ends before t a o → looked_at o ≡ Some after → IsLook log tails before t.line.phase a after
  looked (asks.Look s q) (out.Read at found) after h e =
      let same : at ≡ after = cc in
      subst (IsLook log tails before t.line.phase (asks.Look s q)) same (record { within = h.within; sees = h.sees; from = h.from; upto = h.upto })
  looked (asks.Look s q) (out.Open cause) after h e = absurd (none_some after e)
  looked (asks.Look s q) o after h e = absurd h
  looked (asks.Logged s r c) (out.Placed place reply late) after h e = absurd (none_some after e)
  looked (asks.Logged s r c) (out.Open cause) after h e = absurd (none_some after e)
  looked (asks.Logged s r c) o after h e = absurd h
  looked (asks.Admin Extend) (out.Read at found) after h e = absurd h
  looked (asks.Admin Alive) (out.Read at found) after h e = absurd h
  looked (asks.Admin Trim) (out.Read at found) after h e = absurd h
  looked (asks.Admin Retire) (out.Read at found) after h e = absurd h
  looked (asks.Admin a) o after h e = absurd (none_some after e)

  -- a logged row that isn't placed in its phase is open or late
  pub not-on_time : (a : Asks) (o : Outcome) → CameOf log tails faults ends before t a o → logs a ≡ true → is_some (place_on_time o) ≡ false → (is_open o || is_late o) ≡ true
  not-on_time (asks.Logged s r c) (out.Placed place reply true) h l e = refl
  not-on_time (asks.Logged s r c) (out.Placed place reply false) h l e = absurd (both_ways true e refl)
  not-on_time (asks.Logged s r c) (out.Open cause) h l e = refl
  not-on_time (asks.Logged s r c) o h l e = absurd h
  not-on_time (asks.Look s q) o h l e = absurd (both_ways false refl l)
  not-on_time (asks.Admin a) o h l e = absurd (both_ways false refl l)

-- the act of a line whose command acted
pub record IsActOf (log : List Entry) (a : Asks) (act : Act) : Type 0 where
  pub among : Among (acts_in log) act
  pub session : act.session ≡ session_in a
  pub rank : act.rank ≡ rank_in a

pub its-act : (log : List Entry) (a : Asks) (act : Act) → act_of_rank log (session_in a) (rank_in a) ≡ Some act → IsActOf log a act
its-act log a act e =
    let found = found-among (is_rank (session_in a) (rank_in a)) (acts_in log) act e in
    let parts = and_parts (act.session == session_in a) (act.rank == rank_in a) found.1 in
    record { among = found.0; session = eqb-true act.session (session_in a) parts.0; rank = eqb-true act.rank (rank_in a) parts.1 }

-- Lines

pub one-session : (a b : Asks) → some_is (session_asking a) (λ s. some_is (session_asking b) (λ t. s.id == t.id)) ≡ true → session_in a ≡ session_in b
one-session (asks.Logged s r c) (asks.Logged t u d) e = eqb-true s.id t.id e
one-session (asks.Logged s r c) (asks.Look t q) e = eqb-true s.id t.id e
one-session (asks.Look s p) (asks.Logged t u d) e = eqb-true s.id t.id e
one-session (asks.Look s p) (asks.Look t q) e = eqb-true s.id t.id e
one-session (asks.Admin a) b e = absurd (both_ways false refl e)
one-session (asks.Logged s r c) (asks.Admin b) e = absurd (both_ways false refl e)
one-session (asks.Look s p) (asks.Admin b) e = absurd (both_ways false refl e)

-- the other of two lines of one session has a session
pub has-session : (a b : Asks) → some_is (session_asking a) (λ s. some_is (session_asking b) (λ t. s.id == t.id)) ≡ true → IsSome (session_asking b)
has-session (asks.Admin a) b e = absurd (both_ways false refl e)
has-session (asks.Logged s r c) (asks.Admin b) e = absurd (both_ways false refl e)
has-session (asks.Look s p) (asks.Admin b) e = absurd (both_ways false refl e)
has-session a b e = refl

-- how many of these lines log a command of the session
abbrev pub logged_by : ℕ → List Played → ℕ
logged_by s ts = count_by (λ t. logs_for s t.line) ts

-- a line that logs has the next rank of its session
abbrev pub IsRanked : List Played → Played → Type 0
IsRanked before t = logs t.line.asks ≡ true → rank_in t.line.asks ≡ logged_by (session_in t.line.asks) before + 1

count-lines : (s : ℕ) (ts : List Played) → count_by (logs_for s) (map (λ t. t.line) ts) ≡ logged_by s ts
count-lines s [] = refl
count-lines s (t ∷ ts) =
    let more = count-lines s ts in
    omega (arith, more, sum_by-cons (λ (l : NamedLine). cond (logs_for s l) 1 0) t.line (map (λ (u : Played). u.line) ts), sum_by-cons (λ (u : Played). cond (logs_for s u.line) 1 0) t ts)

rank-is : (before : List Played) (a : Asks) → has_rank (map (λ t. t.line) before) a ≡ true → logs a ≡ true → rank_in a ≡ logged_by (session_in a) before + 1
rank-is before (asks.Logged s r c) e l =
    let is = eqb-true r (count_by (logs_for s.id) (map (λ (t : Played). t.line) before) + 1) e in
    omega (arith, is, count-lines s.id before)
rank-is before (asks.Look s q) e l = absurd (both_ways false refl l)
rank-is before (asks.Admin a) e l = absurd (both_ways false refl l)

pub all_ranked : (before ts : List Played) → are_ranked (map (λ t. t.line) before) (map (λ t. t.line) ts) ≡ true → AllAfter IsRanked before ts
all_ranked before [] e = tt
all_ranked before (t ∷ ts) e =
    let lines = map (λ (u : Played). u.line) ts in
    let h = and_parts (has_rank (map (λ (u : Played). u.line) before) t.line.asks) (are_ranked (map (λ (u : Played). u.line) before ++ t.line ∷ []) lines) e in
    (rank-is before t.line.asks h.0, all_ranked (before ++ t ∷ []) ts (subst (λ b. are_ranked b lines ≡ true) (sym (map-append (λ (u : Played). u.line) before (t ∷ []))) h.1))

own-logs : (a : Asks) → logs a ≡ true → is_of (session_in a) a ≡ true
own-logs (asks.Logged s r c) l = eq-eqb s.id s.id refl
own-logs (asks.Look s q) l = absurd (both_ways false refl l)
own-logs (asks.Admin a) l = absurd (both_ways false refl l)

-- behind a line as many of its session are logged as before it
pub logged-more : (s : ℕ) (before : List Played) (t : Played) (mid : List Played) → session_in t.line.asks ≡ s → logged_by (session_in t.line.asks) before ≤ logged_by s (before ++ t ∷ mid)
logged-more s before t mid is =
    let n = logged_by (session_in t.line.asks) before in
    subst (λ r. n ≤ logged_by r (before ++ t ∷ mid)) is (omega (arith, sum_by-append (λ (u : Played). cond (logs_for (session_in t.line.asks) u.line) 1 0) before (t ∷ mid)))

-- and it too, where it logs
pub logged-own : (s : ℕ) (before : List Played) (t : Played) (mid : List Played) → session_in t.line.asks ≡ s → logs t.line.asks ≡ true → logged_by (session_in t.line.asks) before + 1 ≤ logged_by s (before ++ t ∷ mid)
logged-own s before t mid is l =
    let n = logged_by (session_in t.line.asks) before in
    let counts : Played → ℕ = λ u. cond (logs_for (session_in t.line.asks) u.line) 1 0 in
    let own : ◌≡◌ {A = ℕ} (cond (logs_for (session_in t.line.asks) t.line) 1 0) 1 = ap (λ b. cond b 1 0) (own-logs t.line.asks l) in
    subst (λ r. n + 1 ≤ logged_by r (before ++ t ∷ mid)) is (omega (arith, own, sum_by-append counts before (t ∷ mid), sum_by-cons counts t mid))
