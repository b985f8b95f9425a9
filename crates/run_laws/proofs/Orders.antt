-- One row for each line, and the order of sessions and barriers.
use Rattle.std.proofs.Common.{◌≡◌, refl, sym, ap, ◌∙◌, subst, inl, inr, ℕ, zero, suc, ◌+◌, ◌<◌, ◌≤◌, Bool, true, false, not, if◌then◌else◌, Option, Some, None, IsSome, List, [], ◌∷◌, ◌++◌, length, map, nat_lt, nat_le, ◌==◌, ◌&&◌, ◌||◌, arith, le-leb, lt-ltb, ltb-true, ltb-false, eq-eqb}
use Rattle.std.specs.List.{AllByRecursion, filter_map, list_all, list_any}
use Rattle.std.proofs.lemmas.Bool.{and_from, and_parts, cases_lt, not-true, or_left, or_right}
use Rattle.std.proofs.lemmas.List.{length-map}
use Rattle.delos_types.specs.declared.entry.Entry.{Entry}
use Rattle.delos_types.specs.declared.place.Place.{Place}
use Rattle.delos_types.specs.declared.cause.Cause.{Cause}
use Rattle.delos_types.specs.declared.cause.Cause.TheVariants as cause
use Rattle.engine_api.specs.declared.act.Act.{Act}
use Rattle.log_laws.specs.State.{acts_in}
use Rattle.script_text.specs.declared.faults.FaultLine.{FaultLine}
use Rattle.fitting_run.specs.declared.answered.Answered.{Answered}
use Rattle.fitting_run.specs.declared.told.Told.{Told}
use Rattle.fitting_run.specs.Answered.{before_barrier, cause_of, same_cause, is_logged, is_open, is_placed_on_time, looked_at, on_time, place_le, place_on_time, same_session, session_asking}
use Rattle.fitting_run.specs.Faults.{is_broken, stops}
use Rattle.fitting_run.specs.Fits.{told_of}
use Rattle.fitting_run.specs.Outcomes.{KeepsSessionOrder, OneRowEach, begins_upto, comes_below, is_row_of, is_stopped_by, keeps_barrier, keeps_barriers, rises, stop_cause}
use Rattle.fitting_run.specs.Tests.{each_pair, where_some}
use Rattle.fitting_run.specs.Yard.{Shown}
use Rattle.fitting_run.proofs.Implied.{pairs_given}
use Rattle.script_text.specs.declared.line.Admin.TheVariants.{Extend, Alive, Trim, Retire}
use Rattle.script_text.specs.declared.asks.Asks.{Asks}
use Rattle.script_text.specs.declared.asks.Asks.TheVariants as asks
use Rattle.row_text.specs.declared.row.Outcome.{Outcome}
use Rattle.row_text.specs.declared.row.Outcome.TheVariants as out
use Rattle.log_laws.specs.Order.{ActsBefore}
use Rattle.log_laws.proofs.Acting.{in_order}
use Rattle.run_laws.specs.Ended.{AllAfter, CameOf, Fault, Played, RunEnded, SessionEnd, session_in}
use Rattle.run_laws.proofs.Answering.{IsLook, IsOnTime, IsRanked, all_ranked, has-session, its-act, logged_by, logged-own, looked, not-on_time, on-time, one-session}
use Rattle.run_laws.proofs.Behind.{after-both, after-each, any-mapped, pairs-behind}
use Rattle.run_laws.proofs.Causes.{Ended, logged-stop, some-of}
use Rattle.run_laws.proofs.Members.{Among, all-at, all-of, all-test}
use Rattle.run_laws.proofs.Occasions.{all_ended}
use Rattle.run_laws.proofs.Pairs.{pair-at, pairs-any, pairs-both}
use Rattle.run_laws.proofs.Ranks.{RanksRise, ranks-rise}
use Rattle.run_laws.proofs.Stopped.{IsStopped, broken-stopped}
use Rattle.run_laws.proofs.Telling.{all_have_rows, tell, told-is}
use Rattle.run_laws.proofs.Tests.{each_pair-from, implies-from, where_some-from}

-- Places

before-place_le : (a b : Act) → ActsBefore a b → place_le a.place b.place ≡ true
before-place_le a b h =
    let below = nat_lt a.place.pos b.place.pos in
    let beside = (a.place.pos == b.place.pos) && nat_le a.place.sub b.place.sub in
    elim h [
      | inl earlier ↦ elim earlier [
        | inl low ↦ or_left below beside (lt-ltb a.place.pos b.place.pos low)
        | inr here ↦ or_right below beside (and_from (a.place.pos == b.place.pos) (nat_le a.place.sub b.place.sub) (eq-eqb a.place.pos b.place.pos here.0)
            (le-leb a.place.sub b.place.sub (let low = here.1 in omega (arith, low))))
      ]
      | inr same ↦
          let sub : a.place.sub ≡ b.place.sub = ap (λ (p : Place). p.sub) same.0 in
          or_right below beside (and_from (a.place.pos == b.place.pos) (nat_le a.place.sub b.place.sub) (eq-eqb a.place.pos b.place.pos (ap (λ (p : Place). p.pos) same.0))
          (le-leb a.place.sub b.place.sub (omega (arith, sub))))
    ]

-- of a session the act of a higher rank isn't placed below
higher-place_le : (log : List Entry) (a b : Act) → Among (acts_in log) a → Among (acts_in log) b → a.session ≡ b.session → a.rank < b.rank → place_le a.place b.place ≡ true
higher-place_le log a b m n session rank =
    elim (pair-at (λ a b. ActsBefore a b × RanksRise a b) (acts_in log) a b (pairs-both ActsBefore RanksRise (acts_in log) (in_order log) (ranks-rise log)) m n) [
      | inl same ↦ absurd (let rank_is : a.rank ≡ b.rank = ap (λ (c : Act). c.rank) same in omega (arith, rank, rank_is))
      | inr apart ↦ elim apart [
        | inl ahead ↦ before-place_le a b ahead.0
        | inr behind ↦ absurd (let less = behind.1 (sym session) in omega (arith, rank, less))
      ]
    ]

-- Causes

cause-itself : (c : Cause) → same_cause c c ≡ true
cause-itself (cause.NoQuorum l u) = and_from (l == l) (u == u) (eq-eqb l l refl) (eq-eqb u u refl)
cause-itself (cause.Full l) = eq-eqb l l refl
cause-itself cause.Meta = refl
cause-itself cause.Store = refl

-- Tails

pub tails-rise : (tails : ℕ → ℕ) → ((phase : ℕ) → tails phase ≤ tails (phase + 1)) → (n m : ℕ) → n ≤ m → tails n ≤ tails m
tails-rise tails rise n zero low = let is : n ≡ 0 = omega (arith, low) in subst (λ k. tails n ≤ tails k) is (omega arith)
tails-rise tails rise n (suc m) low =
    elim (cases_lt m n) [
      | inl same ↦ let is : n ≡ suc m = omega (arith, low, same) in subst (λ k. tails n ≤ tails k) is (omega arith)
      | inr under ↦
          let far = tails-rise tails rise n m under in
          let near = rise m in
          let next : m + 1 ≡ suc m = omega arith in
          subst (λ k. tails n ≤ tails k) next (omega (arith, far, near))
    ]

none_some : {A : Type 0} (x : A) → None ≡ Some x → ⊥
none_some x e = cc

same_some : {A : Type 0} (x y : A) → Some x ≡ Some y → x ≡ y
same_some x y e = cc

module _ (log : List Entry) (tails : ℕ → ℕ) (faults : List Fault) (ends : ℕ → SessionEnd) (before : List Played) (t : Played) where
  -- what the row tells of came below the tail at which the next phase began
  stands-below : (a : Asks) (o : Outcome) (position : ℕ) → CameOf log tails faults ends before t a o → tails (t.line.phase + 1) ≤ position → comes_below o position ≡ true
  stands-below (asks.Logged s r c) (out.Placed place reply true) position h high = refl
  stands-below (asks.Logged s r c) (out.Placed place reply false) position h high =
      let low = h.upto (ltb-false (ends s.id).answered r (sym h.late_is)) in
      lt-ltb place.pos position (subst (λ (q : Place). q.pos < position) (sym h.place_is) (omega (arith, low, high)))
  stands-below (asks.Logged s r c) (out.Open cause) position h high = refl
  stands-below (asks.Logged s r c) o position h high = absurd h
  stands-below (asks.Look s q) (out.Read after found) position h high = le-leb after position (let upto = h.upto in omega (arith, upto, high))
  stands-below (asks.Look s q) (out.Open cause) position h high = refl
  stands-below (asks.Look s q) o position h high = absurd h
  stands-below (asks.Admin Extend) (out.Extended version start) position h high = le-leb start position (let upto = h.1 in omega (arith, upto, high))
  stands-below (asks.Admin Alive) (out.Extended version start) position h high = absurd h
  stands-below (asks.Admin Trim) (out.Extended version start) position h high = absurd h
  stands-below (asks.Admin Retire) (out.Extended version start) position h high = absurd h
  stands-below (asks.Admin Extend) (out.Placed place reply late) position h high = absurd h
  stands-below (asks.Admin Alive) (out.Placed place reply late) position h high = absurd h
  stands-below (asks.Admin Trim) (out.Placed place reply late) position h high = absurd h
  stands-below (asks.Admin Retire) (out.Placed place reply late) position h high = absurd h
  stands-below (asks.Admin Extend) (out.Read after found) position h high = absurd h
  stands-below (asks.Admin Alive) (out.Read after found) position h high = absurd h
  stands-below (asks.Admin Trim) (out.Read after found) position h high = absurd h
  stands-below (asks.Admin Retire) (out.Read after found) position h high = absurd h
  stands-below (asks.Admin a) o position h high = refl

  -- and not below the tail at which its own began
  stands-from : (a : Asks) (o : Outcome) (position : ℕ) → CameOf log tails faults ends before t a o → begins_upto o ≡ Some position → tails t.line.phase ≤ position
  stands-from (asks.Logged s r c) (out.Placed place reply late) position h e =
      let same = same_some place.pos position e in
      let is : place.pos ≡ h.act.place.pos = ap (λ (q : Place). q.pos) h.place_is in
      let from = h.from in
      omega (arith, same, is, from)
  stands-from (asks.Logged s r c) (out.Open cause) position h e = absurd (none_some position e)
  stands-from (asks.Logged s r c) o position h e = absurd h
  stands-from (asks.Look s q) (out.Read after found) position h e =
      let same = same_some after position e in
      let from = h.from in
      omega (arith, same, from)
  stands-from (asks.Look s q) (out.Open cause) position h e = absurd (none_some position e)
  stands-from (asks.Look s q) o position h e = absurd h
  stands-from (asks.Admin Extend) (out.Extended version start) position h e =
      let same = same_some start position e in
      let from = h.0 in
      omega (arith, same, from)
  stands-from (asks.Admin Alive) (out.Extended version start) position h e = absurd h
  stands-from (asks.Admin Trim) (out.Extended version start) position h e = absurd h
  stands-from (asks.Admin Retire) (out.Extended version start) position h e = absurd h
  stands-from (asks.Admin Extend) (out.Placed place reply late) position h e = absurd h
  stands-from (asks.Admin Alive) (out.Placed place reply late) position h e = absurd h
  stands-from (asks.Admin Trim) (out.Placed place reply late) position h e = absurd h
  stands-from (asks.Admin Retire) (out.Placed place reply late) position h e = absurd h
  stands-from (asks.Admin Extend) (out.Read after found) position h e = absurd h
  stands-from (asks.Admin Alive) (out.Read after found) position h e = absurd h
  stands-from (asks.Admin Trim) (out.Read after found) position h e = absurd h
  stands-from (asks.Admin Retire) (out.Read after found) position h e = absurd h
  stands-from (asks.Admin a) o position h e = absurd (none_some position e)

module _ (played : List Played) (fault_lines : List FaultLine) (o : Told) (yard : Shown) (e : RunEnded played fault_lines o yard) where
  -- a line that ended, of the next rank of its session where it logs
  abbrev pub Turn : List Played → Played → Type 0
  Turn before t = Ended played fault_lines o yard e before t × IsRanked before t

  pub all_turns : AllAfter Turn [] played
  all_turns = after-both (Ended played fault_lines o yard e) IsRanked Turn [] played (λ b t ended ranked. (ended, ranked)) (all_ended played fault_lines o yard e) (all_ranked [] played e.ranked)

  abbrev pub OnTime : Played → Place → Type 0
  OnTime t p = IsOnTime e.log e.tails t.line.phase t.line.asks p

  abbrev pub Looked : List Played → Played → ℕ → Type 0
  Looked before t after = IsLook e.log e.tails before t.line.phase t.line.asks after

  pub turn-on_time : (before : List Played) (t : Played) → Turn before t → (p : Place) → place_on_time t.row.outcome ≡ Some p → OnTime t p
  turn-on_time before t h p is = on-time e.log e.tails e.faults e.ends before t t.line.asks t.row.outcome p h.0.1.came is

  pub turn-looked : (before : List Played) (t : Played) → Turn before t → (after : ℕ) → looked_at t.row.outcome ≡ Some after → Looked before t after
  turn-looked before t h after is = looked e.log e.tails e.faults e.ends before t t.line.asks t.row.outcome after h.0.1.came is

  -- The order of a session

  places-rise : (b : List Played) (t : Played) (mid : List Played) (u : Played) → Turn b t → Turn (b ++ t ∷ mid) u → session_in t.line.asks ≡ session_in u.line.asks → (p q : Place) → OnTime t p → OnTime u q → place_le p q ≡ true
  places-rise b t mid u h k session p q first second =
      let x : Act = first.act in
      let y : Act = second.act in
      let one = its-act e.log t.line.asks x first.found in
      let other = its-act e.log u.line.asks y second.found in
      let low : x.rank ≡ logged_by (session_in t.line.asks) b + 1 = one.rank ∙ h.1 first.logged in
      let high : y.rank ≡ logged_by (session_in u.line.asks) (b ++ t ∷ mid) + 1 = other.rank ∙ k.1 second.logged in
      let more = logged-own (session_in u.line.asks) b t mid session first.logged in
      subst (λ v. place_le v q ≡ true) (sym first.place_is) (subst (λ v. place_le x.place v ≡ true) (sym second.place_is)
      (higher-place_le e.log x y one.among other.among (one.session ∙ session ∙ sym other.session) (omega (arith, low, high, more))))

  turns-rise : (b : List Played) (t : Played) (mid : List Played) (u : Played) → Turn b t → Turn (b ++ t ∷ mid) u → rises (tell t) (tell u) ≡ true
  turns-rise b t mid u h k =
      implies-from (same_session (tell t) (tell u)) (on_time t.row.outcome (λ p. on_time u.row.outcome (λ q. place_le p q)))
      (λ same. where_some-from (place_on_time t.row.outcome) (λ p. on_time u.row.outcome (λ q. place_le p q))
      (λ p is. where_some-from (place_on_time u.row.outcome) (λ q. place_le p q)
      (λ q it. places-rise b t mid u h k (one-session t.line.asks u.line.asks same) p q (turn-on_time b t h p is) (turn-on_time (b ++ t ∷ mid) u k q it))))

  -- a line that logs is open or late where it isn't placed in its phase
  all_broken : AllByRecursion (λ t. is_logged (tell t) ≡ true → is_placed_on_time (tell t) ≡ false → is_broken (tell t) ≡ true) played
  all_broken =
      after-each Turn (λ t. is_logged (tell t) ≡ true → is_placed_on_time (tell t) ≡ false → is_broken (tell t) ≡ true) [] played
      (λ b t h logged missed. not-on_time e.log e.tails e.faults e.ends b t t.line.asks t.row.outcome h.0.1.came logged missed) all_turns

  -- nothing is tried after the phase in which its session was stopped
  all_opened : AllByRecursion (λ t. (phase : ℕ) → IsSome (session_asking t.line.asks) → IsStopped (e.ends (session_in t.line.asks)) phase → phase < t.line.phase → is_open t.row.outcome ≡ true) played
  all_opened =
      after-each Turn (λ t. (phase : ℕ) → IsSome (session_asking t.line.asks) → IsStopped (e.ends (session_in t.line.asks)) phase → phase < t.line.phase → is_open t.row.outcome ≡ true) [] played
      (λ b t h phase some stopped early. let k = some-of (e.ends (session_in t.line.asks)).stopped stopped.0 in ap is_open (h.0.1.stopped some k.0 k.1 (let upto = stopped.1 in omega (arith, upto, early)))) all_turns

  stays-stopped : (t u : Played) → Among played t → Among played u → is_stopped_by (tell t) (tell u) ≡ true
  stays-stopped t u m n =
      let session = same_session (tell t) (tell u) in
      let early = before_barrier (tell t) (tell u) in
      implies-from (session && early && is_logged (tell t) && not (is_placed_on_time (tell t))) (is_open u.row.outcome) (λ stops.
      let all = and_parts (session && early && is_logged (tell t)) (not (is_placed_on_time (tell t))) stops in
      let three = and_parts (session && early) (is_logged (tell t)) all.0 in
      let two = and_parts session early three.0 in
      let broken = all-at (λ (v : Played). is_logged (tell v) ≡ true → is_placed_on_time (tell v) ≡ false → is_broken (tell v) ≡ true) played t all_broken m three.1 (not-true _ all.1) in
      let stopped = broken-stopped played fault_lines o yard e t m three.1 broken in
      all-at (λ (v : Played). (phase : ℕ) → IsSome (session_asking v.line.asks) → IsStopped (e.ends (session_in v.line.asks)) phase → phase < v.line.phase → is_open v.row.outcome ≡ true) played u all_opened n t.line.phase
      (has-session t.line.asks u.line.asks two.0) (subst (λ s. IsStopped (e.ends s) t.line.phase) (one-session t.line.asks u.line.asks two.0) stopped) (ltb-true t.line.phase u.line.phase two.1))

  -- a row that tells why its session was stopped tells the cause of that
  abbrev TellsStop : Played → Type 0
  TellsStop t = (k : Cause) → (is_logged (tell t) || list_any (stops (tell t)) (map tell played)) ≡ true → cause_of t.row.outcome ≡ Some k → (e.ends (session_in t.line.asks)).stopped ≡ Some k

  -- .. where its session was stopped by a row of an earlier phase
  stop-told : (b : List Played) (t : Played) → Turn b t → (k : Cause) → list_any (stops (tell t)) (map tell played) ≡ true → cause_of t.row.outcome ≡ Some k → (e.ends (session_in t.line.asks)).stopped ≡ Some k
  stop-told b t h k some is =
      let v = any-mapped tell (stops (tell t)) played some in
      let session = same_session (tell v.0) (tell t) in
      let early = before_barrier (tell v.0) (tell t) in
      let all = and_parts (session && early && is_logged (tell v.0)) (is_broken (tell v.0)) v.2 in
      let three = and_parts (session && early) (is_logged (tell v.0)) all.0 in
      let two = and_parts session early three.0 in
      let s = session_in t.line.asks in
      let st : IsStopped (e.ends s) v.0.line.phase = subst (λ n. IsStopped (e.ends n) v.0.line.phase) (one-session v.0.line.asks t.line.asks two.0) (broken-stopped played fault_lines o yard e v.0 v.1 three.1 all.1) in
      let c = some-of (e.ends s).stopped st.0 in
      let upto = st.1 in
      let low = ltb-true v.0.line.phase t.line.phase two.1 in
      let open_is = h.0.1.stopped (has-session v.0.line.asks t.line.asks two.0) c.0 c.1 (omega (arith, upto, low)) in
      c.1 ∙ ap cause_of (sym open_is) ∙ is

  all_tell : AllByRecursion TellsStop played
  all_tell = after-each Turn TellsStop [] played (λ b t h k why is. by b t h k (is_logged (tell t)) refl why is) all_turns
    where
      by : (b : List Played) (t : Played) → Turn b t → (k : Cause) (logged : Bool) → is_logged (tell t) ≡ logged → (is_logged (tell t) || list_any (stops (tell t)) (map tell played)) ≡ true → cause_of t.row.outcome ≡ Some k
          → (e.ends (session_in t.line.asks)).stopped ≡ Some k
      by b t h k true logged why is = logged-stop e.log e.tails e.faults e.ends b t t.line.asks t.row.outcome k h.0.1.came logged is
      by b t h k false logged why is = stop-told b t h k (subst (λ x. (x || list_any (stops (tell t)) (map tell played)) ≡ true) logged why) is

  -- .. and so is each cause that rows of its session tell
  stopped-by : (t u : Played) → Among played u → (k : Cause) → stop_cause (map tell played) (tell t) (tell u) ≡ Some k → (e.ends (session_in t.line.asks)).stopped ≡ Some k
  stopped-by t u m k is =
      let session = same_session (tell t) (tell u) in
      let why = is_logged (tell u) || list_any (stops (tell u)) (map tell played) in
      let w = where-told (session && why) (cause_of u.row.outcome) k is in
      let two = and_parts session why w.0 in
      ap (λ s. (e.ends s).stopped) (one-session t.line.asks u.line.asks two.0) ∙ all-at TellsStop played u all_tell m k two.1 w.1
    where
      where-told : (t : Bool) (o : Option Cause) (k : Cause) → (if t then o else None) ≡ Some k → (t ≡ true) × (o ≡ Some k)
      where-told true o k is = (refl, is)
      where-told false o k is = absurd (cc)

  shares : (t u v : Played) → Among played u → Among played v → where_some (stop_cause (map tell played) (tell t) (tell u)) (λ c. where_some (stop_cause (map tell played) (tell t) (tell v)) (same_cause c)) ≡ true
  shares t u v m n =
      where_some-from (stop_cause (map tell played) (tell t) (tell u)) _ (λ c is.
      where_some-from (stop_cause (map tell played) (tell t) (tell v)) (same_cause c) (λ d it.
      subst (λ x. same_cause c x ≡ true) (one_cause c d (sym (stopped-by t u m c is) ∙ stopped-by t v n d it)) (cause-itself c)))
    where
      one_cause : (c d : Cause) → Some c ≡ Some d → c ≡ d
      one_cause c d e = cc

  told-causes : list_all (λ a. each_pair same_cause (filter_map (stop_cause (map tell played) a) (map tell played))) (map tell played) ≡ true
  told-causes =
      all-test tell (λ a. each_pair same_cause (filter_map (stop_cause (map tell played) a) (map tell played))) played
      (all-of (λ t. each_pair same_cause (filter_map (stop_cause (map tell played) (tell t)) (map tell played)) ≡ true) played (λ t here.
      let r : Answered → Answered → Bool = λ a b. where_some (stop_cause (map tell played) (tell t) a) (λ c. where_some (stop_cause (map tell played) (tell t) b) (same_cause c)) in
      pairs_given same_cause (stop_cause (map tell played) (tell t)) (map tell played)
      ∙ each_pair-from tell r played (pairs-any (λ u v. r (tell u) (tell v) ≡ true) played (shares t))))

  told-session_order : KeepsSessionOrder (map tell played)
  told-session_order = record {
    places = each_pair-from tell rises played (pairs-behind Turn (λ t u. rises (tell t) (tell u) ≡ true) [] played turns-rise all_turns);
    stopped = each_pair-from tell is_stopped_by played (pairs-any (λ t u. is_stopped_by (tell t) (tell u) ≡ true) played stays-stopped);
    causes = told-causes;
  }

  -- The order of phases

  -- what a row tells of stands in its phase
  record StandsInPhase (t : Played) : Type 0 where
    pub below : (position : ℕ) → e.tails (t.line.phase + 1) ≤ position → comes_below t.row.outcome position ≡ true
    pub from : (position : ℕ) → begins_upto t.row.outcome ≡ Some position → e.tails t.line.phase ≤ position

  all_stand : AllByRecursion StandsInPhase played
  all_stand =
      after-each Turn StandsInPhase [] played (λ b t h. record {
        below = λ position high. stands-below e.log e.tails e.faults e.ends b t t.line.asks t.row.outcome position h.0.1.came high;
        from = λ position is. stands-from e.log e.tails e.faults e.ends b t t.line.asks t.row.outcome position h.0.1.came is;
      }) all_turns

  passes : (t u : Played) → StandsInPhase t → StandsInPhase u → t.line.phase < u.line.phase → where_some (begins_upto u.row.outcome) (comes_below t.row.outcome) ≡ true
  passes t u h k early =
      let rise : e.tails (t.line.phase + 1) ≤ e.tails u.line.phase = tails-rise e.tails e.rise (t.line.phase + 1) u.line.phase (omega (arith, early)) in
      where_some-from (begins_upto u.row.outcome) (comes_below t.row.outcome) (λ position is. h.below position (let from = k.from position is in omega (arith, rise, from)))

  told-barriers : keeps_barriers (map tell played) ≡ true
  told-barriers =
      each_pair-from tell keeps_barrier played (pairs-any (λ t u. keeps_barrier (tell t) (tell u) ≡ true) played
      (λ t u m n. implies-from (before_barrier (tell t) (tell u)) (where_some (begins_upto u.row.outcome) (comes_below t.row.outcome))
      (λ early. passes t u (all-at StandsInPhase played t all_stand m) (all-at StandsInPhase played u all_stand n) (ltb-true t.line.phase u.line.phase early))))

  -- One row for each line

  all_rows : AllByRecursion (λ t. is_row_of (tell t) ≡ true) played
  all_rows = after-each Turn (λ t. is_row_of (tell t) ≡ true) [] played (λ b t h. h.0.1.row) all_turns

  pub one-row-each : OneRowEach (map (λ t. t.line) played) o.rows
  one-row-each = record {
    as_many =
        ap length e.rows ∙ length-map played (λ (t : Played). t.row) ∙ sym (length-map played (λ (t : Played). t.line))
        ∙ ap length (sym (all_have_rows (map (λ (t : Played). t.line) played)));
    each = ap (list_all is_row_of) (told-is played o e.rows) ∙ all-test tell is_row_of played all_rows;
  }

  pub session-order : KeepsSessionOrder (told_of (map (λ t. t.line) played) o)
  session-order = subst KeepsSessionOrder (sym (told-is played o e.rows)) told-session_order

  pub barriers-kept : keeps_barriers (told_of (map (λ t. t.line) played) o) ≡ true
  barriers-kept = ap keeps_barriers (told-is played o e.rows) ∙ told-barriers
