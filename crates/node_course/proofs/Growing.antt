-- What is known of a course stays so as it goes on.
use Rattle.std.proofs.Common.{◌≡◌, refl, sym, ap, ◌∙◌, subst, ◌⊎◌, inl, inr, ⊎_elim, ℕ, ◌+◌, ◌<◌, ◌≤◌, List, [], ◌++◌, length, Option, Some, None, IsSome, slice_get, Contains, arith, append-nil}
use Rattle.std.proofs.lemmas.Bool.{cases_lt}
use Rattle.std.specs.List.{AllByRecursion}
use Rattle.delos_types.specs.declared.entry.Entry.{Entry}
use Rattle.delos_types.specs.declared.cause.Cause.{Cause}
use Rattle.table_core.specs.declared.command.Query.{Query}
use Rattle.table_core.specs.declared.command.Found.{Found}
use Rattle.legal_journal.specs.Law.{Law}
use Rattle.legal_journal.specs.declared.events.Event.{Event}
use Rattle.legal_journal.specs.Journal.{IsLegal, state_of, tail_of}
use Rattle.virtual_log.specs.Holding.{Holds, IsTrimmed}
use Rattle.engine_api.specs.Acted.{asked_in}
use Rattle.engine_api.specs.Order.{gap_from}
use Rattle.engine_api.specs.declared.content.Content.{Content}
use Rattle.engine_api.specs.declared.content.Content.TheVariants as content
use Rattle.base_engine.specs.Reading.{IsFront}
use Rattle.base_engine.specs.declared.outbox.Given.{Given}
use Rattle.script_text.specs.declared.asks.NamedLine.{NamedLine}
use Rattle.script_text.specs.declared.asks.Asks.{Asks}
use Rattle.script_text.specs.declared.asks.Asks.TheVariants as asks
use Rattle.log_laws.proofs.Pairs.{all-imply}
use Rattle.node_lines.specs.declared.desk.Desk.{Desk}
use Rattle.node_lines.specs.declared.lines.Looked.{Looked}
use Rattle.node_lines.specs.declared.lines.Looked.TheVariants as looked
use Rattle.node_lines.specs.Workers.{Grows}
use Rattle.run_laws.specs.Ended.{CameTo, Fault, session_in}
use Rattle.run_laws.proofs.Members.{among-left, contained-among, contains-among}
use Rattle.node_course.specs.Script.{asked_by}
use Rattle.node_course.specs.Moments.{NodeCourse, GoesOn, moment, tails, next_phase}
use Rattle.node_course.specs.Reporting.{IsReport, ReportedSo, StandsThere}
use Rattle.node_course.specs.Leaving.{LeftSo}
use Rattle.node_course.specs.Desks.{HasActed, IsHalted, IsUpTo, LoggedSo, LogsIn, LookedSo, PlayedSo, SawSo, WasEnded, WasFree, WasStopped}
use Rattle.node_course.proofs.Stands.{front_on, stands_on}
use Rattle.node_course.proofs.Moments.{grows_both, grows_not, grown_legal, grown_on, moment_next, moment_now, moment_past, moment_seen}

-- A course, and the same at a later moment. The present phase and those before it began when they did.
pub record Grown (law : Law) (c c' : NodeCourse) : Type 0 where
  pub more : List Event
  pub seen : c'.seen ≡ c.seen ++ more
  pub legal : IsLegal law c'.seen
  pub came : (k : Cause) (node phase : ℕ) → CameTo c.faults k node phase → CameTo c'.faults k node phase
  pub past : (p : ℕ) → p ≤ c.phase → moment c' p ≡ moment c p
  pub later : (p : ℕ) → Grows (moment c p) (moment c' p)
  pub upto : (p : ℕ) → Grows (moment c' p) c'.seen

-- no more commands of the session than this have acted in the first entries of the log
abbrev pub HasActedUpTo : List Event → ℕ → ℕ → ℕ → Type 0
HasActedUpTo journal cursor s a = (log : List Entry) → IsFront Holds journal log → length log ≤ cursor → gap_from (asked_in 0 log) s 1 ≤ a + 1

-- A session's desk then, at a node that had applied so much. Where the session was stopped in an earlier phase it stays as it was
-- stopped; and it isn't stopped now but in the present phase, with all answered that has acted there.
pub record DeskGrew (c c' : NodeCourse) (cursor s : ℕ) (d d' : Desk) : Type 0 where
  pub answered : (a : ℕ) → d.answered ≡ Some a → d'.answered ≡ Some a
  pub stopped : (a : ℕ) → d.answered ≡ Some a → d'.stopped ≡ d.stopped
  pub sent : (a : ℕ) → d.answered ≡ Some a → d'.sent ≡ d.sent
  pub when : (a : ℕ) → d.answered ≡ Some a → c'.when s ≡ c.when s
  pub first : (a : ℕ) → d'.answered ≡ Some a → (d.answered ≡ Some a) ⊎ ((c'.when s ≡ c.phase) × HasActedUpTo c.seen cursor s a)

-- the session's desk is that of before, at a later moment
abbrev pub DeskOfOld : NodeCourse → NodeCourse → ℕ → List Desk → List Desk → ℕ → Type 0
DeskOfOld c c' cursor desks desks' s = (d' : Desk) → slice_get desks' s ≡ Some d' → (d : Desk) × (slice_get desks s ≡ Some d) × DeskGrew c c' cursor s d d'

-- a desk that isn't touched
pub desk_same : (c c' : NodeCourse) (cursor s : ℕ) (d : Desk) → c'.when s ≡ c.when s → DeskGrew c c' cursor s d d
desk_same c c' cursor s d same = record {
  answered = λ a e. e;
  stopped = λ a e. refl;
  sent = λ a e. refl;
  when = λ a e. same;
  first = λ a e. inl e;
}

-- a desk at which answers were taken
pub desk_answered : (c c' : NodeCourse) (cursor s : ℕ) (d d' : Desk) → c'.when s ≡ c.when s → d' ≡ record d { answers = d'.answers } → DeskGrew c c' cursor s d d'
desk_answered c c' cursor s d d' same is = record {
  answered = λ a e. ap (λ (x : Desk). x.answered) is ∙ e;
  stopped = λ a e. ap (λ (x : Desk). x.stopped) is;
  sent = λ a e. ap (λ (x : Desk). x.sent) is;
  when = λ a e. same;
  first = λ a e. inl (sym (ap (λ (x : Desk). x.answered) is) ∙ e);
}

pub upto_grew : (c c' : NodeCourse) (cursor s r : ℕ) (d d' : Desk) → DeskGrew c c' cursor s d d' → IsUpTo d'.answered r → IsUpTo d.answered r
upto_grew c c' cursor s r d d' g h = by d.answered refl
  where
    by : (o : Option ℕ) → d.answered ≡ o → IsUpTo o r
    by None e = tt
    by (Some a) e = subst (λ o. IsUpTo o r) (g.answered a e) h

pub some_of : {A : Type 0} (o : Option A) → IsSome o → (a : A) × (o ≡ Some a)
some_of None h = absurd (cc)
some_of (Some a) h = (a, refl)

-- a fault that came is among those of later
pub came_more : (old new more : List Fault) (k : Cause) (node phase : ℕ) → new ≡ old ++ more → CameTo old k node phase → CameTo new k node phase
came_more old new more k node phase is h = record {
  fault = h.fault;
  among = subst (λ fs. Contains fs h.fault) (sym is) (contains-among (old ++ more) h.fault (among-left old more h.fault (contained-among old h.fault h.among)));
  cause_is = h.cause_is;
  node_is = h.node_is;
  phase_is = h.phase_is;
}

module _ (law : Law) where
  -- a course that goes on is such a one
  pub grown_of : (c c' : NodeCourse) → GoesOn c c' → length c.begins ≡ c.phase + 1 → ((p : ℕ) → Grows (moment c p) (moment c (p + 1))) → IsLegal law c'.seen → Grown law c c'
  grown_of c c' goes long rise legal = record {
    more = goes.more;
    seen = goes.seen;
    legal = legal;
    came = λ k node phase h. came_more c.faults c'.faults goes.came k node phase goes.gained h;
    past = past;
    later = λ p. ⊎_elim
        (λ (high : c.phase < p). subst (λ m. Grows m (moment c' p)) (sym (moment_now c p (omega (arith, high, long)))) (subst (Grows c.seen) (sym (now p high)) on))
        (λ (low : p ≤ c.phase). subst (Grows (moment c p)) (sym (past p low)) (grows_not (moment c p)))
        (cases_lt c.phase p);
    upto = λ p. ⊎_elim
        (λ (high : c.phase < p). subst (λ m. Grows m c'.seen) (sym (now p high)) (grows_not c'.seen))
        (λ (low : p ≤ c.phase). subst (λ m. Grows m c'.seen) (sym (past p low)) (grows_both (moment c p) c.seen c'.seen (moment_seen c rise p) on))
        (cases_lt c.phase p);
  }
    where
      on : Grows c.seen c'.seen
      on = (goes.more, goes.seen)

      past : (p : ℕ) → p ≤ c.phase → moment c' p ≡ moment c p
      past p low = moment_past c c' p goes.begins (omega (arith, low, long))

      now : (p : ℕ) → c.phase < p → moment c' p ≡ c'.seen
      now p high = moment_now c' p (let same = ap (λ (bs : List (List Event)). length bs) goes.begins in omega (arith, same, high, long))

  -- so is a course as the next phase begins
  pub grown_next : (c : NodeCourse) → ((p : ℕ) → Grows (moment c p) (moment c (p + 1))) → IsLegal law c.seen → Grown law c (next_phase c)
  grown_next c rise legal = record {
    more = [];
    seen = sym (append-nil c.seen);
    legal = legal;
    came = λ k node phase h. h;
    past = λ p low. moment_next c p;
    later = λ p. subst (Grows (moment c p)) (sym (moment_next c p)) (grows_not (moment c p));
    upto = λ p. subst (λ m. Grows m c.seen) (sym (moment_next c p)) (moment_seen c rise p);
  }

  module _ (c c' : NodeCourse) (g : Grown law c c') where
    pub legal_then : (p : ℕ) → IsLegal law (moment c' p)
    legal_then p = grown_legal law (moment c' p) c'.seen (g.upto p) g.legal

    tails_same : (p : ℕ) → p ≤ c.phase → tails c' p ≡ tails c p
    tails_same p low = ap (λ m. tail_of (state_of m)) (g.past p low)

    tails_rise : (p : ℕ) → tails c p ≤ tails c' p
    tails_rise p = (grown_on law (moment c p) (moment c' p) (g.later p) (legal_then p)).tail

    pub front_grows : (log : List Entry) → IsFront Holds c.seen log → IsFront Holds c'.seen log
    front_grows log h = front_on law c.seen c'.seen g.more g.seen g.legal log h

    pub came_grows : (k : Cause) (node phase : ℕ) → CameTo c.faults k node phase → CameTo c'.faults k node phase
    came_grows k node phase h = g.came k node phase h

    -- each cause that was given came
    pub given_grows : (n phase : ℕ) (given : List Given) → AllByRecursion (λ x. CameTo c.faults x.cause n phase) given → AllByRecursion (λ x. CameTo c'.faults x.cause n phase) given
    given_grows n phase given h = all-imply (λ (x : Given). CameTo c.faults x.cause n phase) (λ (x : Given). CameTo c'.faults x.cause n phase) given (λ x k. came_grows x.cause n phase k) h

    pub acted_grows : (cursor cursor' phase s r : ℕ) → cursor ≤ cursor' → HasActed c cursor phase s r → HasActed c' cursor' phase s r
    acted_grows cursor cursor' phase s r up h = record {
      log = h.log;
      front = front_grows h.log h.front;
      within = omega (arith, h.within, up);
      upto = omega (arith, h.upto, tails_rise (phase + 1));
      acted = h.acted;
    }

    -- where no phase ended meanwhile but later ones
    pub logged_grows : (done done' cursor cursor' phase s r : ℕ) (d d' : Desk) → phase ≤ c.phase → (phase < done' → phase < done) → cursor ≤ cursor' → DeskGrew c c' cursor s d d' → LoggedSo c done cursor d phase s r → LoggedSo c' done' cursor' d' phase s r
    logged_grows done done' cursor cursor' phase s r d d' low ended up k h = record {
      acted = λ over upto. acted_grows cursor cursor' phase s r up (h.acted (ended over) (upto_grew c c' cursor s r d d' k upto));
      unsent = λ a e before. ⊎_elim
          (λ (was : d.answered ≡ Some a). let same = k.when a was in let sent = k.sent a was in let below = h.unsent a was (omega (arith, before, same)) in omega arith)
          (λ (now : (c'.when s ≡ c.phase) × HasActedUpTo c.seen cursor s a). absurd (let then' = now.0 in omega (arith, then', before, low))) (k.first a e);
    }

    free_grows : (cursor : ℕ) (d d' : Desk) (phase s : ℕ) → phase ≤ c.phase → DeskGrew c c' cursor s d d' → WasFree c d phase s → WasFree c' d' phase s
    free_grows cursor d d' phase s low k h = λ a e. ⊎_elim
        (λ (was : d.answered ≡ Some a). let same = k.when a was in let free = h a was in omega arith)
        (λ (now : (c'.when s ≡ c.phase) × HasActedUpTo c.seen cursor s a). let then' = now.0 in omega (arith, then', low)) (k.first a e)

    pub saw_grows : (lines : List NamedLine) (cursor cursor' : ℕ) (d d' : Desk) (i phase s : ℕ) (query : Query) (after : ℕ) (found : Found) → phase ≤ c.phase → cursor ≤ cursor' → DeskGrew c c' cursor s d d' → SawSo lines c cursor d i phase s query after found → SawSo lines c' cursor' d' i phase s query after found
    saw_grows lines cursor cursor' d d' i phase s query after found low up k h = record {
      log = h.log;
      front = front_grows h.log h.front;
      size = h.size;
      within = omega (arith, h.within, up);
      sees = h.sees;
      shows = h.shows;
      from = omega (arith, h.from, tails_same phase low);
      upto = omega (arith, h.upto, tails_rise (phase + 1));
      free = free_grows cursor d d' phase s low k h.free;
      answered = λ a e. ⊎_elim
          (λ (was : d.answered ≡ Some a). h.answered a was)
          (λ (now : (c'.when s ≡ c.phase) × HasActedUpTo c.seen cursor s a).
          let few = now.1 h.log h.front (let size = h.size in let within = h.within in omega (arith, size, within)) in
          let sees = h.sees in
          omega (arith, few, sees)) (k.first a e);
    }

    pub stopped_grows : (cursor : ℕ) (d d' : Desk) (phase s : ℕ) (cause : Cause) → DeskGrew c c' cursor s d d' → WasStopped c d phase s cause → WasStopped c' d' phase s cause
    stopped_grows cursor d d' phase s cause k h =
        let was = some_of d.answered h.answered in
        let same = k.when was.0 was.1 in
        record {
          answered = subst IsSome (sym (k.answered was.0 was.1)) refl;
          cause_is = k.stopped was.0 was.1 ∙ h.cause_is;
          earlier = omega (arith, h.earlier, same);
        }

    pub looked_grows : (lines : List NamedLine) (cursor cursor' n : ℕ) (d d' : Desk) (i phase s : ℕ) (query : Query) (look : Looked) → phase ≤ c.phase → cursor ≤ cursor' → DeskGrew c c' cursor s d d' → LookedSo lines c cursor n d i phase s query look → LookedSo lines c' cursor' n d' i phase s query look
    looked_grows lines cursor cursor' n d d' i phase s query (looked.Found after found) low up k h = saw_grows lines cursor cursor' d d' i phase s query after found low up k h
    looked_grows lines cursor cursor' n d d' i phase s query (looked.Kept cause) low up k (inl h) = inl (stopped_grows cursor d d' phase s cause k h)
    looked_grows lines cursor cursor' n d d' i phase s query (looked.Kept cause) low up k (inr h) = inr (h.0, came_grows cause n phase h.1, free_grows cursor d d' phase s low k h.2)
    looked_grows lines cursor cursor' n d d' i phase s query (looked.Failed cause) low up k h = free_grows cursor d d' phase s low k h
    looked_grows lines cursor cursor' n d d' i phase s query (looked.Extended x) low up k h = h
    looked_grows lines cursor cursor' n d d' i phase s query (looked.Reported position) low up k h = h
    looked_grows lines cursor cursor' n d d' i phase s query looked.Left low up k h = h
    looked_grows lines cursor cursor' n d d' i phase s query (looked.Trimmed trim) low up k h = h

    abbrev stands_grows : (x : Content) → StandsThere c.seen x → StandsThere c'.seen x
    stands_grows x h = stands_on law c.seen c'.seen g.more g.seen g.legal x h

    report_grows : (cursor cursor' n phase position : ℕ) → phase ≤ c.phase → cursor ≤ cursor' → IsReport c.seen (tails c phase) cursor n position → IsReport c'.seen (tails c' phase) cursor' n position
    report_grows cursor cursor' n phase position low up h = record {
      log = h.log;
      front = front_grows h.log h.front;
      from = omega (arith, h.from, tails_same phase low);
      within = omega (arith, h.within, up);
      clean = h.clean;
      stands = stands_grows (content.Alive n position) h.stands;
    }

    reported_grows : (cursor cursor' n phase : ℕ) (look : Looked) → phase ≤ c.phase → cursor ≤ cursor' → ReportedSo c.seen (tails c phase) cursor n look → ReportedSo c'.seen (tails c' phase) cursor' n look
    reported_grows cursor cursor' n phase (looked.Found after found) low up h = tt
    reported_grows cursor cursor' n phase (looked.Kept cause) low up h = tt
    reported_grows cursor cursor' n phase (looked.Failed cause) low up h = tt
    reported_grows cursor cursor' n phase (looked.Extended x) low up h = tt
    reported_grows cursor cursor' n phase (looked.Reported position) low up h = report_grows cursor cursor' n phase position low up h
    reported_grows cursor cursor' n phase looked.Left low up h = tt
    reported_grows cursor cursor' n phase (looked.Trimmed trim) low up h = tt

    -- what is trimmed stays so
    trimmed_then : (pos : ℕ) → IsTrimmed c.seen pos → IsTrimmed c'.seen pos
    trimmed_then pos h = record {
      version = h.version;
      chain = h.chain;
      given = (grown_on law c.seen c'.seen (g.more, g.seen) g.legal).given h.version h.chain h.given;
      below = h.below;
    }

    left_grows : (cursor cursor' n : ℕ) (look : Looked) → cursor ≤ cursor' → LeftSo c.seen cursor n look → LeftSo c'.seen cursor' n look
    left_grows cursor cursor' n (looked.Found after found) up h = tt
    left_grows cursor cursor' n (looked.Kept cause) up h = tt
    left_grows cursor cursor' n (looked.Failed cause) up h = tt
    left_grows cursor cursor' n (looked.Extended x) up h = tt
    left_grows cursor cursor' n (looked.Reported position) up h = tt
    left_grows cursor cursor' n looked.Left up h = record {
      stands = stands_grows (content.Leave n) h.stands;
      upto = h.upto;
      low = omega (arith, h.low, up);
      within = ⊎_elim (λ (played : h.stands.at < h.upto). inl played)
          (λ (gone : IsTrimmed c.seen h.upto). inr (trimmed_then h.upto gone)) h.within;
    }
    left_grows cursor cursor' n (looked.Trimmed trim) up h = tt

    pub played_grows : (lines : List NamedLine) (done done' cursor cursor' n : ℕ) (desks desks' : List Desk) (looks looks' : List (Option Looked)) (i phase : ℕ) (a : Asks) → phase ≤ c.phase → (phase < done' → phase < done) → cursor ≤ cursor'
        → slice_get looks' i ≡ slice_get looks i → DeskOfOld c c' cursor desks desks' (session_in a) → PlayedSo lines c done cursor n desks looks i phase a → PlayedSo lines c' done' cursor' n desks' looks' i phase a
    played_grows lines done done' cursor cursor' n desks desks' looks looks' i phase (asks.Logged s r command) low ended up same old h = λ d' at.
        let o = old d' at in
        logged_grows done done' cursor cursor' phase s.id r o.0 d' low ended up o.2 (h o.0 o.1)
    played_grows lines done done' cursor cursor' n desks desks' looks looks' i phase (asks.Look s query) low ended up same old h = (
      h.0,
      same ∙ h.1,
      λ d' at.
          let o = old d' at in
          looked_grows lines cursor cursor' n o.0 d' i phase s.id query h.0 low up o.2 (h.2 o.0 o.1),
    )
    played_grows lines done done' cursor cursor' n desks desks' looks looks' i phase (asks.Admin a) low ended up same old h = (h.0, same ∙ h.1, h.2, reported_grows cursor cursor' n phase h.0 low up h.3, left_grows cursor cursor' n h.0 up h.4)

    -- a session that was stopped in an earlier phase
    pub ended_grows : (lines : List NamedLine) (n done done' s : ℕ) (cursor : ℕ) (d d' : Desk) (a : ℕ) → done ≤ done' → d.answered ≡ Some a → DeskGrew c c' cursor s d d' → WasEnded lines c n done s d a → WasEnded lines c' n done' s d' a
    ended_grows lines n done done' s cursor d d' a up e k h =
        let same = k.when a e in
        record {
          cause = h.cause;
          is = k.stopped a e ∙ h.is;
          came = subst (CameTo c'.faults h.cause n) (sym same) (came_grows h.cause n (c.when s) h.came);
          before = omega (arith, h.before, same, up);
          unanswered = subst (LogsIn lines s (a + 1)) (sym same) h.unanswered;
          earlier = λ i l at logs low. h.earlier i l at logs (omega (arith, low, same));
        }

    -- one that is stopped in this one
    pub halted_grows : (lines : List NamedLine) (n from at at' done s : ℕ) (cause : Cause) → c'.phase ≡ c.phase → asked_by lines n s at ≤ asked_by lines n s at' → IsHalted lines c n from at done s cause → IsHalted lines c' n from at' done s cause
    halted_grows lines n from at at' done s cause phase more h = record {
      came = subst (CameTo c'.faults cause n) (sym phase) (came_grows cause n c.phase h.came);
      running = omega (arith, h.running, phase);
      asked = omega (arith, h.asked, more);
    }
