-- The phase ended at a node, whose lines of it were played.
use Rattle.std.proofs.Common.{◌≡◌, refl, sym, ap, ◌∙◌, subst, ◌⊎◌, inl, inr, ⊎_elim, ℕ, ◌+◌, ◌<◌, ◌≤◌, ◌==◌, ◌&&◌, Bool, true, false, cond, List, [], ◌++◌, Option, Some, None, is_none, is_some, map, length, count_by, slice_get, arith}
use Rattle.std.specs.List.{AllByRecursion}
use Rattle.std.specs.Option.{option_or}
use Rattle.std.proofs.lemmas.Bool.{cases_lt}
use Rattle.std.proofs.lemmas.Bool.Decides.{nat_tests}
use Rattle.delos_types.specs.declared.cause.Cause.{Cause}
use Rattle.delos_types.specs.declared.cause.Cause.TheVariants as cause
use Rattle.legal_journal.specs.Law.{Law}
use Rattle.legal_journal.specs.declared.events.Event.{Event}
use Rattle.legal_journal.specs.Journal.{IsLegal, state_of, tail_of}
use Rattle.journal_laws.specs.Own.{faults_of}
use Rattle.virtual_log.specs.Holding.{Holds}
use Rattle.engine_api.specs.Acted.{asked_in}
use Rattle.engine_api.specs.Order.{gap_from}
use Rattle.virtual_log.specs.Sealing.{SealsNone}
use Rattle.replica_api.specs.Replica.{Meaning, saved_in}
use Rattle.base_engine.specs.declared.outbox.Given.{Given}
use Rattle.base_engine.specs.Following.{IsStateAt}
use Rattle.base_engine.specs.Node.{NodeView}
use Rattle.base_engine.specs.Reading.{IsFront}
use Rattle.base_engine.specs.Settling.{cause_in}
use Rattle.script_text.specs.declared.asks.NamedLine.{NamedLine}
use Rattle.script_text.specs.declared.asks.Asks.{Asks}
use Rattle.script_text.specs.declared.asks.Asks.TheVariants as asks
use Rattle.fitting_run.specs.Lines.{is_of, logs_for}
use Rattle.turn_scopes.specs.Seats.{SeatView, node_of}
use Rattle.node_lines.specs.declared.desk.Desk.{Desk}
use Rattle.node_lines.specs.declared.lines.Looked.{Looked}
use Rattle.node_lines.specs.Moving.{causes_of, strikes}
use Rattle.node_lines.specs.Lines.{Stopped, failure_in}
use Rattle.node_lines.specs.Turns.{ClosesIt, EndsTurn}
use Rattle.node_lines.proofs.Turning.{ends_quiet, same_at, was_at}
use Rattle.node_lines.specs.Workers.{IsOfSessions, MayRun, OwnAdds, OwnWithin, WorkerOk, sent_by}
use Rattle.node_lines.proofs.Bounding.{acted_stays}
use Rattle.run_laws.specs.Ended.{CameTo, rank_in, session_in}
use Rattle.run_laws.proofs.Members.{Among, among-right}
use Rattle.node_course.specs.Script.{AreLines, BeginsAt}
use Rattle.node_course.specs.Moments.{NodeCourse, GoesOn, tails}
use Rattle.node_course.specs.Course.{IsCourse}
use Rattle.node_course.specs.Desks.{DeskAt, HasActed, IsUpTo, LoggedSo, PlayedSo, WasEnded}
use Rattle.node_course.specs.Workers.{HasRested, NodeAt}
use Rattle.node_course.proofs.Legal.{worker_legal}
use Rattle.node_course.proofs.Told.{TellsOn}
use Rattle.node_course.proofs.Sent.{acted_low}
use Rattle.node_course.proofs.Still.{did_still, tells_still}
use Rattle.node_course.proofs.Moments.{moment_now}
use Rattle.node_course.proofs.Lines.{of_session}
use Rattle.node_course.proofs.Ranks.{home_is, logs_rank, node_is_home, rank_counts, rank_later, rank_low}
use Rattle.node_course.proofs.Advance.{advanced, advanced_on, stores_counted}
use Rattle.node_course.proofs.Growing.{DeskGrew, DeskOfOld, Grown, HasActedUpTo, came_grows, ended_grows, grown_of, played_grows}
use Rattle.node_course.proofs.Coming.{came_at, cause_came, given_among, given_then}
use Rattle.node_course.proofs.Fronts.{front_low}

-- Which sessions are stopped now

abbrev stops_now : Option Desk → Option Desk → Bool
stops_now (Some d) (Some d') = is_none d.answered && is_some d'.answered
stops_now (Some d) None = false
stops_now None o = false

-- the phases in which sessions were stopped, once that of the course has ended
abbrev when_then : NodeCourse → List Desk → List Desk → ℕ → ℕ
when_then c desks desks' s = cond (stops_now (slice_get desks s) (slice_get desks' s)) c.phase (c.when s)

module _ (c : NodeCourse) (desks desks' : List Desk) (s : ℕ) where
  when_none : slice_get desks' s ≡ None → when_then c desks desks' s ≡ c.when s
  when_none none = ap {B = ℕ} (λ o. cond (stops_now (slice_get desks s) o) c.phase (c.when s)) none ∙ by (slice_get desks s)
    where
      by : (o : Option Desk) → cond (stops_now o None) c.phase (c.when s) ≡ c.when s
      by None = refl
      by (Some d) = refl

  module _ (d d' : Desk) (at : slice_get desks s ≡ Some d) (at' : slice_get desks' s ≡ Some d') where
    when_is : when_then c desks desks' s ≡ cond (is_none d.answered && is_some d'.answered) c.phase (c.when s)
    when_is = ap {B = ℕ} (λ o. cond (stops_now o (slice_get desks' s)) c.phase (c.when s)) at ∙ ap {B = ℕ} (λ o. cond (stops_now (Some d) o) c.phase (c.when s)) at'

    when_first : (a : ℕ) → d.answered ≡ None → d'.answered ≡ Some a → when_then c desks desks' s ≡ c.phase
    when_first a none some =
        when_is ∙ ap {B = ℕ} (λ (o : Option ℕ). cond (is_none o && is_some d'.answered) c.phase (c.when s)) none ∙ ap {B = ℕ} (λ (o : Option ℕ). cond (is_some o) c.phase (c.when s)) some

    when_same : d'.answered ≡ d.answered → when_then c desks desks' s ≡ c.when s
    when_same same = when_is ∙ ap {B = ℕ} (λ (o : Option ℕ). cond (is_none d.answered && is_some o) c.phase (c.when s)) same ∙ by d.answered
      where
        by : (o : Option ℕ) → cond (is_none o && is_some o) c.phase (c.when s) ≡ c.when s
        by None = refl
        by (Some a) = refl

-- Desks

-- what the end of a phase leaves of a desk
record Became (mid : NodeView) (failed : Option Cause) (d d' : Desk) : Type 0 where
  asked : d'.asked ≡ d.asked
  sent : d'.sent ≡ d.sent
  ends : Stopped mid failed d d' ⊎ ((d'.stopped ≡ d.stopped) × (d'.answered ≡ d.answered) × (d.answered ≡ None → d.asked ≤ length d'.answers.items))

became : (mid : NodeView) (failed : Option Cause) (d d' : Desk) → ClosesIt mid failed d d' → Became mid failed d d'
became mid failed d d' h = ⊎_elim
    (λ (some : 0 < d.asked).
    let k = h.asked some in
    record { asked = ap (λ (x : Desk). x.asked) k.rest; sent = ap (λ (x : Desk). x.sent) k.rest; ends = k.ends })
    (λ (none : d.asked ≤ 0).
    let zero' : d.asked ≡ 0 = omega (arith, none) in
    let same = h.none zero' in
    record {
      asked = ap (λ (x : Desk). x.asked) same;
      sent = ap (λ (x : Desk). x.sent) same;
      ends = inr (ap (λ (x : Desk). x.stopped) same, ap (λ (x : Desk). x.answered) same, λ free. omega (arith, none));
    })
    (cases_lt 0 d.asked)

none_some : {A : Type 0} (a : A) → None ≡ Some a → ⊥
none_some a e = cc

module _ (law : Law) (meaning : Meaning) (run : MayRun law) (lines : List NamedLine) (home : ℕ → ℕ) (nodes : ℕ) (c : NodeCourse) (looks : List (Option Looked)) (n from to : ℕ) (failed : Option Cause) (seat seat' : SeatView) (desks desks' : List Desk) (journal : List Event) (are : AreLines lines home nodes) (over : BeginsAt lines to (c.phase + 1)) (before : NodeAt law meaning lines home nodes c looks n from to c.phase seat desks) (still : SealsNone n c.seen journal) (adds : OwnAdds n IsOfSessions c.seen journal) (does : EndsTurn (record law { may = OwnWithin n law.may (sent_by desks) }) (node_of seat c.seen) (node_of seat' journal) desks desks' failed) (now : WorkerOk law meaning n journal seat' desks') where
  abbrev came : List Cause
  came = causes_of does.ends.moves.goes.given (failure_in failed)

  abbrev when' : ℕ → ℕ
  when' = when_then c desks desks'

  abbrev then' : NodeCourse
  then' = advanced c n came journal when'

  -- The causes were forgotten, and nothing else.

  seen_is : does.mid.seen ≡ journal
  seen_is = ap (λ (v : NodeView). v.seen) (sym does.forgets)

  cursor_is : does.mid.replica.cursor ≡ seat'.node.replica.cursor
  cursor_is = ap (λ (v : NodeView). v.replica.cursor) (sym does.forgets)

  strikes_are : strikes does.mid.replica ≡ strikes seat'.node.replica
  strikes_are = ap (λ (v : NodeView). strikes v.replica) (sym does.forgets)

  given_is : seat'.node.outbox.given ≡ []
  given_is = ap (λ (v : NodeView). v.outbox.given) does.forgets

  seen_more : journal ≡ c.seen ++ does.ends.moves.goes.spends.more
  seen_more = sym seen_is ∙ does.ends.moves.goes.spends.seen

  forward : seat.node.replica.cursor ≤ seat'.node.replica.cursor
  forward = let up = does.ends.moves.goes.keeps.forward in omega (arith, up, cursor_is)

  -- the node kept to what its desks had sent
  within_then : IsLegal (record law { may = OwnWithin n law.may (sent_by desks) }) journal
  within_then = subst (IsLegal (record law { may = OwnWithin n law.may (sent_by desks) })) seen_is does.ends.moves.goes.keeps.later.legal

  legal : IsLegal law journal
  legal = worker_legal law meaning n journal seat' desks' now

  tells : TellsOn lines looks n seat.node.replica.cursor seat'.node.replica.cursor c.seen journal
  tells = tells_still law run lines looks n c.seen journal does.ends.moves.goes.spends.more seen_more legal seat.node.replica.cursor seat'.node.replica.cursor forward before.did.told adds

  -- what came across, the node's own events told
  told_by : (kind : Cause → Bool) → kind cause.Store ≡ false → count_by kind came ≤ count_by kind (faults_of n does.ends.moves.goes.spends.more)
  told_by kind store = subst (λ who. count_by kind came ≤ count_by kind (faults_of who does.ends.moves.goes.spends.more)) before.ok.who_is (does.ends.moves.goes.spends.events kind store)

  did : IsCourse law lines nodes n then' looks
  did = did_still law lines nodes n c looks before.did came journal does.ends.moves.goes.spends.more when' seen_more legal told_by still tells.told (tells.stays before.did.behind)

  -- the desk of before
  was : (s : ℕ) (d' : Desk) → slice_get desks' s ≡ Some d' → (d : Desk) × (slice_get desks s ≡ Some d) × ClosesIt does.mid failed d d'
  was s d' at' =
      let w = was_at desks desks' s d' does.closes.size at' in
      let one = does.closes.each s w.0 w.1 in
      (w.0, w.1, subst (ClosesIt does.mid failed w.0) (same_at desks' s one.desk d' one.is at') one.closes)

  -- a session that asked something here has its lines here
  at_home : (s : ℕ) (d : Desk) → slice_get desks s ≡ Some d → 0 < d.asked → home s ≡ n
  at_home s d at some = home_is lines home nodes are n s to (let e = (before.each s d at).asked in omega (arith, some, e))

  goes : GoesOn c then'
  goes = advanced_on c n came journal does.ends.moves.goes.spends.more when' seen_more

  grown : Grown law c then'
  grown = grown_of law c then' goes before.did.long before.did.rise legal

  -- What has acted

  -- the front of the log that the node has applied
  front : IsStateAt Holds meaning.state journal (saved_in seat'.node.replica)
  front = now.ok.node.follows.now

  gap_is : (s : ℕ) (d d' : Desk) → slice_get desks s ≡ Some d → 0 < d.asked → ClosesIt does.mid failed d d' → gap_from (asked_in 0 front.log) s 1 ≡ length d'.answers.items + 1
  gap_is s d d' at some h =
      let own = (before.ok.each s d at).session in
      let all = (h.asked some).all front.log (front.size ∙ sym cursor_is) (subst (λ l. IsFront Holds l front.log) (sym seen_is) front.front) in
      subst (λ q. gap_from (asked_in 0 front.log) q 1 ≡ length d'.answers.items + 1) own all.all

  -- what a session was answered is all that had acted in what the node had applied before
  acted_upto : (s : ℕ) (d d' : Desk) (a : ℕ) → slice_get desks s ≡ Some d → 0 < d.asked → ClosesIt does.mid failed d d' → length d'.answers.items ≡ a → HasActedUpTo c.seen seat.node.replica.cursor s a
  acted_upto s d d' a at some h is = λ log was upto. ⊎_elim
      (λ (more : a + 1 < gap_from (asked_in 0 log) s 1).
      let longer : length log ≤ length front.log = let size = front.size in omega (arith, size, upto, forward) in
      let still = acted_stays law c.seen does.ends.moves.goes.spends.more s (a + 1) log front.log (subst (IsLegal law) seen_more legal) was (subst (λ j. IsFront Holds j front.log) seen_more front.front) longer more in
      let gap = gap_is s d d' at some h in
      absurd (omega (arith, still, gap, is)))
      (λ (few : gap_from (asked_in 0 log) s 1 ≤ a + 1). few)
      (cases_lt (a + 1) (gap_from (asked_in 0 log) s 1))

  same_answered : (p q : ℕ) → Some p ≡ Some q → p ≡ q
  same_answered p q f = cc

  grew : (s : ℕ) (d d' : Desk) → slice_get desks s ≡ Some d → slice_get desks' s ≡ Some d' → ClosesIt does.mid failed d d' → Became does.mid failed d d' → DeskGrew c then' seat.node.replica.cursor s d d'
  grew s d d' at at' h b = by b.ends
    where
      by : Stopped does.mid failed d d' ⊎ ((d'.stopped ≡ d.stopped) × (d'.answered ≡ d.answered) × (d.answered ≡ None → d.asked ≤ length d'.answers.items)) → DeskGrew c then' seat.node.replica.cursor s d d'
      by (inl x) = record {
        answered = λ a e. absurd (none_some a (sym x.first ∙ e));
        stopped = λ a e. absurd (none_some a (sym x.first ∙ e));
        sent = λ a e. b.sent;
        when = λ a e. absurd (none_some a (sym x.first ∙ e));
        first = λ a e. inr (when_first c desks desks' s d d' at at' a x.first e, acted_upto s d d' a at (let more = x.more in omega (arith, more)) h (same_answered (length d'.answers.items) a (sym x.answered ∙ e)));
      }
      by (inr k) = record {
        answered = λ a e. k.1 ∙ e;
        stopped = λ a e. k.0;
        sent = λ a e. b.sent;
        when = λ a e. when_same c desks desks' s d d' at at' k.1;
        first = λ a e. inl (sym k.1 ∙ e);
      }

  of_old : (s : ℕ) → DeskOfOld c then' seat.node.replica.cursor desks desks' s
  of_old s = λ d' at'. let w = was s d' at' in (w.0, w.1, grew s w.0 d' w.1 at' w.2 (became does.mid failed w.0 d' w.2))

  -- no more has acted than was sent
  sent_low : (s : ℕ) (d : Desk) → slice_get desks s ≡ Some d → 0 < d.asked → gap_from (asked_in 0 front.log) s 1 ≤ d.sent + 1
  sent_low s d at some = acted_low law n desks journal within_then s d at (before.ok.home s d at some) front.log front.front

  -- what has acted as an earlier phase ended was answered
  earlier_low : (s : ℕ) (d d' : Desk) → slice_get desks s ≡ Some d → 0 < d.asked → d.answered ≡ None → ClosesIt does.mid failed d d'
      → (i : ℕ) (l : NamedLine) → slice_get lines i ≡ Some l → logs_for s l ≡ true → l.phase < c.phase → rank_in l.asks ≤ length d'.answers.items
  earlier_low s d d' at some first h i l get logs early = by l.asks refl (before.played i l low get node)
    where
      node : l.node ≡ n
      node = node_is_home lines home nodes are i s l get logs ∙ at_home s d at some

      low : i < to
      low = ⊎_elim (λ (below : i < to). below) (λ (high : to ≤ i). absurd (let up = over.behind i l get high in omega (arith, up, early))) (cases_lt i to)

      by : (a : Asks) → l.asks ≡ a → PlayedSo lines c c.phase seat.node.replica.cursor n desks looks i l.phase l.asks → rank_in l.asks ≤ length d'.answers.items
      by (asks.Logged t r command) is played =
          let same : t.id ≡ s = of_session s (asks.Logged t r command) (ap (is_of s) (sym is) ∙ logs) in
          let all : PlayedSo lines c c.phase seat.node.replica.cursor n desks looks i l.phase (asks.Logged t r command) = subst (PlayedSo lines c c.phase seat.node.replica.cursor n desks looks i l.phase) is played in
          let so = subst (λ q. LoggedSo c c.phase seat.node.replica.cursor d l.phase q r) same (all d (ap (slice_get desks) same ∙ at)) in
          let acted = so.acted early (subst (λ o. IsUpTo o r) (sym first) tt) in
          let longer : length acted.log ≤ length front.log = let a = acted.within in let b = front.size in omega (arith, a, b, forward) in
          let still = acted_stays law c.seen does.ends.moves.goes.spends.more s r acted.log front.log (subst (IsLegal law) seen_more legal) acted.front (subst (λ j. IsFront Holds j front.log) seen_more front.front) longer acted.acted in
          let gap = gap_is s d d' at some h in
          let rank : rank_in l.asks ≡ r = ap rank_in is in
          omega (arith, still, gap, rank)
      by (asks.Look t query) is played = let rank : rank_in l.asks ≡ 0 = ap rank_in is in omega (arith, rank)
      by (asks.Admin a) is played = let rank : rank_in l.asks ≡ 0 = ap rank_in is in omega (arith, rank)

  -- Sessions that are stopped now

  all_given : AllByRecursion (λ g. CameTo then'.faults g.cause n c.phase) does.mid.outbox.given
  all_given = given_then law c n came journal when' seat.node.outbox.given does.ends.moves.goes.given does.mid.outbox.given grown does.ends.moves.goes.gained (given_among does.ends.moves.goes.given (failure_in failed)) before.given

  cause_comes : (s : ℕ) (d : Desk) (k : Cause) → slice_get desks s ≡ Some d → d.answered ≡ None → option_or (option_or d.stopped (cause_in d.session does.mid.outbox.given)) failed ≡ Some k → CameTo then'.faults k n c.phase
  cause_comes s d k at first why = by_stopped d.stopped refl why
    where
      by_failed : (o : Option Cause) → failed ≡ o → o ≡ Some k → CameTo then'.faults k n c.phase
      by_failed o e f =
          came_at c n came journal when' k (among-right (map (λ (g : Given). g.cause) does.ends.moves.goes.given) (failure_in failed) k (subst (λ x. Among (failure_in x) k) (sym (e ∙ f)) (inl refl)))

      by_given : (o : Option Cause) → cause_in d.session does.mid.outbox.given ≡ o → option_or o failed ≡ Some k → CameTo then'.faults k n c.phase
      by_given None e f = by_failed failed refl f
      by_given (Some x) e f = cause_came (λ x. CameTo then'.faults x n c.phase) d.session does.mid.outbox.given k all_given (e ∙ f)

      by_stopped : (o : Option Cause) → d.stopped ≡ o → option_or (option_or o (cause_in d.session does.mid.outbox.given)) failed ≡ Some k → CameTo then'.faults k n c.phase
      by_stopped None e f = by_given (cause_in d.session does.mid.outbox.given) refl f
      by_stopped (Some x) e f = came_grows law c then' grown k n c.phase ((before.each s d at).halted k first (e ∙ f)).came

  stopped_now : (s : ℕ) (d d' : Desk) → slice_get desks s ≡ Some d → slice_get desks' s ≡ Some d' → ClosesIt does.mid failed d d' → Stopped does.mid failed d d' → WasEnded lines then' n (c.phase + 1) s d' (length d'.answers.items)
  stopped_now s d d' at at' h x =
      let some : 0 < d.asked = let more = x.more in omega (arith, more) in
      let when_is = when_first c desks desks' s d d' at at' (length d'.answers.items) x.first x.answered in
      record {
        cause = x.cause;
        is = x.stopped;
        came = subst (CameTo then'.faults x.cause n) (sym when_is) (cause_comes s d x.cause at x.first x.why);
        before = omega (arith, when_is);
        unanswered = logs_rank lines home nodes are n s to (length d'.answers.items) (when' s)
            (let more = x.more in let asked = (before.each s d at).asked in omega (arith, more, asked))
            (λ i l get low. let below = over.before i l get low in omega (arith, below, when_is));
        earlier = λ i l get logs early. earlier_low s d d' at some x.first h i l get logs (omega (arith, early, when_is));
      }

  -- a session that isn't answered all isn't left as it was
  not_halted : (s : ℕ) (d d' : Desk) (k : Cause) → slice_get desks s ≡ Some d → ClosesIt does.mid failed d d' → Became does.mid failed d d' → d'.answered ≡ None → d'.stopped ≡ Some k → ⊥
  not_halted s d d' k at h b none stop = by b.ends
    where
      by : Stopped does.mid failed d d' ⊎ ((d'.stopped ≡ d.stopped) × (d'.answered ≡ d.answered) × (d.answered ≡ None → d.asked ≤ length d'.answers.items)) → ⊥
      by (inl x) = none_some (length d'.answers.items) (sym none ∙ x.answered)
      by (inr kept) =
          let free = sym kept.1 ∙ none in
          let held = (before.each s d at).held k free (sym kept.0 ∙ stop) in
          let some : 0 < d.asked = omega (arith, held) in
          let gap = gap_is s d d' at some h in
          let sent = sent_low s d at some in
          let all = kept.2 free in
          omega (arith, held, gap, sent, all)

  each : (s : ℕ) (d' : Desk) → slice_get desks' s ≡ Some d' → DeskAt lines home then' n to to (c.phase + 1) s d'
  each s d' at' = record {
    asked = b.asked ∙ x.asked;
    ended = λ a e. ended a e b.ends;
    here = λ a e. closed_here a e b.ends;
    halted = λ k none stop. absurd (not_halted s d d' k at h b none stop);
    held = λ k none stop. absurd (not_halted s d d' k at h b none stop);
  }
    where
      d : Desk
      d = (was s d' at').0

      at : slice_get desks s ≡ Some d
      at = (was s d' at').1

      h : ClosesIt does.mid failed d d'
      h = (was s d' at').2

      b : Became does.mid failed d d'
      b = became does.mid failed d d' h

      x : DeskAt lines home c n from to c.phase s d
      x = before.each s d at

      -- a desk that is closed has asked something
      closed_here : (a : ℕ) → d'.answered ≡ Some a → Stopped does.mid failed d d' ⊎ ((d'.stopped ≡ d.stopped) × (d'.answered ≡ d.answered) × (d.answered ≡ None → d.asked ≤ length d'.answers.items)) → home s ≡ n
      closed_here a e (inl new) = at_home s d at (let more = new.more in omega (arith, more))
      closed_here a e (inr kept) = x.here a (sym kept.1 ∙ e)

      ended : (a : ℕ) → d'.answered ≡ Some a → Stopped does.mid failed d d' ⊎ ((d'.stopped ≡ d.stopped) × (d'.answered ≡ d.answered) × (d.answered ≡ None → d.asked ≤ length d'.answers.items)) → WasEnded lines then' n (c.phase + 1) s d' a
      ended a e (inl y) =
          let same : length d'.answers.items ≡ a = some_same (length d'.answers.items) a (sym y.answered ∙ e) in
          subst (WasEnded lines then' n (c.phase + 1) s d') same (stopped_now s d d' at at' h y)
        where
          some_same : (p q : ℕ) → Some p ≡ Some q → p ≡ q
          some_same p q f = cc
      ended a e (inr k) =
          let first = sym k.1 ∙ e in
          ended_grows law c then' grown lines n c.phase (c.phase + 1) s seat.node.replica.cursor d d' a (omega arith) first (grew s d d' at at' h b) (x.ended a first)

  -- Lines

  -- a command of the phase has acted, unless its session is stopped below it
  acted_now : (i : ℕ) (l : NamedLine) (s r : ℕ) (d' : Desk) → i < to → slice_get lines i ≡ Some l → l.node ≡ n → c.phase ≤ l.phase → logs_for s l ≡ true → rank_in l.asks ≡ r → slice_get desks' s ≡ Some d' → IsUpTo d'.answered r
      → HasActed then' seat'.node.replica.cursor l.phase s r
  acted_now i l s r d' low get node late logs rank at' upto = record {
    log = front.log;
    front = front.front;
    within = let a = front.size in omega (arith, a);
    upto =
        let below = front_low law run.low journal front.log legal front.front in
        let new : tails then' (l.phase + 1) ≡ tail_of (state_of journal) = ap (λ m. tail_of (state_of m)) (moment_now then' (l.phase + 1) (let long = before.did.long in omega (arith, long, late))) in
        omega (arith, below, new);
    acted = let gap = gap_is s d d' at some h in let few = answered b.ends in omega (arith, gap, few);
  }
    where
      d : Desk
      d = (was s d' at').0

      at : slice_get desks s ≡ Some d
      at = (was s d' at').1

      h : ClosesIt does.mid failed d d'
      h = (was s d' at').2

      b : Became does.mid failed d d'
      b = became does.mid failed d d' h

      x : DeskAt lines home c n from to c.phase s d
      x = before.each s d at

      asked : r ≤ d.asked
      asked = let a = rank_low lines home nodes are n i to s l get low node logs in let e = x.asked in omega (arith, a, e, rank)

      some : 0 < d.asked
      some = let a = rank_counts lines home nodes are n i s l get node logs in omega (arith, a, rank, asked)

      kept_low : (o : Option ℕ) → d.answered ≡ o → d'.answered ≡ d.answered → (d.answered ≡ None → d.asked ≤ length d'.answers.items) → r ≤ length d'.answers.items
      kept_low None e same all = let few = all e in omega (arith, few, asked)
      kept_low (Some a) e same all =
          let w = x.ended a e in
          let before = w.before in
          let above = rank_later lines home nodes are s (a + 1) (c.when s) i l w.unanswered get logs (omega (arith, before, late)) in
          let below : r ≤ a = subst (λ o. IsUpTo o r) (same ∙ e) upto in
          absurd (omega (arith, above, below, rank))

      answered : Stopped does.mid failed d d' ⊎ ((d'.stopped ≡ d.stopped) × (d'.answered ≡ d.answered) × (d.answered ≡ None → d.asked ≤ length d'.answers.items)) → r ≤ length d'.answers.items
      answered (inl y) = subst (λ o. IsUpTo o r) y.answered upto
      answered (inr k) = kept_low d.answered refl k.1 k.2

  played : (i : ℕ) (l : NamedLine) → i < to → slice_get lines i ≡ Some l → l.node ≡ n → PlayedSo lines then' (c.phase + 1) seat'.node.replica.cursor n desks' looks i l.phase l.asks
  played i l low get node = by l.asks refl
      (played_grows law c then' grown lines c.phase c.phase seat.node.replica.cursor seat'.node.replica.cursor n desks desks' looks looks i l.phase l.asks
      (let below = over.before i l get low in omega (arith, below)) (λ done. done) forward refl (of_old (session_in l.asks))
      (before.played i l low get node))
    where
      by : (a : Asks) → l.asks ≡ a → PlayedSo lines then' c.phase seat'.node.replica.cursor n desks' looks i l.phase l.asks → PlayedSo lines then' (c.phase + 1) seat'.node.replica.cursor n desks' looks i l.phase l.asks
      by (asks.Logged s r command) is so = subst (PlayedSo lines then' (c.phase + 1) seat'.node.replica.cursor n desks' looks i l.phase) (sym is) (λ d' at'. logged d' at')
        where
          old : PlayedSo lines then' c.phase seat'.node.replica.cursor n desks' looks i l.phase (asks.Logged s r command)
          old = subst (PlayedSo lines then' c.phase seat'.node.replica.cursor n desks' looks i l.phase) is so

          logged : (d' : Desk) → slice_get desks' s.id ≡ Some d' → LoggedSo then' (c.phase + 1) seat'.node.replica.cursor d' l.phase s.id r
          logged d' at' = record {
            acted = λ done upto. ⊎_elim (λ (early : l.phase < c.phase). (old d' at').acted early upto)
                (λ (late : c.phase ≤ l.phase). acted_now i l s.id r d' low get node late (ap (is_of s.id) is ∙ own) (ap rank_in is) at' upto)
                (cases_lt l.phase c.phase);
            unsent = (old d' at').unsent;
          }
            where
              own : (s.id == s.id) ≡ true
              own = grind (arith, nat_tests)
      by (asks.Look s query) is so =
          subst (PlayedSo lines then' (c.phase + 1) seat'.node.replica.cursor n desks' looks i l.phase) (sym is) (subst (PlayedSo lines then' c.phase seat'.node.replica.cursor n desks' looks i l.phase) is so)
      by (asks.Admin a) is so =
          subst (PlayedSo lines then' (c.phase + 1) seat'.node.replica.cursor n desks' looks i l.phase) (sym is) (subst (PlayedSo lines then' c.phase seat'.node.replica.cursor n desks' looks i l.phase) is so)

  node_then : NodeAt law meaning lines home nodes then' looks n to to (c.phase + 1) seat' desks'
  node_then = record {
    ok = now;
    did = did;
    nodes_is = ap (λ (v : NodeView). v.nodes) does.forgets ∙ does.ends.moves.goes.keeps.nodes ∙ before.nodes_is;
    order = omega arith;
    early = λ i l low get own. let below = over.before i l get low in omega (arith, below);
    each = each;
    quiet = λ s same. ends_quiet (record law { may = OwnWithin n law.may (sent_by desks) }) (node_of seat c.seen) (node_of seat' journal) desks desks' failed does s;
    given = subst (AllByRecursion (λ (g : Given). CameTo then'.faults g.cause n c.phase)) (sym given_is) tt;
    waiting = before.waiting;
    played = played;
    reports = tells.own before.reports;
    stores = stores_counted lines n c.phase c.faults looks looks came [] came (strikes seat.node.replica) (strikes seat'.node.replica) (λ P. let e : count_by P came + 0 ≡ count_by P came = omega arith in e) (omega arith)
        (let rose = does.ends.moves.goes.spends.disk in omega (arith, rose, strikes_are)) before.stores;
  }

  pub phase_ended : HasRested law meaning lines home nodes c looks n to (c.phase + 1) journal seat' desks'
  phase_ended = record {
    course = then';
    seen_is = refl;
    goes = goes;
    rests = record { node = node_then; none_given = given_is };
  }
