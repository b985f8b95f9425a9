-- How the sessions stand once their nodes have closed.
use Rattle.std.proofs.Common.{◌≡◌, refl, sym, ap, ◌∙◌, subst, ℕ, ◌+◌, ◌-◌, ◌<◌, ◌≤◌, List, Option, Some, None, IsSome, length, slice_get, arith}
use Rattle.delos_types.specs.declared.entry.Entry.{Entry}
use Rattle.delos_types.specs.declared.cause.Cause.{Cause}
use Rattle.legal_journal.specs.Law.{Law}
use Rattle.legal_journal.specs.declared.events.Event.{Event}
use Rattle.legal_journal.specs.Journal.{IsLegal}
use Rattle.replica_api.specs.Replica.{Meaning}
use Rattle.script_text.specs.declared.asks.NamedLine.{NamedLine}
use Rattle.script_text.specs.declared.faults.FaultLine.{FaultLine}
use Rattle.row_text.specs.declared.row.Row.{Row}
use Rattle.node_lines.specs.declared.desk.Desk.{Desk}
use Rattle.node_lines.specs.Answered.{AreAllAnswers}
use Rattle.node_lines.specs.declared.lines.Looked.{Looked}
use Rattle.node_lines.proofs.Turning.{was_at}
use Rattle.fitting_run.specs.Lines.{logs_for}
use Rattle.run_laws.specs.Ended.{CameTo, LogsRank, Played, SessionEnd, SessionEnded, rank_in}
use Rattle.node_course.specs.Desks.{DeskAt, LogsIn}
use Rattle.node_course.specs.Workers.{NodeAt}
use Rattle.node_course.proofs.Parts.{run_legal}
use Rattle.node_course.proofs.Together.{desk_run}
use Rattle.run_ends.specs.Closing.{DeskClosed, HasClosed, WorkerClosed, WorkerEnd}
use Rattle.run_ends.specs.Rows.{AreRows, played_of}
use Rattle.run_ends.specs.Ends.{answered_of, desk_in, end_at, end_of}
use Rattle.run_ends.proofs.Turns.{lines_are, some_at, turn_of}

module _ (law : Law) (meaning : Meaning) (lines : List NamedLine) (fault_lines : List FaultLine) (journal : List Event) (looks : List (Option Looked)) (log : List Entry) (workers : List WorkerEnd) (h : HasClosed law meaning lines fault_lines journal looks log workers) where
  -- there is a node
  pub some : 1 ≤ length workers
  some = let least = h.lines_are.there 0 in let most = h.lines_are.within 0 in omega (arith, least, most)

  -- a look for each line
  pub size : length looks ≡ length lines
  size = (h.joined.did 1 (omega arith) some).size

  pub legal : IsLegal law h.run.seen
  legal = run_legal law lines h.home (length workers) h.run looks h.courses h.joined some

  -- a node once it has closed, when the run's phases are over
  pub ended_at : (n : ℕ) (w : WorkerEnd) (k : WorkerClosed law meaning lines h.home (length workers) (h.courses n) looks log n w) → 1 ≤ n → n ≤ length workers
      → NodeAt law meaning lines h.home (length workers) (h.courses n) looks n (length lines) (length lines) h.run.phase w.seat k.was
  ended_at n w k least most =
      subst (λ done. NodeAt law meaning lines h.home (length workers) (h.courses n) looks n (length lines) (length lines) done w.seat k.was) (h.joined.part n least most).phase k.rests.node

  -- the end of a session that was so stopped, or not
  abbrev pub ends_so : ℕ → Desk → SessionEnd
  ends_so s d = record { stopped = d.stopped; when = h.run.when s; answered = answered_of lines d.answered }

  abbrev pub the_end : ℕ → SessionEnd
  the_end s = end_of lines workers h.home h.run.when s

  -- the node of a session
  pub record AtHome (s : ℕ) : Type 0 where
    pub worker : WorkerEnd
    pub at : slice_get workers (h.home s - 1) ≡ Some worker
    pub closed : WorkerClosed law meaning lines h.home (length workers) (h.courses (h.home s)) looks log (h.home s) worker

  pub at_home : (s : ℕ) → AtHome s
  at_home s =
      let low = h.lines_are.there s in
      let high = h.lines_are.within s in
      let w = some_at workers (h.home s - 1) (omega (arith, low, high)) in
      let same : h.home s - 1 + 1 ≡ h.home s = omega (arith, low) in
      record {
        worker = w.0;
        at = w.1;
        closed = subst (λ n. WorkerClosed law meaning lines h.home (length workers) (h.courses n) looks log n w.0) same (h.each (h.home s - 1) w.0 w.1);
      }

  -- a session's desk there, before and after its node closed
  pub record HasDesk (s : ℕ) (n : AtHome s) : Type 0 where
    pub was : Desk
    pub was_there : slice_get n.closed.was s ≡ Some was
    pub now : Desk
    pub now_there : slice_get n.worker.desks s ≡ Some now
    pub rest : now ≡ record was { answers = now.answers }
    pub all : 0 < was.asked → AreAllAnswers log s now.answers.items
    pub ends : the_end s ≡ ends_so s was
    pub stands : DeskAt lines h.home h.run (h.home s) (length lines) (length lines) h.run.phase s was

  end_is : (s : ℕ) (n : AtHome s) (o : Option Desk) → slice_get n.worker.desks s ≡ o → the_end s ≡ end_at lines (h.run.when s) o
  end_is s n o is = ap (λ w. end_at lines (h.run.when s) (desk_in w s)) n.at ∙ ap (end_at lines (h.run.when s)) is

  desk_of : (s : ℕ) (n : AtHome s) (was : Desk) → slice_get n.closed.was s ≡ Some was → DeskClosed log s was n.worker.desks → HasDesk s n
  desk_of s n was there k = record {
    was = was;
    was_there = there;
    now = k.now;
    now_there = k.is;
    rest = k.rest;
    all = k.all;
    ends = end_is s n (Some k.now) k.is ∙ ap (λ d. end_at lines (h.run.when s) (Some d)) k.rest;
    stands =
        desk_run law meaning lines h.home (length workers) h.run looks h.courses h.joined (h.home s) (length lines) (length lines) h.run.phase n.worker.seat n.closed.was (h.lines_are.there s) (h.lines_are.within s)
        (ended_at (h.home s) n.worker n.closed (h.lines_are.there s) (h.lines_are.within s)) s was there;
  }

  -- where the session is one of those that nodes keep
  pub has_desk : (s : ℕ) (n : AtHome s) → s < 64 → HasDesk s n
  has_desk s n low =
      let size = n.closed.rests.node.ok.size in
      let d = some_at n.closed.was s (omega (arith, low, size)) in
      desk_of s n d.0 d.1 (n.closed.each s d.0 d.1)

  none_some : {A : Type 0} (x : A) → None ≡ Some x → ⊥
  none_some x e = cc

  -- one that was stopped was so in a phase that has ended
  pub stopped_first : (s : ℕ) (n : AtHome s) (d : HasDesk s n) (k : Cause) → d.was.stopped ≡ Some k → (a : ℕ) × (d.was.answered ≡ Some a)
  stopped_first s n d k stop = by d.was.answered refl
    where
      by : (o : Option ℕ) → d.was.answered ≡ o → (a : ℕ) × (d.was.answered ≡ Some a)
      by None e = absurd (let x = (d.stands.halted k e stop).asked in omega (arith, x))
      by (Some a) e = (a, e)

  some_cause : (o : Option Cause) → IsSome o → (k : Cause) × (o ≡ Some k)
  some_cause None some = absurd (cc)
  some_cause (Some k) some = (k, refl)

  same_cause : (j k : Cause) (o : Option Cause) → o ≡ Some j → o ≡ Some k → j ≡ k
  same_cause j k o e f = let same : Some j ≡ Some k = sym e ∙ f in cc

  module _ (rows : List Row) (are : AreRows lines workers looks rows) where
    abbrev played : List Played
    played = played_of lines rows looks

    -- the line with its row
    logs_rank : (s r phase : ℕ) → LogsIn lines s r phase → LogsRank played s r phase
    logs_rank s r phase k =
        let t = turn_of played k.at k.line (ap (λ ls. slice_get ls k.at) (lines_are lines rows looks are.size size) ∙ k.is) in
        record {
          at = k.at;
          turn = t.0;
          is = t.1;
          logs = ap (logs_for s) t.2 ∙ k.logs;
          rank = ap (λ (l : NamedLine). rank_in l.asks) t.2 ∙ k.rank;
          early = subst (λ (l : NamedLine). l.phase ≤ phase) (sym t.2) k.early;
        }

    pub session_ended : (s : ℕ) → SessionEnded played h.run.faults h.home s (the_end s)
    session_ended s = by (slice_get n.worker.desks s) refl
      where
        n : AtHome s
        n = at_home s

        free : SessionEnded played h.run.faults h.home s (end_at lines (h.run.when s) None)
        free = record { unanswered = λ some. absurd (cc); fault = λ k stop. absurd (none_some k stop) }

        kept : (d : HasDesk s n) → SessionEnded played h.run.faults h.home s (ends_so s d.was)
        kept d = record {
          unanswered = λ some.
              let k = some_cause d.was.stopped some in
              let a = stopped_first s n d k.0 k.1 in
              subst (λ o. LogsRank played s (answered_of lines o + 1) (h.run.when s)) (sym a.1) (logs_rank s (a.0 + 1) (h.run.when s) (d.stands.ended a.0 a.1).unanswered);
          fault = λ k stop.
              let a = stopped_first s n d k stop in
              let ended = d.stands.ended a.0 a.1 in
              subst (λ j. CameTo h.run.faults j (h.home s) (h.run.when s)) (same_cause ended.cause k d.was.stopped ended.is stop) ended.came;
        }

        by : (o : Option Desk) → slice_get n.worker.desks s ≡ o → SessionEnded played h.run.faults h.home s (the_end s)
        by None is = subst (SessionEnded played h.run.faults h.home s) (sym (end_is s n None is)) free
        by (Some x) is =
            let was = was_at n.closed.was n.worker.desks s x n.closed.size is in
            let d = desk_of s n was.0 was.1 (n.closed.each s was.0 was.1) in
            subst (SessionEnded played h.run.faults h.home s) (sym d.ends) (kept d)
