-- A line logged a command at its node.
use Rattle.std.proofs.Common.{◌≡◌, ◌≢◌, refl, sym, ap, ◌∙◌, subst, inl, ⊎_elim, ℕ, ◌+◌, ◌<◌, ◌≤◌, ◌==◌, Bool, true, false, List, [], Option, Some, count_by, slice_get, slice_set, Contains, arith}
use Rattle.std.proofs.lemmas.Bool.{cases_lt}
use Rattle.std.proofs.lemmas.Bool.Decides.{nat_tests}
use Rattle.delos_types.specs.declared.cause.Cause.{Cause}
use Rattle.delos_types.specs.declared.cause.Cause.TheVariants as cause
use Rattle.table_core.specs.declared.command.Command.{Command}
use Rattle.legal_journal.specs.Law.{Law}
use Rattle.legal_journal.specs.declared.events.Event.{Event}
use Rattle.legal_journal.specs.Journal.{IsLegal}
use Rattle.journal_laws.specs.Own.{faults_of}
use Rattle.virtual_log.specs.Sealing.{SealsNone}
use Rattle.replica_api.specs.Replica.{Meaning}
use Rattle.script_text.specs.declared.line.Session.{Session}
use Rattle.script_text.specs.declared.asks.NamedLine.{NamedLine}
use Rattle.script_text.specs.declared.asks.Asks.TheVariants as asks
use Rattle.fitting_run.specs.Lines.{is_of}
use Rattle.fabric_core.proofs.Marks.{set_other, set_same}
use Rattle.turn_scopes.specs.Seats.{SeatView, node_of}
use Rattle.node_lines.specs.declared.desk.Desk.{Desk}
use Rattle.node_lines.specs.declared.lines.Looked.{Looked}
use Rattle.node_lines.specs.Moving.{IsQuiet, causes_of, strikes}
use Rattle.node_lines.specs.Workers.{IsOfSessions, Logs, MayRun, OwnAdds, WorkerOk}
use Rattle.run_laws.specs.Ended.{IsAtHome, session_in}
use Rattle.run_laws.proofs.Members.{among-right, contained-among}
use Rattle.run_laws.proofs.Placing.{same_some}
use Rattle.node_course.specs.Script.{AreLines, asked_by}
use Rattle.node_course.specs.Moments.{NodeCourse, GoesOn}
use Rattle.node_course.specs.Course.{IsCourse}
use Rattle.node_course.specs.Desks.{DeskAt, LoggedSo, PlayedSo}
use Rattle.node_course.specs.Workers.{LineWent, NodeAt}
use Rattle.node_course.proofs.Legal.{worker_legal}
use Rattle.node_course.proofs.Still.{did_still, tells_still}
use Rattle.node_course.proofs.Told.{TellsOn}
use Rattle.node_course.proofs.Lines.{asked_more, asked_none, asked_one, at_get, phase_before, rank_is}
use Rattle.node_course.proofs.Advance.{advanced, advanced_on, stores_counted}
use Rattle.node_course.proofs.Growing.{DeskGrew, DeskOfOld, Grown, desk_same, ended_grows, grown_of, halted_grows, played_grows}
use Rattle.node_course.proofs.Coming.{came_at, given_among, given_then}

module _ (law : Law) (meaning : Meaning) (run : MayRun law) (lines : List NamedLine) (home : ℕ → ℕ) (nodes : ℕ) (c : NodeCourse) (looks : List (Option Looked)) (n from i : ℕ) (line : NamedLine) (session : Session) (rank : ℕ) (command : Command) (seat seat' : SeatView) (desks desks' : List Desk) (journal : List Event) (are : AreLines lines home nodes) (at : slice_get lines i ≡ Some line) (node : line.node ≡ n) (phase : line.phase ≡ c.phase) (asks_is : line.asks ≡ asks.Logged session rank command) (before : NodeAt law meaning lines home nodes c looks n from i c.phase seat desks) (still : SealsNone n c.seen journal) (adds : OwnAdds n IsOfSessions c.seen journal) (logs : Logs law (node_of seat c.seen) (node_of seat' journal) session.id desks desks') (now : WorkerOk law meaning n journal seat' desks') where
  here : (t : ℕ) → (session.id == t) ≡ true → session.id ≡ t
  here t e = grind (arith, nat_tests, e)

  apart : (t : ℕ) → (session.id == t) ≡ false → t ≢ session.id
  apart t e = grind (arith, nat_tests, e)

  abbrev came : List Cause
  came = causes_of logs.logs.goes.given logs.logs.others

  abbrev then' : NodeCourse
  then' = advanced c n came journal c.when

  legal : IsLegal law journal
  legal = worker_legal law meaning n journal seat' desks' now

  tells : TellsOn lines looks n seat.node.replica.cursor seat'.node.replica.cursor c.seen journal
  tells = tells_still law run lines looks n c.seen journal logs.logs.goes.spends.more logs.logs.goes.spends.seen legal seat.node.replica.cursor seat'.node.replica.cursor logs.logs.goes.keeps.forward before.did.told adds

  -- what came across, the node's own events told
  told_by : (kind : Cause → Bool) → kind cause.Store ≡ false → count_by kind came ≤ count_by kind (faults_of n logs.logs.goes.spends.more)
  told_by kind store = subst (λ who. count_by kind came ≤ count_by kind (faults_of who logs.logs.goes.spends.more)) before.ok.who_is (logs.logs.goes.spends.events kind store)

  did : IsCourse law lines nodes n then' looks
  did = did_still law lines nodes n c looks before.did came journal logs.logs.goes.spends.more c.when logs.logs.goes.spends.seen legal told_by still tells.told (tells.stays before.did.behind)

  at_home : home session.id ≡ n
  at_home = sym (subst (IsAtHome home line.node) asks_is (at_get (λ (l : NamedLine). IsAtHome home l.node l.asks) lines i line are.at_home at)) ∙ node

  goes : GoesOn c then'
  goes = advanced_on c n came journal logs.logs.goes.spends.more c.when logs.logs.goes.spends.seen

  grown : Grown law c then'
  grown = grown_of law c then' goes before.did.long before.did.rise legal

  -- Desks

  was : DeskAt lines home c n from i c.phase session.id logs.before
  was = before.each session.id logs.before logs.was_at

  grew : DeskGrew c then' seat.node.replica.cursor session.id logs.before logs.after
  grew = record {
    answered = λ a e. logs.logs.answered ∙ e;
    stopped = λ a e. let w = was.ended a e in logs.logs.stopped w.cause w.is ∙ sym w.is;
    sent = λ a e. let w = was.ended a e in logs.logs.held w.cause (logs.logs.stopped w.cause w.is);
    when = λ a e. refl;
    first = λ a e. inl (sym logs.logs.answered ∙ e);
  }

  own_desk : (t : ℕ) (d : Desk) → slice_get desks' t ≡ Some d → (session.id == t) ≡ true → logs.after ≡ d
  own_desk t d get e =
      same_some logs.after d (sym (set_same desks session.id logs.after logs.before logs.was_at) ∙ ap (slice_get (slice_set desks session.id logs.after)) (here t e) ∙ ap (λ ds. slice_get ds t) (sym logs.is_at) ∙ get)

  old_desk : (t : ℕ) (d : Desk) → slice_get desks' t ≡ Some d → (session.id == t) ≡ false → slice_get desks t ≡ Some d
  old_desk t d get e = sym (set_other desks session.id t logs.after (apart t e)) ∙ ap (λ ds. slice_get ds t) (sym logs.is_at) ∙ get

  of_old : (t : ℕ) → DeskOfOld c then' seat.node.replica.cursor desks desks' t
  of_old t = λ d get. by d get (session.id == t) refl
    where
      by : (d : Desk) → slice_get desks' t ≡ Some d → (b : Bool) → (session.id == t) ≡ b → (x : Desk) × (slice_get desks t ≡ Some x) × DeskGrew c then' seat.node.replica.cursor t x d
      by d get true e = (logs.before, ap (slice_get desks) (sym (here t e)) ∙ logs.was_at, subst (λ s. DeskGrew c then' seat.node.replica.cursor s logs.before d) (here t e) (subst (DeskGrew c then' seat.node.replica.cursor session.id logs.before) (own_desk t d get e) grew))
      by d get false e = (d, old_desk t d get e, desk_same c then' seat.node.replica.cursor t d refl)

  one_more : asked_by lines n session.id (i + 1) ≡ asked_by lines n session.id i + 1
  one_more = asked_one lines n i line session rank command at node asks_is

  none_more : (t : ℕ) → (session.id == t) ≡ false → asked_by lines n t (i + 1) ≡ asked_by lines n t i
  none_more t e = asked_none lines n t i line at (ap (is_of t) asks_is ∙ e)

  own_at : DeskAt lines home then' n from (i + 1) c.phase session.id logs.after
  own_at = record {
    asked = logs.logs.asked ∙ ap (λ k. k + 1) was.asked ∙ sym one_more;
    ended = λ a e. let first = sym logs.logs.answered ∙ e in
        ended_grows law c then' grown lines n c.phase c.phase session.id seat.node.replica.cursor logs.before logs.after a (omega arith) first grew (was.ended a first);
    here = λ a e. at_home;
    halted = λ k none e. ⊎_elim
        (λ (stop : logs.before.stopped ≡ Some k). halted_grows law c then' grown lines n from i (i + 1) c.phase session.id k refl (asked_more lines n session.id i (i + 1) (omega arith))
        (was.halted k (sym logs.logs.answered ∙ none) stop))
        (λ (m : Contains logs.logs.others k). record {
          came = came_at c n came journal c.when k (among-right _ logs.logs.others k (contained-among logs.logs.others k m));
          running = omega arith;
          asked = let low = asked_more lines n session.id from i before.order in let e = one_more in omega arith;
        })
        (logs.logs.stops k e);
    held = λ k none e. let few = (before.ok.each session.id logs.before logs.was_at).few in omega (arith, logs.logs.held k e, logs.logs.asked, few);
  }

  old_at : (t : ℕ) (d : Desk) → (session.id == t) ≡ false → DeskAt lines home c n from i c.phase t d → DeskAt lines home then' n from (i + 1) c.phase t d
  old_at t d e x = record {
    asked = x.asked ∙ sym (none_more t e);
    ended = λ a first. ended_grows law c then' grown lines n c.phase c.phase t seat.node.replica.cursor d d a (omega arith) first (desk_same c then' seat.node.replica.cursor t d refl) (x.ended a first);
    here = x.here;
    halted = λ k none stop. halted_grows law c then' grown lines n from i (i + 1) c.phase t k refl (asked_more lines n t i (i + 1) (omega arith)) (x.halted k none stop);
    held = x.held;
  }

  each : (t : ℕ) (d : Desk) → slice_get desks' t ≡ Some d → DeskAt lines home then' n from (i + 1) c.phase t d
  each t d get = by (session.id == t) refl
    where
      by : (b : Bool) → (session.id == t) ≡ b → DeskAt lines home then' n from (i + 1) c.phase t d
      by true e = subst (λ s. DeskAt lines home then' n from (i + 1) c.phase s d) (here t e) (subst (DeskAt lines home then' n from (i + 1) c.phase session.id) (own_desk t d get e) own_at)
      by false e = old_at t d e (before.each t d (old_desk t d get e))

  quiet : (t : ℕ) → asked_by lines n t from ≡ asked_by lines n t (i + 1) → IsQuiet (node_of seat' journal) t
  quiet t same = by (session.id == t) refl
    where
      by : (b : Bool) → (session.id == t) ≡ b → IsQuiet (node_of seat' journal) t
      by true e = absurd
          (let low = asked_more lines n session.id from i before.order in
          let more = one_more in
          let equal : asked_by lines n session.id from ≡ asked_by lines n session.id (i + 1) = subst (λ s. asked_by lines n s from ≡ asked_by lines n s (i + 1)) (sym (here t e)) same in
          omega arith)
      by false e = logs.logs.quiet t e (before.quiet t (same ∙ none_more t e))

  -- Lines

  -- its command isn't above those that were asked
  line_so : (d : Desk) → slice_get desks' session.id ≡ Some d → LoggedSo then' c.phase seat'.node.replica.cursor d line.phase session.id rank
  line_so d get = record {
    acted = λ over upto. absurd (omega (arith, over, phase));
    unsent = λ a e early.
        let own = own_desk session.id d get (grind (arith, nat_tests)) in
        let first : logs.before.answered ≡ Some a = sym logs.logs.answered ∙ ap (λ (x : Desk). x.answered) own ∙ e in
        let sent = grew.sent a first in
        let is = ap (λ (x : Desk). x.sent) own in
        let few = (before.ok.each session.id logs.before logs.was_at).few in
        let asked = was.asked in
        let above = rank_is lines home nodes are n i line session rank command at node asks_is in
        omega (arith, sent, is, few, asked, above);
  }

  line_played : PlayedSo lines then' c.phase seat'.node.replica.cursor n desks' looks i line.phase line.asks
  line_played = subst (PlayedSo lines then' c.phase seat'.node.replica.cursor n desks' looks i line.phase) (sym asks_is) line_so

  played : (j : ℕ) (l : NamedLine) → j < i + 1 → slice_get lines j ≡ Some l → l.node ≡ n → PlayedSo lines then' c.phase seat'.node.replica.cursor n desks' looks j l.phase l.asks
  played j l low get there = ⊎_elim
      (λ (early : j < i).
      played_grows law c then' grown lines c.phase c.phase seat.node.replica.cursor seat'.node.replica.cursor n desks desks' looks looks j l.phase l.asks
      (let up = phase_before lines home nodes are j i l line get at (omega (arith, early)) in omega (arith, up, phase)) (λ over. over) logs.logs.goes.keeps.forward refl (of_old (session_in l.asks))
      (before.played j l early get there))
      (λ (high : i ≤ j).
      let same : i ≡ j = omega (arith, low, high) in
      let is : line ≡ l = same_some line l (sym at ∙ ap (slice_get lines) same ∙ get) in
      subst (λ k. PlayedSo lines then' c.phase seat'.node.replica.cursor n desks' looks k l.phase l.asks) same
      (subst (λ (x : NamedLine). PlayedSo lines then' c.phase seat'.node.replica.cursor n desks' looks i x.phase x.asks) is line_played))
      (cases_lt j i)

  node_then : NodeAt law meaning lines home nodes then' looks n from (i + 1) c.phase seat' desks'
  node_then = record {
    ok = now;
    did = did;
    nodes_is = logs.logs.goes.keeps.nodes ∙ before.nodes_is;
    order = omega (arith, before.order);
    early = λ j l low get there. let up = phase_before lines home nodes are j i l line get at (omega (arith, low)) in omega (arith, up, phase);
    each = each;
    quiet = quiet;
    given = given_then law c n came journal c.when seat.node.outbox.given logs.logs.goes.given seat'.node.outbox.given grown logs.logs.goes.gained (given_among logs.logs.goes.given logs.logs.others) before.given;
    waiting = λ j l high get there. before.waiting j l (omega (arith, high)) get there;
    played = played;
    reports = tells.own before.reports;
    stores = stores_counted lines n c.phase c.faults looks looks came [] came (strikes seat.node.replica) (strikes seat'.node.replica) (λ P. let e : count_by P came + 0 ≡ count_by P came = omega arith in e) (omega arith) logs.logs.goes.spends.disk before.stores;
  }

  pub line_logged : LineWent law meaning lines home nodes c looks n from (i + 1) journal seat' desks'
  line_logged = record {
    course = then';
    seen_is = refl;
    goes = goes;
    node = node_then;
  }
