-- What is known of a node stays so, whatever others do.
use Rattle.std.proofs.Common.{◌≡◌, ◌≢◌, refl, sym, ap, ◌∙◌, subst, ℕ, ◌<◌, Bool, List, [], ◌∷◌, ◌++◌, Option, Some, length, count_by, slice_get, Contains, arith, append-nil}
use Rattle.delos_types.specs.declared.entry.Entry.{Entry}
use Rattle.delos_types.specs.declared.cause.Cause.{Cause}
use Rattle.legal_journal.specs.Law.{Law}
use Rattle.legal_journal.specs.declared.events.Event.{Event}
use Rattle.legal_journal.specs.Journal.{IsLegal}
use Rattle.legal_journal.specs.Turns.{AreOthers}
use Rattle.replica_api.specs.Replica.{Meaning}
use Rattle.script_text.specs.declared.asks.NamedLine.{NamedLine}
use Rattle.fitting_run.specs.Faults.{lacks_store}
use Rattle.turn_scopes.specs.Beside.{AreBeside}
use Rattle.turn_scopes.specs.Seats.{SeatView}
use Rattle.turn_scopes.proofs.Beside.{legal_beside}
use Rattle.node_lines.specs.declared.desk.Desk.{Desk}
use Rattle.node_lines.specs.declared.lines.Looked.{Looked}
use Rattle.node_lines.specs.Workers.{MayRun, OwnWithin, ReportsUpTo, WorkerOk, appended_by, sent_by}
use Rattle.node_lines.proofs.Own.{own_appended, reported_by}
use Rattle.node_lines.proofs.Staying.{worker_stays}
use Rattle.run_laws.specs.Ended.{session_in}
use Rattle.node_course.specs.Script.{failed_looks}
use Rattle.node_course.specs.Moments.{NodeCourse, GoesOn, and_then, at_node}
use Rattle.node_course.specs.Course.{IsCourse}
use Rattle.node_course.specs.Desks.{DeskAt, PlayedSo}
use Rattle.node_course.specs.Workers.{NodeAt}
use Rattle.node_course.proofs.Counted.{failed_same, node_only, store_only}
use Rattle.node_course.proofs.Events.{appended_same, faults_same, seals_same}
use Rattle.node_course.proofs.Legal.{worker_within}
use Rattle.node_course.proofs.Looks.{SameLooks, same_back, same_on}
use Rattle.node_course.proofs.Keeping.{asks_beside}
use Rattle.node_course.proofs.Told.{told_still}
use Rattle.node_course.proofs.Replacing.{further_same}
use Rattle.node_course.proofs.Growing.{Grown, desk_same, ended_grows, grown_of, halted_grows, played_grows}
use Rattle.node_course.proofs.Advance.{advance_back}

are_beside : (who : ℕ) (es : List Event) → AreOthers who es → AreBeside (λ user. user ≢ who) es
are_beside who [] h = tt
are_beside who (e ∷ es) h = (h.0, are_beside who es h.1)

module _ (law : Law) (meaning : Meaning) (lines : List NamedLine) (home : ℕ → ℕ) (nodes : ℕ) (c : NodeCourse) (looks looks' : List (Option Looked)) (n from at done : ℕ) (more : List Event) (seat : SeatView) (desks : List Desk)
    (others : AreOthers n more) (legal : IsLegal law (c.seen ++ more)) (size : length looks' ≡ length looks) (same : SameLooks lines looks looks' n) (was : NodeAt law meaning lines home nodes c looks n from at done seat desks) where
  abbrev then' : NodeCourse
  then' = and_then c more

  goes : GoesOn c then'
  goes = record { phase = refl; begins = refl; more = more; seen = refl; came = []; gained = sym (append-nil c.faults) }

  grown : Grown law c then'
  grown = grown_of law c then' goes was.did.long was.did.rise legal

  -- the node itself appended nothing more
  within : IsLegal (record law { may = OwnWithin n law.may (sent_by desks) }) (c.seen ++ more)
  within = legal_beside law (record law { may = OwnWithin n law.may (sent_by desks) }) refl (λ user. user ≢ n) (λ user e apart h. (h, λ is. absurd (apart is))) (λ user apart seen k legal free. free)
      c.seen more (are_beside n more others) (worker_within law meaning n c.seen seat desks was.ok) legal

  ok : WorkerOk law meaning n (c.seen ++ more) seat desks
  ok = worker_stays law meaning n c.seen more seat desks was.ok within

  appended_before : (e : Entry) → Contains (appended_by n (c.seen ++ more)) e → Contains (appended_by n c.seen) e
  appended_before e there = subst (λ es. Contains es e) (appended_same n c.seen more others) there

  failed : (kind : Cause → Bool) → failed_looks (at_node n kind) lines looks' ≡ failed_looks (at_node n kind) lines looks
  failed kind = failed_same (at_node n kind) n (λ m k other. node_only n kind m k other) lines looks looks' size same

  did : IsCourse law lines nodes n then' looks'
  did = advance_back law lines nodes n c looks was.did then' goes legal was.did.here looks' (same_on lines looks looks' n same) (same_back lines looks looks' n same) (further_same n lines looks looks' size same) size
      (λ kind store.
      let before = was.did.events kind store in
      let paid = failed kind in
      let told = ap (count_by kind) (faults_same n c.seen more others) in
      omega (arith, before, paid, told))
      (λ calm.
      let before = was.did.seals (sym (faults_same n c.seen more others) ∙ calm) in
      let seals = seals_same n c.seen more others in
      let lines_are = further_same n lines looks looks' size same in
      omega (arith, before, seals, lines_are))
      (told_still law c.seen (c.seen ++ more) (more, refl) legal lines looks looks' n (same_on lines looks looks' n same) was.did.told appended_before)
      (asks_beside n c.seen more others was.did.behind)

  each : (s : ℕ) (d : Desk) → slice_get desks s ≡ Some d → DeskAt lines home then' n from at done s d
  each s d get =
      let x = was.each s d get in
      record {
        asked = x.asked;
        ended = λ a e. ended_grows law c then' grown lines n done done s seat.node.replica.cursor d d a (omega arith) e (desk_same c then' seat.node.replica.cursor s d refl) (x.ended a e);
        here = x.here;
        halted = λ k none stop. halted_grows law c then' grown lines n from at at done s k refl (omega arith) (x.halted k none stop);
        held = x.held;
      }

  played : (i : ℕ) (l : NamedLine) → i < at → slice_get lines i ≡ Some l → l.node ≡ n → PlayedSo lines then' done seat.node.replica.cursor n desks looks' i l.phase l.asks
  played i l before get own =
      played_grows law c then' grown lines done done seat.node.replica.cursor seat.node.replica.cursor n desks desks looks looks' i l.phase l.asks (was.early i l before get own) (λ over. over) (omega arith) (same i l get own)
      (λ d is. (d, is, desk_same c then' seat.node.replica.cursor (session_in l.asks) d refl)) (was.played i l before get own)

  -- where it reports no more
  pub node_stays_by : ReportsUpTo n seat.node.replica.cursor (c.seen ++ more) → NodeAt law meaning lines home nodes then' looks' n from at done seat desks
  node_stays_by reports = record {
    ok = ok;
    did = did;
    nodes_is = was.nodes_is;
    order = was.order;
    early = was.early;
    each = each;
    quiet = λ s e. let q = was.quiet s e in record { outstanding = q.outstanding; waiting = q.waiting; free = q.free };
    given = was.given;
    waiting = λ i l high get own. same i l get own ∙ was.waiting i l high get own;
    played = played;
    reports = reports;
    stores = let paid = failed_same (lacks_store n) n (λ m k other. store_only n m k other) lines looks looks' size same in let before = was.stores in omega (arith, paid, before);
  }

-- nobody else reports for the node
module _ (law : Law) (meaning : Meaning) (run : MayRun law) (lines : List NamedLine) (home : ℕ → ℕ) (nodes : ℕ) (c : NodeCourse) (looks looks' : List (Option Looked)) (n from at done : ℕ) (more : List Event) (seat : SeatView) (desks : List Desk)
    (others : AreOthers n more) (legal : IsLegal law (c.seen ++ more)) (size : length looks' ≡ length looks) (same : SameLooks lines looks looks' n) (was : NodeAt law meaning lines home nodes c looks n from at done seat desks) where
  reports : ReportsUpTo n seat.node.replica.cursor (c.seen ++ more)
  reports e p there among position is =
      was.reports e p (own_appended n c.seen e (subst (λ es. Contains es e) (appended_same n c.seen more others) (reported_by law law run (λ user x k. k) (c.seen ++ more) legal n position e p there among is))) among position is

  pub node_stays : NodeAt law meaning lines home nodes (and_then c more) looks' n from at done seat desks
  node_stays = node_stays_by law meaning lines home nodes c looks looks' n from at done more seat desks others legal size same was reports
