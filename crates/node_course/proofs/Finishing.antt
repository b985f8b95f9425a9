-- A node's last calls: it rests on, and its cursor doesn't fall.
use Rattle.std.proofs.Common.{◌≡◌, refl, sym, ap, ◌∙◌, subst, ℕ, ◌+◌, ◌<◌, ◌≤◌, List, [], Option, Some, slice_get, arith}
use Rattle.std.specs.List.{AllByRecursion}
use Rattle.legal_journal.specs.Law.{Law}
use Rattle.legal_journal.specs.declared.events.Event.{Event}
use Rattle.legal_journal.specs.Journal.{IsLegal}
use Rattle.virtual_log.specs.Sealing.{SealsNone}
use Rattle.replica_api.specs.Replica.{Meaning}
use Rattle.base_engine.specs.declared.outbox.Given.{Given}
use Rattle.base_engine.specs.Settling.{OutboxView}
use Rattle.script_text.specs.declared.asks.NamedLine.{NamedLine}
use Rattle.turn_scopes.specs.Seats.{SeatView, node_of}
use Rattle.node_lines.specs.declared.desk.Desk.{Desk}
use Rattle.node_lines.specs.declared.lines.Looked.{Looked}
use Rattle.node_lines.specs.Moving.{Moves, strikes}
use Rattle.node_lines.specs.Workers.{IsOfSessions, MayRun, OwnAdds, OwnWithin, WorkerOk, sent_by}
use Rattle.run_laws.specs.Ended.{CameTo, session_in}
use Rattle.node_course.specs.Script.{BeginsAt}
use Rattle.node_course.specs.Moments.{NodeCourse, GoesOn}
use Rattle.node_course.specs.Course.{IsCourse}
use Rattle.node_course.specs.Desks.{DeskAt, PlayedSo}
use Rattle.node_course.specs.Workers.{Rests, HasRested}
use Rattle.node_course.proofs.Legal.{worker_legal}
use Rattle.node_course.proofs.Told.{TellsOn}
use Rattle.node_course.proofs.Still.{did_still, tells_still}
use Rattle.node_course.proofs.Advance.{advanced, advanced_on, stores_counted}
use Rattle.node_course.proofs.Growing.{Grown, desk_same, ended_grows, grown_of, played_grows}

module _ (law : Law) (meaning : Meaning) (run : MayRun law) (lines : List NamedLine) (home : ℕ → ℕ) (nodes : ℕ) (c : NodeCourse) (looks : List (Option Looked)) (n from done : ℕ) (seat seat' : SeatView) (desks : List Desk) (journal : List Event) (begins : BeginsAt lines from done) (low : done ≤ c.phase + 1) (r : Rests law meaning lines home nodes c looks n from done seat desks) (still : SealsNone n c.seen journal) (adds : OwnAdds n IsOfSessions c.seen journal) (moves : Moves (record law { may = OwnWithin n law.may (sent_by desks) }) (node_of seat c.seen) (node_of seat' journal) []) (same : seat'.node.outbox ≡ seat.node.outbox) (now : WorkerOk law meaning n journal seat' desks) where
  abbrev then' : NodeCourse
  then' = advanced c n [] journal c.when

  legal : IsLegal law journal
  legal = worker_legal law meaning n journal seat' desks now

  tells : TellsOn lines looks n seat.node.replica.cursor seat'.node.replica.cursor c.seen journal
  tells = tells_still law run lines looks n c.seen journal moves.goes.spends.more moves.goes.spends.seen legal seat.node.replica.cursor seat'.node.replica.cursor moves.goes.keeps.forward r.node.did.told adds

  did : IsCourse law lines nodes n then' looks
  did = did_still law lines nodes n c looks r.node.did [] journal moves.goes.spends.more c.when moves.goes.spends.seen legal (λ kind store. omega arith) still tells.told (tells.stays r.node.did.behind)

  goes : GoesOn c then'
  goes = advanced_on c n [] journal moves.goes.spends.more c.when moves.goes.spends.seen

  grown : Grown law c then'
  grown = grown_of law c then' goes r.node.did.long r.node.did.rise legal

  each : (s : ℕ) (d : Desk) → slice_get desks s ≡ Some d → DeskAt lines home then' n from from done s d
  each s d at =
      let x = r.node.each s d at in
      record {
        asked = x.asked;
        ended = λ a e. ended_grows law c then' grown lines n done done s seat.node.replica.cursor d d a (omega arith) e (desk_same c then' seat.node.replica.cursor s d refl) (x.ended a e);
        here = x.here;
        halted = λ k none stop. absurd (let h = (x.halted k none stop).asked in omega (arith, h));
        held = x.held;
      }

  none_given : seat'.node.outbox.given ≡ []
  none_given = ap (λ (o : OutboxView). o.given) same ∙ r.none_given

  played : (i : ℕ) (l : NamedLine) → i < from → slice_get lines i ≡ Some l → l.node ≡ n → PlayedSo lines then' done seat'.node.replica.cursor n desks looks i l.phase l.asks
  played i l before at own =
      played_grows law c then' grown lines done done seat.node.replica.cursor seat'.node.replica.cursor n desks desks looks looks i l.phase l.asks
      (let under = begins.before i l at before in omega (arith, under, low)) (λ over. over) moves.goes.keeps.forward refl
      (λ d get. (d, get, desk_same c then' seat.node.replica.cursor (session_in l.asks) d refl)) (r.node.played i l before at own)

  pub node_finished : HasRested law meaning lines home nodes c looks n from done journal seat' desks
  node_finished = record {
    course = then';
    seen_is = refl;
    goes = goes;
    rests = record {
      node = record {
        ok = now;
        did = did;
        nodes_is = moves.goes.keeps.nodes ∙ r.node.nodes_is;
        order = r.node.order;
        early = r.node.early;
        each = each;
        quiet = λ s e. moves.quiet s (r.node.quiet s e);
        given = subst (AllByRecursion (λ (g : Given). CameTo then'.faults g.cause n c.phase)) (sym none_given) tt;
        waiting = r.node.waiting;
        played = played;
        reports = tells.own r.node.reports;
        stores = stores_counted lines n c.phase c.faults looks looks [] [] [] (strikes seat.node.replica) (strikes seat'.node.replica) (λ P. refl) (omega arith) (let up = moves.goes.spends.disk in omega (arith, up)) r.node.stores;
      };
      none_given = none_given;
    };
  }
