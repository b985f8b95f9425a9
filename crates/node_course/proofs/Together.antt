-- What a node knows of its lines and sessions holds of the run.
use Rattle.std.proofs.Common.{◌≡◌, refl, sym, ◌∙◌, subst, inl, ℕ, ◌<◌, ◌≤◌, List, [], Option, Some, slice_get, arith, append-nil}
use Rattle.legal_journal.specs.Law.{Law}
use Rattle.replica_api.specs.Replica.{Meaning}
use Rattle.script_text.specs.declared.asks.NamedLine.{NamedLine}
use Rattle.turn_scopes.specs.Seats.{SeatView}
use Rattle.node_lines.specs.declared.desk.Desk.{Desk}
use Rattle.node_lines.specs.declared.lines.Looked.{Looked}
use Rattle.node_lines.specs.Workers.{Grows}
use Rattle.run_laws.specs.Ended.{session_in}
use Rattle.node_course.specs.Moments.{NodeCourse, moment}
use Rattle.node_course.specs.Desks.{DeskAt, PlayedSo}
use Rattle.node_course.specs.Workers.{NodeAt}
use Rattle.node_course.specs.Joined.{AreJoined}
use Rattle.node_course.proofs.Faulting.{came_run}
use Rattle.node_course.proofs.Moments.{grows_not}
use Rattle.node_course.proofs.Parts.{moment_is, run_legal, run_seen}
use Rattle.node_course.proofs.Growing.{DeskGrew, Grown, ended_grows, halted_grows, played_grows}

module _ (law : Law) (meaning : Meaning) (lines : List NamedLine) (home : ℕ → ℕ) (nodes : ℕ) (run : NodeCourse) (looks : List (Option Looked)) (courses : ℕ → NodeCourse) (join : AreJoined law lines home nodes run looks courses) (n from at done : ℕ) (seat : SeatView) (desks : List Desk) (least : 1 ≤ n) (most : n ≤ nodes) (was : NodeAt law meaning lines home nodes (courses n) looks n from at done seat desks) where
  abbrev c : NodeCourse
  c = courses n

  -- the run is a later moment of the node's course, as it were
  grown : Grown law c run
  grown = record {
    more = [];
    seen = sym (join.part n least most).seen ∙ sym (append-nil c.seen);
    legal = run_legal law lines home nodes run looks courses join (omega (arith, least, most));
    came = λ k node phase h. came_run law lines home nodes run looks courses join n node phase k least most h;
    past = λ p low. sym (is p);
    later = λ p. subst (Grows (moment c p)) (is p) (grows_not (moment c p));
    upto = run_seen law lines home nodes run looks courses join n least most;
  }
    where
      is : (p : ℕ) → moment c p ≡ moment run p
      is = moment_is law lines home nodes run looks courses join n least most

  grew : (s : ℕ) (d : Desk) → slice_get desks s ≡ Some d → DeskGrew c run seat.node.replica.cursor s d d
  grew s d get = record {
    answered = λ a e. e;
    stopped = λ a e. refl;
    sent = λ a e. refl;
    when = λ a e. sym ((join.part n least most).when s ((was.each s d get).here a e));
    first = λ a e. inl e;
  }

  pub played_run : (i : ℕ) (l : NamedLine) → i < at → slice_get lines i ≡ Some l → l.node ≡ n → PlayedSo lines run done seat.node.replica.cursor n desks looks i l.phase l.asks
  played_run i l before get own =
      played_grows law c run grown lines done done seat.node.replica.cursor seat.node.replica.cursor n desks desks looks looks i l.phase l.asks (was.early i l before get own) (λ over. over) (omega arith) refl
      (λ d is. (d, is, grew (session_in l.asks) d is)) (was.played i l before get own)

  pub desk_run : (s : ℕ) (d : Desk) → slice_get desks s ≡ Some d → DeskAt lines home run n from at done s d
  desk_run s d get =
      let x = was.each s d get in
      record {
        asked = x.asked;
        ended = λ a e. ended_grows law c run grown lines n done done s seat.node.replica.cursor d d a (omega arith) e (grew s d get) (x.ended a e);
        here = x.here;
        halted = λ k none stop. halted_grows law c run grown lines n from at at done s k (sym (join.part n least most).phase) (omega arith) (x.halted k none stop);
        held = x.held;
      }
