-- What is known of a node stays so as its disk is armed.
use Rattle.std.proofs.Common.{ℕ, List, Option}
use Rattle.legal_journal.specs.Law.{Law}
use Rattle.legal_journal.specs.declared.events.Event.{Event}
use Rattle.replica_api.specs.Replica.{Meaning}
use Rattle.script_text.specs.declared.asks.NamedLine.{NamedLine}
use Rattle.turn_scopes.specs.Seats.{SeatView, node_of}
use Rattle.turn_scopes.proofs.Arming.{armed_seat, seat_armed}
use Rattle.node_lines.specs.declared.desk.Desk.{Desk}
use Rattle.node_lines.specs.declared.lines.Looked.{Looked}
use Rattle.node_lines.specs.Desks.{DeskOk}
use Rattle.node_lines.specs.Moving.{IsQuiet}
use Rattle.node_lines.specs.Workers.{Sends, WorkerOk, sent_by}
use Rattle.node_course.specs.Moments.{NodeCourse}
use Rattle.node_course.specs.Workers.{NodeAt, Rests}

desk_armed : (journal : List Event) (seat : SeatView) (after s : ℕ) (d : Desk) → DeskOk (node_of seat journal) s d → DeskOk (node_of (armed_seat seat after) journal) s d
desk_armed journal seat after s d k = record { session = k.session; known = k.known; few = k.few; near = k.near; acted = k.acted; ended = k.ended; given = k.given }

quiet_armed : (journal : List Event) (seat : SeatView) (after s : ℕ) → IsQuiet (node_of seat journal) s → IsQuiet (node_of (armed_seat seat after) journal) s
quiet_armed journal seat after s q = record { outstanding = q.outstanding; waiting = q.waiting; free = q.free }

pub worker_armed : (law : Law) (meaning : Meaning) (who : ℕ) (journal : List Event) (seat : SeatView) (desks : List Desk) (after : ℕ) → WorkerOk law meaning who journal seat desks → WorkerOk law meaning who journal (armed_seat seat after) desks
worker_armed law meaning who journal seat desks after h = record {
  who_is = h.who_is;
  origin = h.origin;
  ok = seat_armed (record law { may = Sends who law.may (sent_by desks) journal }) meaning journal seat after h.ok;
  packs = h.packs;
  waits = h.waits;
  size = h.size;
  each = λ s d at. desk_armed journal seat after s d (h.each s d at);
  home = h.home;
}

module _ (law : Law) (meaning : Meaning) (lines : List NamedLine) (home : ℕ → ℕ) (nodes : ℕ) (c : NodeCourse) (looks : List (Option Looked)) (n from : ℕ) (seat : SeatView) (desks : List Desk) (after : ℕ) where
  pub node_armed : (at done : ℕ) → NodeAt law meaning lines home nodes c looks n from at done seat desks → NodeAt law meaning lines home nodes c looks n from at done (armed_seat seat after) desks
  node_armed at done h = record {
    ok = worker_armed law meaning n c.seen seat desks after h.ok;
    did = h.did;
    nodes_is = h.nodes_is;
    order = h.order;
    early = h.early;
    each = h.each;
    quiet = λ s same. quiet_armed c.seen seat after s (h.quiet s same);
    given = h.given;
    waiting = h.waiting;
    played = h.played;
    reports = h.reports;
    stores = h.stores;
  }

  pub rests_armed : (done : ℕ) → Rests law meaning lines home nodes c looks n from done seat desks → Rests law meaning lines home nodes c looks n from done (armed_seat seat after) desks
  rests_armed done r = record { node = node_armed from done r.node; none_given = r.none_given }
