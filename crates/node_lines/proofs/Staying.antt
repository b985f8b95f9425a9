-- A worker once others have had the fabric.
use Rattle.std.proofs.Common.{refl, subst, inl, inr, ℕ, List, ◌++◌, arith}
use Rattle.std.specs.Prelude.{Contains}
use Rattle.delos_types.specs.declared.entry.Entry.{Entry}
use Rattle.delos_types.specs.declared.item.Item.{Item}
use Rattle.legal_journal.specs.Law.{Law}
use Rattle.legal_journal.specs.declared.events.Event.{Event}
use Rattle.legal_journal.specs.Journal.{IsLegal}
use Rattle.legal_journal.proofs.Legal.{goes_on}
use Rattle.virtual_log.specs.Holding.{Holds}
use Rattle.virtual_log.specs.Turning.{Later}
use Rattle.virtual_log.proofs.Going.{goes_later}
use Rattle.replica_api.specs.Replica.{Meaning}
use Rattle.base_engine.specs.Holding.{held_stays}
use Rattle.base_engine.specs.Reading.{IsFront}
use Rattle.base_engine.proofs.Following.{follows_later}
use Rattle.base_engine.proofs.Whole.{ok_same}
use Rattle.node_lines.specs.declared.desk.Desk.{Desk}
use Rattle.node_lines.specs.UnderWay.{HasLanded, IsUnderWay, IsGiven}
use Rattle.turn_scopes.specs.Seats.{SeatView, SeatOk, node_of}
use Rattle.node_lines.specs.Desks.{DeskOk}
use Rattle.node_lines.specs.Workers.{OwnWithin, Sends, WorkerOk, appended_by, sent_by}
use Rattle.node_lines.proofs.Own.{legal_own}
use Rattle.node_lines.proofs.Widening.{seat_wider}
use Rattle.node_lines.proofs.Scoping.{sends_grow}

module _ (law : Law) (early more : List Event) (legal : IsLegal law (early ++ more)) where
  front_later : (log : List Entry) → IsFront Holds early log → IsFront Holds (early ++ more) log
  front_later log h = λ pos e at. held_stays law early more pos e legal (h pos e at)

  landed_later : (s r : ℕ) → HasLanded early s r → HasLanded (early ++ more) s r
  landed_later s r h =
      let goes = goes_on law early more legal in
      record {
        entry = h.entry;
        held = record { pos = h.held.pos; held = held_stays law early more h.held.pos h.entry legal h.held.held; below = omega (arith, h.held.below, goes.tail) };
        rank = h.rank;
      }

  given_later : (entries : List Entry) (kept : List Item) (s sent : ℕ) → IsGiven early entries kept s sent → IsGiven (early ++ more) entries kept s sent
  given_later entries kept s sent g = record { queued = g.queued; few = g.few; waiting = g.waiting; under_way = λ r first last. still r (g.under_way r first last) }
    where
      still : (r : ℕ) → IsUnderWay early entries s r → IsUnderWay (early ++ more) entries s r
      still r (inl h) = inl (landed_later s r h)
      still r (inr h) = inr h

  desk_later : (seat : SeatView) (s : ℕ) (d : Desk) → DeskOk (node_of seat early) s d → DeskOk (node_of seat (early ++ more)) s d
  desk_later seat s d k = record {
    session = k.session;
    known = k.known;
    few = k.few;
    near = k.near;
    acted = record { log = k.acted.log; front = front_later k.acted.log k.acted.front; upto = k.acted.upto; are = k.acted.are };
    ended = k.ended;
    given = λ free none. let g = k.given free none in (g.0, given_later seat.node.outbox.entries seat.node.replica.kept s d.sent g.1);
  }

  pub seat_later : (meaning : Meaning) (s : SeatView) → SeatOk law meaning early s → SeatOk law meaning (early ++ more) s
  seat_later meaning s h =
      let on : Later law early (early ++ more) = record { more = more; seen = refl; legal = legal } in
      record {
        shelf_is = h.shelf_is;
        goes_by = goes_later law early (early ++ more) s.log.version s.log.known s.log.chain on h.goes_by;
        node = ok_same law Holds meaning (node_of s early) (node_of s (early ++ more)) h.node legal refl
            (follows_later law Holds meaning (held_stays law) early (early ++ more) s.node.replica on h.node.follows) h.node.bounded refl refl refl refl;
      }

-- What who sent meanwhile is none that its desks didn't send before; what others sent may be anything.
pub worker_stays : (law : Law) (meaning : Meaning) (who : ℕ) (early more : List Event) (seat : SeatView) (desks : List Desk)
    → WorkerOk law meaning who early seat desks → IsLegal (record law { may = OwnWithin who law.may (sent_by desks) }) (early ++ more)
    → WorkerOk law meaning who (early ++ more) seat desks
worker_stays law meaning who early more seat desks h legal =
    let counts = sent_by desks in
    record {
      who_is = h.who_is;
      origin = h.origin;
      ok = seat_later (record law { may = Sends who law.may counts (early ++ more) }) early more
          (legal_own (record law { may = OwnWithin who law.may counts }) (Sends who law.may counts (early ++ more)) (early ++ more) legal (λ user e there k. (k, λ is. inl (subst (λ u. Contains (appended_by u (early ++ more)) e) is there)))) meaning seat
          (seat_wider (record law { may = Sends who law.may counts early }) (record law { may = Sends who law.may counts (early ++ more) }) (record { may = λ user e k. sends_grow who law.may counts early (early ++ more) (more, refl) user e k; floor = λ log n k. k; shelf = refl }) meaning early seat h.ok);
      packs = h.packs;
      waits = h.waits;
      size = h.size;
      each = λ s d at. desk_later (record law { may = OwnWithin who law.may counts }) early more legal seat s d (h.each s d at);
      home = h.home;
    }
