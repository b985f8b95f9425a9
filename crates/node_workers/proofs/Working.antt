-- A worker at a later moment.
use Rattle.std.proofs.Common.{◌≡◌, refl, sym, ap, ◌∙◌, subst, ⊎_elim, ℕ, ◌<◌, ◌≤◌, List, [], Option, Some, length, arith}
use Rattle.std.specs.Prelude.{All, get_or, slice_get}
use Rattle.std.proofs.lemmas.Bool.{cases_lt}
use Rattle.std.proofs.lemmas.List.Elements.{All-nil}
use Rattle.std.proofs.lemmas.Option.{slice_get_read}
use Rattle.base_engine.specs.Node.{NodeView}
use Rattle.delos_types.specs.declared.cause.Cause.{Cause}
use Rattle.legal_journal.specs.Law.{Law}
use Rattle.legal_journal.specs.declared.events.Event.{Event}
use Rattle.replica_api.specs.Replica.{Meaning}
use Rattle.node_lines.specs.declared.desk.Desk.{Desk}
use Rattle.turn_scopes.specs.Seats.{SeatView, SeatOk, node_of}
use Rattle.node_lines.specs.Moving.{Moves, CanPack}
use Rattle.node_lines.specs.Desks.{DesksOk}
use Rattle.node_lines.specs.Turns.{ClosesIt, EndsTurn, IsAnswered}
use Rattle.node_lines.proofs.Desks.{desk_moves}
use Rattle.node_lines.proofs.Sent.{answered_sent, ends_sent}
use Rattle.node_lines.proofs.Turning.{was_at, same_at}
use Rattle.node_lines.specs.Workers.{OwnWithin, Sends, IsOfSession, WorkerOk, MayRun, sent_by}

-- the desk with a session's number
pub desk_there : (xs : List Desk) (i n s : ℕ) (d : Desk) → length xs ≡ 64 → n ≤ 63 → i ≡ n → n ≡ s → d ≡ get_or xs i d → slice_get xs s ≡ Some d
desk_there xs i n s d size low at is read = subst (λ k. slice_get xs k ≡ Some d) (at ∙ is) (slice_get_read xs (length xs) i d refl (omega (arith, size, low, at)) read)

-- where nothing waits, all that waits is of sessions
pub none-waits : (s : SeatView) → s.node.replica.kept ≡ [] → All IsOfSession s.node.replica.kept
none-waits s kept = subst (All IsOfSession) (sym kept) (All-nil IsOfSession)

module _ (law : Law) (run : MayRun law) where
  module _ (meaning : Meaning) (who : ℕ) (counts : List ℕ) where
    -- its seat, by what its desks sent
    pub seat_by : (journal : List Event) (s : SeatView) (desks : List Desk) → counts ≡ sent_by desks → WorkerOk law meaning who journal s desks → SeatOk (record law { may = Sends s.who law.may counts journal }) meaning journal s
    seat_by journal s desks sent h = subst (λ cs. SeatOk (record law { may = Sends s.who law.may cs journal }) meaning journal s) (sym sent) (subst (λ w. SeatOk (record law { may = Sends w law.may (sent_by desks) journal }) meaning journal s) (sym h.who_is) h.ok)

    -- a call that keeps all sessions keeps the worker
    pub worker_moves : (old new : List Event) (s t : SeatView) (desks : List Desk) (others : List Cause) → counts ≡ sent_by desks → WorkerOk law meaning who old s desks → SeatOk (record law { may = Sends t.who law.may counts new }) meaning new t
        → All IsOfSession t.node.replica.kept → Moves (record law { may = OwnWithin s.who law.may counts }) (node_of s old) (node_of t new) others → WorkerOk law meaning who new t desks
    worker_moves old new s t desks others sent h ok waits m = record {
      who_is = m.goes.keeps.who ∙ h.who_is;
      origin = m.goes.keeps.origin ∙ h.origin;
      ok = subst (λ cs. SeatOk (record law { may = Sends who law.may cs new }) meaning new t) sent (subst (λ w. SeatOk (record law { may = Sends w law.may counts new }) meaning new t) (m.goes.keeps.who ∙ h.who_is) ok);
      packs = m.goes.packs h.packs;
      waits = waits;
      size = h.size;
      each = λ i d at. desk_moves (record law { may = OwnWithin s.who law.may counts }) run.low (node_of s old) (node_of t new) others i d m (h.each i d at);
      home = h.home;
    }

    -- so does one that takes answers too
    pub worker_answers : (old new : List Event) (s t : SeatView) (was is : List Desk) (others : List Cause) → counts ≡ sent_by was → WorkerOk law meaning who old s was → SeatOk (record law { may = Sends t.who law.may counts new }) meaning new t
        → All IsOfSession t.node.replica.kept → Moves (record law { may = OwnWithin s.who law.may counts }) (node_of s old) (node_of t new) others → DesksOk (node_of t new) is → length is ≡ length was → IsAnswered was is → WorkerOk law meaning who new t is
    worker_answers old new s t was is others sent h ok waits m each size takes = record {
      who_is = m.goes.keeps.who ∙ h.who_is;
      origin = m.goes.keeps.origin ∙ h.origin;
      ok = subst (λ cs. SeatOk (record law { may = Sends who law.may cs new }) meaning new t) (sent ∙ sym (answered_sent was is size takes)) (subst (λ w. SeatOk (record law { may = Sends w law.may counts new }) meaning new t) (m.goes.keeps.who ∙ h.who_is) ok);
      packs = m.goes.packs h.packs;
      waits = waits;
      size = size ∙ h.size;
      each = each;
      home = λ i d at some.
          let x = takes i d at in
          h.home i x.0 x.1 (omega (arith, some, ap (λ (z : Desk). z.asked) x.2));
    }

    -- so does the end of a phase
    pub worker_ends : (old new : List Event) (s t : SeatView) (was is : List Desk) (failed : Option Cause) → counts ≡ sent_by was → WorkerOk law meaning who old s was → SeatOk (record law { may = Sends t.who law.may counts new }) meaning new t
        → EndsTurn (record law { may = OwnWithin s.who law.may counts }) (node_of s old) (node_of t new) was is failed → WorkerOk law meaning who new t is
    worker_ends old new s t was is failed sent h ok e =
        let same = e.forgets in
        let who_is = ap (λ (n : NodeView). n.who) same ∙ e.ends.moves.goes.keeps.who ∙ h.who_is in
        record {
          who_is = who_is;
          origin = ap (λ (n : NodeView). n.replica.origin) same ∙ e.ends.moves.goes.keeps.origin ∙ h.origin;
          ok = subst (λ cs. SeatOk (record law { may = Sends who law.may cs new }) meaning new t) (sent ∙ sym (ends_sent e.mid failed was is e.closes)) (subst (λ w. SeatOk (record law { may = Sends w law.may counts new }) meaning new t) who_is ok);
          packs = subst (λ (n : NodeView). CanPack n.replica.kept) (sym same) (e.ends.moves.goes.packs h.packs);
          waits = none-waits t (ap (λ (n : NodeView). n.replica.kept) same ∙ e.ends.kept);
          size = e.closes.size ∙ h.size;
          each = e.desks;
          home = λ i d at some.
              let y = was_asked i d at some in
              h.home i y.0 y.1 y.3;
        }
      where
        -- a session that asked something had asked it before
        was_asked : (i : ℕ) (d : Desk) → slice_get is i ≡ Some d → 0 < d.asked → (x : Desk) × (slice_get was i ≡ Some x) × ClosesIt e.mid failed x d × (0 < x.asked)
        was_asked i d at some =
            let y = was_at was is i d e.closes.size at in
            let one = e.closes.each i y.0 y.1 in
            let closes = subst (ClosesIt e.mid failed y.0) (same_at is i one.desk d one.is at) one.closes in (
              y.0,
              y.1,
              closes,
              ⊎_elim
                  (λ (k : 0 < y.0.asked). k)
                  (λ (k : y.0.asked ≤ 0). absurd (omega (arith, some, k, ap (λ (z : Desk). z.asked) (closes.none (let z : y.0.asked ≡ 0 = omega (arith, k) in z)))))
                  (cases_lt 0 y.0.asked),
            )
