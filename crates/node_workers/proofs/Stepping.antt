-- One step of a worker's turn after another.
use Rattle.std.proofs.Common.{◌∙◌, refl, subst, ℕ, ◌≤◌, List}
use Rattle.legal_journal.specs.Law.{Law}
use Rattle.legal_journal.specs.declared.events.Event.{Event}
use Rattle.replica_api.specs.Replica.{Meaning}
use Rattle.turn_scopes.specs.Seats.{SeatView, SeatOk}
use Rattle.turn_scopes.specs.Beside.{Since, SealsByRight}
use Rattle.turn_scopes.proofs.Beside.{since_both}
use Rattle.turn_scopes.proofs.Seals.{right_both, right_any}
use Rattle.node_lines.specs.Workers.{Sends, sent_of}
use Rattle.node_lines.specs.Steps.{IsLeft}
use Rattle.node_lines.proofs.Widening.{seat_wider}
use Rattle.node_lines.proofs.Scoping.{sends_more}

module _ {law : Law} {meaning : Meaning} {beside : ℕ → ℕ → Type 0} {right : Type 0} where
  -- where the first may begin no Seal
  pub left_both : {old mid new : List Event} {a m b : SeatView} → IsLeft law meaning beside ⊥ old a mid m → IsLeft law meaning beside right mid m new b → IsLeft law meaning beside right old a new b
  left_both {old} {mid} {new} {a} {m} {b} h k = record {
    stands = k.stands;
    who = k.who ∙ h.who;
    since = since_both a.who (beside a.who) old mid new h.since (subst (λ w. Since w (beside w) mid new) h.who k.since);
    seals = right_both right a.who old mid new (right_any right a.who old mid h.seals) (subst (λ w. SealsByRight right w mid new) h.who k.seals);
  }

  pub left_any : {old new : List Event} {a b : SeatView} → IsLeft law meaning beside ⊥ old a new b → IsLeft law meaning beside right old a new b
  left_any {old} {new} {a} h = record { stands = h.stands; who = h.who; since = h.since; seals = right_any right a.who old new h.seals }

-- once more was counted
pub seat_counted : (me : ℕ) (law : Law) (meaning : Meaning) (counts counts' : List ℕ) (journal : List Event) (s : SeatView)
    → ((t : ℕ) → sent_of counts t ≤ sent_of counts' t) → SeatOk (record law { may = Sends me law.may counts journal }) meaning journal s → SeatOk (record law { may = Sends me law.may counts' journal }) meaning journal s
seat_counted me law meaning counts counts' journal s up h = seat_wider (record law { may = Sends me law.may counts journal }) (record law { may = Sends me law.may counts' journal }) (record { may = λ user e k. sends_more me law.may counts counts' journal up user e k; floor = λ log n k. k; shelf = refl }) meaning journal s h
