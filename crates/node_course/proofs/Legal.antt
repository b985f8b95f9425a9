-- The journal of a worker is legal.
use Rattle.std.proofs.Common.{ℕ, List}
use Rattle.legal_journal.specs.Law.{Law}
use Rattle.legal_journal.specs.declared.events.Event.{Event}
use Rattle.legal_journal.specs.Journal.{IsLegal}
use Rattle.replica_api.specs.Replica.{Meaning}
use Rattle.turn_scopes.specs.Seats.{SeatView}
use Rattle.turn_scopes.proofs.Widening.{legal_wider}
use Rattle.node_lines.specs.declared.desk.Desk.{Desk}
use Rattle.node_lines.specs.Workers.{OwnWithin, Sends, WorkerOk, sent_by}

module _ (law : Law) (meaning : Meaning) (who : ℕ) (journal : List Event) (seat : SeatView) (desks : List Desk) (ok : WorkerOk law meaning who journal seat desks) where
  -- also where it binds what the worker appends by what its desks sent
  pub worker_within : IsLegal (record law { may = OwnWithin who law.may (sent_by desks) }) journal
  worker_within = legal_wider law (Sends who law.may (sent_by desks) journal) (OwnWithin who law.may (sent_by desks)) (λ user e h. h.0) journal ok.ok.node.legal

  pub worker_legal : IsLegal law journal
  worker_legal = legal_wider law (OwnWithin who law.may (sent_by desks)) law.may (λ user e h. h.0) journal worker_within
