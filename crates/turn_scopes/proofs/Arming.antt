-- A seat whose node's disk is armed.
use Rattle.std.proofs.Common.{ℕ, List}
use Rattle.legal_journal.specs.Law.{Law}
use Rattle.legal_journal.specs.declared.events.Event.{Event}
use Rattle.virtual_log.specs.Holding.{Holds}
use Rattle.replica_api.specs.Replica.{Meaning, armed_by}
use Rattle.base_engine.proofs.Whole.{ok_armed}
use Rattle.turn_scopes.specs.Seats.{SeatView, SeatOk, node_of}

abbrev pub armed_seat : SeatView → ℕ → SeatView
armed_seat s after = record s { node = record s.node { replica = armed_by s.node.replica after } }

-- it can take the fabric as before
pub seat_armed : (law : Law) (meaning : Meaning) (journal : List Event) (s : SeatView) (after : ℕ) → SeatOk law meaning journal s → SeatOk law meaning journal (armed_seat s after)
seat_armed law meaning journal s after h = record { shelf_is = h.shelf_is; goes_by = h.goes_by; node = ok_armed law Holds meaning (node_of s journal) after h.node }
