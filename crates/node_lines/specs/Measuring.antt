-- What a node reads off its state at a tail.
use Rattle.std.specs.Prelude.{◌≡◌, ℕ, ◌≤◌, true, List, [], ◌∷◌, length, None}
use Rattle.delos_types.specs.declared.entry.Entry.{Entry}
use Rattle.delos_types.specs.declared.cause.Cause.{Cause}
use Rattle.legal_journal.specs.Law.{Law}
use Rattle.legal_journal.specs.declared.events.Event.{Event}
use Rattle.legal_journal.specs.Journal.{state_of, tail_of}
use Rattle.virtual_log.specs.Holding.{Holds}
use Rattle.engine_api.specs.Members.{clean_at}
use Rattle.log_laws.specs.State.{IsStateOf}
use Rattle.base_engine.specs.Reading.{IsFront}
use Rattle.base_engine.specs.Node.{NodeView}
use Rattle.node_lines.specs.declared.measure.Measured.{Measured}
use Rattle.node_lines.specs.declared.measure.Measured.TheVariants as measured
use Rattle.node_lines.specs.Moving.{Moves, CarriesFirst}

-- the node has the state of a front of the log that reaches each tail that was there before
pub record StandsAt (old new : NodeView) : Type 0 where
  pub log : List Entry
  pub front : IsFront Holds new.seen log
  pub from : tail_of (state_of old.seen) ≤ length log
  pub size : length log ≡ new.replica.cursor
  pub led : IsStateOf log new.replica.contents

pub record MeasuresSo (measure : List Entry → ℕ) (old new : NodeView) (n : ℕ) : Type 0 where
  pub at : StandsAt old new
  pub is : n ≡ measure at.log

abbrev pub failure_measured : Measured → List Cause
failure_measured (measured.At n) = []
failure_measured (measured.Failed c) = c ∷ []

-- All was carried to its end, and this was read off the node's state at a tail; or the log or the disk failed.
pub record Measures (law : Law) (measure : List Entry → ℕ) (old new : NodeView) (answer : Measured) : Type 0 where
  pub moves : Moves law old new (failure_measured answer)
  pub first : CarriesFirst law old new (failure_measured answer)
  pub none : new.outbox.entries ≡ []
  pub unsettled : new.outbox.unsettled ≡ None
  pub kept : new.replica.kept ≡ []
  pub measured : (n : ℕ) → answer ≡ measured.At n → MeasuresSo measure old new n

-- so many first entries of the log are clean
pub record IsCleanPoint (journal : List Event) (n : ℕ) : Type 0 where
  pub log : List Entry
  pub front : IsFront Holds journal log
  pub within : n ≤ length log
  pub clean : clean_at log n ≡ true
