-- The answers of all sessions were taken, and then the node went on.
use Rattle.std.proofs.Common.{ℕ, ◌≤◌, List, length}
use Rattle.delos_types.specs.declared.entry.Entry.{Entry}
use Rattle.delos_types.specs.declared.cause.Cause.{Cause}
use Rattle.legal_journal.specs.Law.{Law}
use Rattle.base_engine.specs.Node.{NodeView}
use Rattle.node_lines.specs.declared.desk.Desk.{Desk}
use Rattle.node_lines.specs.Desks.{DesksOk}
use Rattle.node_lines.specs.Moving.{Moves}
use Rattle.node_lines.specs.Turns.{AllAnswered}
use Rattle.node_lines.proofs.Desks.{desk_moves}
use Rattle.node_lines.proofs.Moving.{none-before}

module _ (law : Law) (low : (log : List Entry) (n : ℕ) → law.floor log n → n ≤ length log) (old new : NodeView) (others : List Cause) (moves : Moves law old new others) (desks : List Desk) where
  pub desks_on : DesksOk old desks → DesksOk new desks
  desks_on each = λ s d at. desk_moves law low old new others s d moves (each s d at)

  pub answered_on : AllAnswered old desks → AllAnswered new desks
  answered_on all = λ s d at free. all s d at (free.0, none-before law low old new others d.session moves.goes free.1)
