-- What a node's own line asks, and what it leaves.
use Rattle.std.specs.Prelude.{◌≡◌, ◌<◌, ◌≤◌, ◌^◌, ℕ, List, [], ◌∷◌, Option, Result, Ok, Err}
use Rattle.std.proofs.Common.{ap, ◌∙◌}
use Rattle.delos_types.specs.declared.cause.Cause.{Cause}
use Rattle.legal_journal.specs.Law.{Law}
use Rattle.engine_api.specs.Packing.{packed, trim_item}
use Rattle.replica_api.specs.Replica.{ReplicaView}
use Rattle.turn_scopes.specs.Floors.{FloorIs}
use Rattle.base_engine.specs.Node.{NodeView}
use Rattle.node_lines.specs.declared.lines.Looked.{Looked}
use Rattle.node_lines.specs.Extending.{Extends}
use Rattle.node_lines.specs.Moving.{Moves}
use Rattle.node_lines.specs.Workers.{HasNotLeft, ReportsUpTo}
use Rattle.node_lines.specs.Steps.{came_to}

-- The node, which has this number, may ask for a trim to any position: it is one of those that may be members, hasn't left,
-- and reported no position above where it is.
pub record MayAskTrim (law : Law) (number : ℕ) (node : NodeView) : Type 0 where
  pub who : node.who ≡ number
  pub few : node.who ≤ node.nodes
  pub goes_by : FloorIs law.floor node.nodes
  pub stays : HasNotLeft node.who node.seen
  pub upto : ReportsUpTo node.who node.replica.cursor node.seen
  pub own : (position : ℕ) → position < 2 ^ 64 → law.may node.who (packed node.who (trim_item position ∷ []))

-- no command of a session was lost, and nothing waits
pub record MovesOn (law : Law) (old new : NodeView) : Type 0 where
  pub others : List Cause
  pub moves : Moves law old new others
  pub kept : new.replica.kept ≡ []

pub extends_on : (law : Law) (old new : NodeView) (x : Looked) → Extends law old new x → MovesOn law old new
extends_on law old new x h = record { others = h.others; moves = h.moves; kept = ap (λ (v : ReplicaView). v.kept) h.replica ∙ h.kept }

-- what a line came to by its last step
abbrev pub comes_to : {E : Type 0} → Result (Option Cause) E → Looked → Result Looked E
comes_to (Ok failed) l = Ok (came_to failed l)
comes_to (Err e) l = Err e
