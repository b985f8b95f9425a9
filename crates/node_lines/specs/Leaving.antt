-- What comes of a line by which a node leaves.
use Rattle.std.specs.Prelude.{◌≡◌, ◌⊎◌, ◌<◌, List, [], ◌∷◌, ◌++◌, Option, None}
use Rattle.delos_types.specs.declared.cause.Cause.{Cause}
use Rattle.legal_journal.specs.Law.{Law}
use Rattle.legal_journal.specs.declared.events.Event.{Event}
use Rattle.virtual_log.specs.Holding.{Holds, IsTrimmed}
use Rattle.engine_api.specs.declared.content.Content.TheVariants as content
use Rattle.engine_api.specs.Items.{placed_from, unpack}
use Rattle.engine_api.specs.Packing.{packed, leave_item}
use Rattle.base_engine.specs.Following.{Reaches}
use Rattle.base_engine.specs.Trimming.{IsAppended}
use Rattle.base_engine.specs.Node.{NodeView}
use Rattle.node_lines.specs.declared.lines.Looked.{Looked}
use Rattle.node_lines.specs.declared.lines.Looked.TheVariants as looked
use Rattle.node_lines.specs.Moving.{Moves, CarriesFirst}
use Rattle.node_lines.specs.Lines.{failure_in}

-- The log was played as far as it is known; or the log or the disk failed. Nothing else was done.
pub record PlaysKnown (law : Law) (old new : NodeView) (failed : Option Cause) : Type 0 where
  pub moves : Moves law old new (failure_in failed)
  pub outbox : new.outbox ≡ old.outbox
  pub kept : new.replica.kept ≡ old.replica.kept
  pub reaches : failed ≡ None → Reaches old.known old.replica new.replica new.seen

-- An entry that says that the node leaves, and nothing else, was appended since then. The node has applied it, or what comes next for the
-- node is trimmed, as it may be behind a leave.
pub record HasLeft (old new : NodeView) : Type 0 where
  pub synced : List Event
  pub since : (more : List Event) × (synced ≡ old.seen ++ more)
  pub says : unpack 0 (packed old.replica.origin (leave_item old.replica.origin ∷ [])) ≡ placed_from 0 0 (content.Leave old.replica.origin ∷ [])
  pub landed : IsAppended Holds old.who synced (packed old.replica.origin (leave_item old.replica.origin ∷ [])) new.seen
  pub played : (landed.position < new.replica.cursor) ⊎ IsTrimmed new.seen new.replica.cursor

-- The node left; or the log or the disk failed.
abbrev pub LeavesSo : NodeView → NodeView → List Cause → Looked → Type 0
LeavesSo old new others looked.Left = (others ≡ []) × HasLeft old new
LeavesSo old new others (looked.Failed c) = others ≡ c ∷ []
LeavesSo old new others (looked.Kept c) = ⊥
LeavesSo old new others (looked.Found after found) = ⊥
LeavesSo old new others (looked.Extended x) = ⊥
LeavesSo old new others (looked.Reported position) = ⊥
LeavesSo old new others (looked.Trimmed trim) = ⊥

-- All was carried to its end, and the node left, or failed to.
pub record Leaves (law : Law) (old new : NodeView) (answer : Looked) : Type 0 where
  pub others : List Cause
  pub moves : Moves law old new others
  pub first : CarriesFirst law old new others
  pub none : new.outbox.entries ≡ []
  pub kept : new.replica.kept ≡ []
  pub leaves : LeavesSo old new others answer
